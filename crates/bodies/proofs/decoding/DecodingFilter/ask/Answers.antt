-- A read that gives no payload ends the body, and the look behind it answers; else the read's answer does. Bytes came in this ask
-- where more are counted behind it.
use Rattle.std.proofs.Common.{length, nat_lt, arith, ap, refl, ◌∙◌}
use Rattle.bodies.proofs.DecodingCalls.{asked_behind, asked_failed, asked_more}
use Rattle.bodies.proofs.decoding.DecodingFilter.ask.Goals as goal

pub returns-in-Ok-eq0 : goal.returns-in-Ok-eq0
returns-in-Ok-eq0 g c =
    let len = c.read_payload.auto.out ∙ ap length c.as_mut_slice.ensures.value in
    let looked = c.ask_behind.ensures in
    rw looked.equal (asked_behind g.R.TellRead.remaining c.requires.ready c.requires.lacks.0
    c.read_payload.new.self c.read_payload.new.out len c.requires.lacks.1 c.in-Ok-eq0.field-0 c.in-Ok-eq0.field-0-test
    c.in-Ok-eq0.ensures.reads c.ask_behind.new.source (nat_lt c.taken-taken.result c.taken.result)
    (rw (c.taken-taken.ensures, c.taken.ensures) refl) looked.end looked.looks looked.whole)

pub returns-in-Ok : goal.returns-in-Ok
returns-in-Ok g c =
    let len = c.read_payload.auto.out ∙ ap length c.as_mut_slice.ensures.value in
    asked_more g.R.TellRead.remaining c.requires.ready c.requires.lacks.0 c.read_payload.new.self
    c.read_payload.new.out len c.requires.lacks.1 c.in-Ok.count c.in-Ok.ensures.reads (omega (arith, c.in-Ok.count-test))

pub returns-in-Err : goal.returns-in-Err
returns-in-Err g c =
    let len = c.read_payload.auto.out ∙ ap length c.as_mut_slice.ensures.value in
    rw c.ask_error.ensures (asked_failed g.R.TellRead.remaining c.requires.ready c.requires.lacks.0
    c.read_payload.new.self c.read_payload.new.out len c.requires.lacks.1 c.in-Err.e
    (nat_lt c.taken-taken.result c.taken-in-Err.result) (rw (c.taken-taken.ensures, c.taken-in-Err.ensures) refl)
    c.in-Err.ensures.reads)
