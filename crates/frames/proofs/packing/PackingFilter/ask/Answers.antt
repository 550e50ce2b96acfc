-- The reader's step answers, unless its end is known; a fault came behind bytes where more is left than before.
use Rattle.std.proofs.Common.{length, nat_lt, refl, sym, ◌∙◌}
use Rattle.piece_filter.specs.PiecesCalls.{asked_ended}
use Rattle.frames.specs.Packing.{packing}
use Rattle.frames.proofs.Packs.{asked_fault, asked_long, asked_more, asked_none}
use Rattle.frames.proofs.packing.PackingFilter.ask.Goals as goal

pub returns-in-Ok-Some : goal.returns-in-Ok-Some
returns-in-Ok-Some g c =
    let step = rw c.in-Ok-Some.field-0-is at c.in-Ok-Some.ensures in
    asked_more g.R.TellRead.remaining c.requires.ready c.requires.lacks.0
    (sym c.has_ended.ensures.value ∙ c.if-has_ended.false) c.step.new.self c.in-Ok-Some.span step.lends
    c.requires.lacks.1 step.next

pub returns-in-Ok-None : goal.returns-in-Ok-None
returns-in-Ok-None g c =
    asked_none g.R.TellRead.remaining c.requires.ready c.requires.lacks.0
    (sym c.has_ended.ensures.value ∙ c.if-has_ended.false) c.step.new.self
    (rw c.in-Ok-None.field-0-is at c.in-Ok-None.ensures.next)

pub returns-in-Err-TooLong : goal.returns-in-Err-TooLong
returns-in-Err-TooLong g c =
    asked_long g.R.TellRead.remaining c.requires.ready c.requires.lacks.0
    (sym c.has_ended.ensures.value ∙ c.if-has_ended.false) c.step.new.self
    c.in-Err-TooLong.field-0-0 (rw c.in-Err-TooLong.field-0-is at c.in-Err-TooLong.ensures.next)

pub returns-in-Err-Io : goal.returns-in-Err-Io
returns-in-Err-Io g c =
    rw c.of_fault.ensures (asked_fault g.R.TellRead.remaining c.requires.ready c.requires.lacks.0
    (sym c.has_ended.ensures.value ∙ c.if-has_ended.false) c.step.new.self c.in-Err-Io.e
    (rw c.in-Err-Io.field-0-is at c.in-Err-Io.ensures.next) (nat_lt (length c.rest-have.result.now) (length c.rest.result.now))
    (rw (c.rest-have.ensures.value, c.rest.ensures.value) refl))

pub returns-then-has_ended : goal.returns-then-has_ended
returns-then-has_ended g c =
    asked_ended g.R.TellRead.remaining packing c.requires.ready c.requires.lacks.0
    (sym c.has_ended.ensures.value ∙ c.if-has_ended.true)
