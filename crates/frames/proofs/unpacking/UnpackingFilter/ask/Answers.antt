-- The reader's step answers; a fault came behind bytes where more is left than before.
use Rattle.std.proofs.Common.{length, nat_lt, refl}
use Rattle.frames.proofs.Unpacks.{asked_cut, asked_fault, asked_long, asked_more, asked_none}
use Rattle.frames.proofs.unpacking.UnpackingFilter.ask.Goals as goal

pub returns-in-Ok-Some : goal.returns-in-Ok-Some
returns-in-Ok-Some g c =
    let step = rw c.in-Ok-Some.field-0-is at c.in-Ok-Some.ensures in
    asked_more g.R.TellRead.remaining c.requires.ready c.requires.lacks.0 c.step.new.self c.in-Ok-Some.span step.lends
    c.requires.lacks.1 step.next

pub returns-in-Ok-None : goal.returns-in-Ok-None
returns-in-Ok-None g c =
    asked_none g.R.TellRead.remaining c.requires.ready c.requires.lacks.0 c.step.new.self
    (rw c.in-Ok-None.field-0-is at c.in-Ok-None.ensures.next)

pub returns-in-Err-TooLong : goal.returns-in-Err-TooLong
returns-in-Err-TooLong g c =
    asked_long g.R.TellRead.remaining c.requires.ready c.requires.lacks.0 c.step.new.self c.in-Err-TooLong.field-0-0
    (rw c.in-Err-TooLong.field-0-is at c.in-Err-TooLong.ensures.next)

pub returns-in-Err-Truncated : goal.returns-in-Err-Truncated
returns-in-Err-Truncated g c =
    asked_cut g.R.TellRead.remaining c.requires.ready c.requires.lacks.0 c.step.new.self c.in-Err-Truncated.field-0-0
    (rw c.in-Err-Truncated.field-0-is at c.in-Err-Truncated.ensures.next)

pub returns-in-Err-Io : goal.returns-in-Err-Io
returns-in-Err-Io g c =
    rw c.of_fault.ensures (asked_fault g.R.TellRead.remaining c.requires.ready c.requires.lacks.0 c.step.new.self c.in-Err-Io.e
    (rw c.in-Err-Io.field-0-is at c.in-Err-Io.ensures.next) (nat_lt (length c.rest-have.result.now) (length c.rest.result.now))
    (rw (c.rest-have.ensures.value, c.rest.ensures.value) refl))
