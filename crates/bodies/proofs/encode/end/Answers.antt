-- No payload is due, so the body's end is taken in whole, or nothing is; behind it the flush answers.
use Rattle.bodies.proofs.Ending.{ends_badly, ends_not, ends_well}
use Rattle.bodies.proofs.encode.end.Goals as goal

pub returns-in-Ok-flush : goal.returns-in-Ok-flush
returns-in-Ok-flush g c =
    ends_well g.W.Tell.log g.W.TellWrite.trace c.args.body c.in-Ok.target c.flush.new.self c.in-Ok.ensures.finishes
    c.in-Ok-flush.ensures.flushed

pub returns-in-Err-flush : goal.returns-in-Err-flush
returns-in-Err-flush g c =
    ends_badly g.W.Tell.log g.W.TellWrite.trace c.args.body c.in-Ok.target c.flush.new.self c.in-Ok.ensures.finishes
    c.in-Err-flush.e c.in-Err-flush.ensures.flushed

pub returns-in-Err : goal.returns-in-Err
returns-in-Err g c =
    rw c.into_inner_torn.ensures
    (ends_not g.W.Tell.log g.W.TellWrite.trace c.args.body c.in-Err.field-0.0 c.requires.between c.in-Err.field-0.1
    c.in-Err.ensures.finishes)
