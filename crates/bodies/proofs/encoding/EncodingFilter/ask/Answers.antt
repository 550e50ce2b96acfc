-- Nothing was buffered, so the reader is asked for a whole buffer: what is there came just then, and nothing is the end.
use Rattle.std.proofs.Common.{arith}
use Rattle.bodies.proofs.EncodingCalls.{came_some, read_failed}
use Rattle.bodies.proofs.encoding.EncodingFilter.ask.Goals as goal

pub returns-in-Ok : goal.returns-in-Ok
returns-in-Ok g c =
    came_some c.requires.ready _ g.met.W.TellWrite.trace_none g.met.W.TellWrite.trace_joins c.requires.lacks
    c.buffer.ensures.whole c.read_into_buf.ensures.in_order c.in-Ok.field-0 (omega (arith, c.in-Ok.field-0-test))
    c.in-Ok.ensures.reads

pub returns-in-Err : goal.returns-in-Err
returns-in-Err g c =
    read_failed c.requires.ready _ g.met.W.TellWrite.trace_none g.met.W.TellWrite.trace_joins c.requires.lacks
    c.buffer.ensures.whole c.read_into_buf.ensures.in_order c.in-Err.e c.in-Err.ensures.reads
