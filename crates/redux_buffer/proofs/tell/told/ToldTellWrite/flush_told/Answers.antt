-- The stream keeps what it holds, and a flush adds no byte to what was received, so the trace goes on by none.
use Rattle.redux_buffer.specs.Told.{ToldWrites-flush}
use Rattle.redux_buffer.proofs.tell.told.ToldTellWrite.flush_told.Goals as goal

pub returns-clause-trace : goal.returns-clause-trace
returns-clause-trace g c = ToldWrites-flush g.S.Write.contents _ _ _ c.note.ensures c.flush-answer.ensures.bytes
