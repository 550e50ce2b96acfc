-- The bytes that came stand behind those buffered, and are just what the inner reader gave.
use Rattle.buffer_redux.proofs.FillFacts.{ReadsInOrder-read_from}
use Rattle.buffer_redux.proofs.buf_reader.BufReader.read_into_buf.Goals as goal

pub returns-clause-in_order : goal.returns-clause-in_order
returns-clause-in_order g c = rw (← c.self.view_is) (ReadsInOrder-read_from _ _ _ c.read_from.ensures.read)
