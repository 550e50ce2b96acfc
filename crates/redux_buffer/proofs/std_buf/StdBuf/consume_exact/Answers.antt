-- A part of the storage that loses its front begins so much later; where that is its end, all are dropped.
use Rattle.std.proofs.Common.{arith}
use Rattle.std.proofs.lemmas.Grind.{common_steps}
use Rattle.redux_buffer.proofs.Ranges.{drop_range, length_range}
use Rattle.redux_buffer.proofs.std_buf.StdBuf.consume_exact.Goals as goal

pub returns-then-at-self-clause-bytes : goal.returns-then-at-self-clause-bytes
returns-then-at-self-clause-bytes c = grind (arith, common_steps, drop_range, length_range)
