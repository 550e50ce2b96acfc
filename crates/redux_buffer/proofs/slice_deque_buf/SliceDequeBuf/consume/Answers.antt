-- A part of the storage that loses its front begins so much later; where `n` is no less than it, none is left.
use Rattle.std.proofs.Common.{arith}
use Rattle.std.proofs.lemmas.Grind.{common_steps}
use Rattle.redux_buffer.proofs.Ranges.{drop_range, length_range}
use Rattle.redux_buffer.proofs.slice_deque_buf.SliceDequeBuf.consume.Goals as goal

pub returns-then-n-len-clause-bytes : goal.returns-then-n-len-clause-bytes
returns-then-n-len-clause-bytes c = grind (arith, common_steps, drop_range, length_range)
