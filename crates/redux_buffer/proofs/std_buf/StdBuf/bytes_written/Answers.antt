-- The end rises by `n`, or by the tail's length where that is less, which takes in a front of the tail.
use Rattle.std.proofs.Common.{arith}
use Rattle.redux_buffer.proofs.Loans.{std_took}
use Rattle.redux_buffer.proofs.std_buf.StdBuf.bytes_written.Goals as goal

pub returns-clause-bytes : goal.returns-clause-bytes
returns-clause-bytes c =
    rw (← c.self.view_is)
    (std_took c.self.inside c.args.n c.min.result (omega arith) (omega arith) (omega arith) (omega arith))
