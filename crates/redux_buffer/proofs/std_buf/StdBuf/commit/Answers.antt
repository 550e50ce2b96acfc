-- The tail has `n` bytes at least, so raising the end by that takes in just so many of its first bytes.
use Rattle.std.proofs.Common.{◌≤◌, ◌-◌, length, ap, arith, length-drop}
use Rattle.redux_buffer.proofs.Loans.{std_took}
use Rattle.redux_buffer.proofs.std_buf.StdBuf.commit.Goals as goal

pub returns-clause-bytes : goal.returns-clause-bytes
returns-clause-bytes c =
    let b = c.self.inside in
    let fits : c.args.n ≤ b.stop - b.end =
    omega (arith, c.requires, length-drop b.end b.buf, ap (λ p. length p.block.tail) c.self.view_is) in
    rw (← c.self.view_is)
    (std_took b c.args.n c.args.n (omega arith) (omega arith) (omega arith) (omega (arith, fits)))
