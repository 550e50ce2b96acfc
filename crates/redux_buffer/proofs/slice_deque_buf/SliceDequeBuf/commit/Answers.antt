-- A place within the capacity puts the tail right behind the bytes, so raising the end takes in its front.
use Rattle.std.proofs.Common.{◌≤◌, ◌-◌, length, ap, arith}
use Rattle.redux_buffer.proofs.Loans.{ring_took}
use Rattle.redux_buffer.proofs.Ranges.{ring_tail_length}
use Rattle.redux_buffer.proofs.slice_deque_buf.SliceDequeBuf.commit.Goals as goal

pub returns-clause-bytes : goal.returns-clause-bytes
returns-clause-bytes c =
    let b = c.self.inside in
    let n = c.args.n in
    let view = c.self.view_is in
    let behind : b.stop ≤ length b.buf =
    omega (arith, c.requires.in_front, ap (λ q. q.place) view, ap (λ q. q.block.capacity) view) in
    let size = ring_tail_length b.buf b.head b.end b.stop (omega arith) (omega arith) (omega arith) (omega arith) in
    let fits : n ≤ b.stop - b.end = omega (arith, size, c.requires.fits, ap (λ q. length q.block.tail) view) in
    rw (← view) (ring_took b (omega arith) (omega arith) behind n n (omega (arith, fits)))
