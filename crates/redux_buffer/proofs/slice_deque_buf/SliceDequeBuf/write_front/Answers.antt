-- A place within the capacity puts the tail right behind the bytes, so the loan is a front of it.
use Rattle.std.proofs.Common.{◌≡◌, ◌≤◌, ◌-◌, length, take, drop, slice_range, refl, sym, ap, ◌∙◌, arith}
use Rattle.std.proofs.lemmas.Bool.{le-ltb}
use Rattle.std.proofs.lemmas.List.{take-take}
use Rattle.redux_buffer.specs.contracts.slice_deque_buf.SliceDequeBuf.{the_view}
use Rattle.redux_buffer.proofs.Loans.{ring_tail_written}
use Rattle.redux_buffer.proofs.Ranges.{range_front, ring_tail_length}
use Rattle.redux_buffer.proofs.slice_deque_buf.SliceDequeBuf.write_front.Goals as goal

pub returns : goal.returns
returns c =
    let b = c.self.inside in
    let n = c.args.n in
    let view = c.self.view_is in
    let near : b.head ≤ b.stop - b.head =
    omega (arith, c.requires.in_front, ap (λ q. q.place) view, ap (λ q. q.block.capacity) view) in
    let in_front = le-ltb (b.stop - b.head) b.head near in
    let behind : b.stop ≤ length b.buf = omega (arith, near) in
    let is_behind = le-ltb (length b.buf) b.stop behind in
    let size = ring_tail_length b.buf b.head b.end b.stop (omega arith) (omega arith) (omega arith) (omega arith) in
    let fits : n ≤ b.stop - b.end = omega (arith, size, c.requires.fits, ap (λ q. length q.block.tail) view) in
    let shown : take n (slice_range b.buf b.end b.stop) ≡ take n (the_view b).block.tail = rw is_behind refl in (
      (refl, λ w. rw (← view, in_front) (ring_tail_written b (omega arith) (omega arith) behind w)),
      record {
        writes_back = tt;
        value = c.range_mut.ensures.value ∙ range_front b.buf b.end n
            ∙ sym (take-take n (b.stop - b.end) (drop b.end b.buf) fits) ∙ shown
            ∙ ap (λ q. take n q.block.tail) view;
      },
    )
