-- Of bytes that are surely payload the first are too, be they buffered, shown by a fill, or read past the buffer.
use Rattle.std.proofs.Common.{◌<◌, ap, arith, length}
use Rattle.body_reader.proofs.Filling.{show_some}
use Rattle.body_reader.proofs.Handing.{hands_after, hands_front}
use Rattle.body_reader.proofs.steps.read_sure.Goals as goal
use Rattle.body_reader.proofs.steps.read_sure.Goals.{else-most-capacity-via-then-most-capacity+else-buf_len-eq0, else-most-capacity-via-else-most-capacity}

pub returns-then-buf_len-eq0-clause-hands : goal.returns-then-buf_len-eq0-clause-hands
returns-then-buf_len-eq0-clause-hands g c = c.read_past.ensures _ c.requires.begins.none

pub returns-clause-hands : goal.returns-clause-hands
returns-clause-hands g c =
    let hands = c.hand_out in
    let room : 0 < length hands.new.out = omega (arith, c.requires.begins.some) in
    let fills = c.in_ok-known.ensures (length hands.new.out) (elim c.else-most-capacity.branch [
      | else-most-capacity-via-then-most-capacity+else-buf_len-eq0 w ↦
          λ none. absurd (omega (arith, w.if-buf_len-eq0.false, w.buf_len.ensures.value, ap length none))
      | else-most-capacity-via-else-most-capacity w ↦
          λ _. omega (arith, c.min-most.ensures, w.if-most-capacity.false, c.capacity.ensures.value)
    ]) in
    let some = show_some _ _ _ _ _ _ _ c.requires.sure.0 _ _ fills in
    hands_after _ _ _ _ _ _ _ _ _ _ room fills.0 fills.1.0 _ _ _
    (hands_front _ _ _ _ _ _ _ _ _ _ _ hands.ensures.took fills.1.1.0 some hands.ensures.count room hands.ensures.bytes
    fills.0.takes.place _ (λ _. fills.1.1.2 some))
