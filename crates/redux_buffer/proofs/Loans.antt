-- What the storage of a buffer shows once it was written through a loan, or more of it holds bytes.
use Rattle.std.proofs.Common.{◌≡◌, ◌≤◌, ◌+◌, ◌-◌, ◌++◌, ℕ, List, length, min, true, inl, inr, sym, ap, refl, ◌∙◌, arith, take, drop, slice_range, length-drop}
use Rattle.std.proofs.lemmas.Bool.{cases_lt, le-ltb, le-leb}
use Rattle.std.proofs.lemmas.List.{drop-drop, drop_all}
use Rattle.std.proofs.lemmas.Slice.{between_to_end}
use Rattle.redux_buffer.specs.Block.{BytesWritten, overwrite, with_tail}
use Rattle.redux_buffer.specs.declared.std_buf.StdBuf.TheInside.{Inside as StdInside}
use Rattle.redux_buffer.specs.contracts.std_buf.StdBuf.{the_view as std_view}
use Rattle.redux_buffer.specs.declared.slice_deque_buf.SliceDequeBuf.TheInside.{Inside as RingInside}
use Rattle.redux_buffer.specs.contracts.slice_deque_buf.SliceDequeBuf.{the_view as ring_view}
use Rattle.redux_buffer.proofs.Ranges.{drop_range, drop_refilled_from, length_range, length_refilled_from, range_refilled, range_refilled_below, range_takes, refilled_from}

-- a plain buffer whose tail was written
pub std_tail_written : (b : StdInside) (w : List ℕ) → b.end ≤ length b.buf
    → std_view (record b { buf = refilled_from b.buf b.end w }) ≡ with_tail (std_view b) w
std_tail_written b w within =
    let p = std_view b in
    let bytes = range_refilled_below b.buf b.pos b.end b.end w (omega arith) within in
    let tail = drop_refilled_from b.buf b.end w within in
    (λ i. record p { block = record p.block { bytes = bytes i; tail = tail i } })

-- no more is dropped than there is
drop_min : (n : ℕ) (xs : List ℕ) → drop (min n (length xs)) xs ≡ drop n xs
drop_min n xs = elim (cases_lt n (length xs)) [
  | inl short ↦ (let same : min n (length xs) ≡ n = omega (arith, short) in ap (λ m. drop m xs) same)
  | inr all ↦ drop_all (min n (length xs)) xs (omega (arith, all)) ∙ sym (drop_all n xs (omega (arith, all)))
]

-- a plain buffer that took in a front of its tail
pub std_took : (b : StdInside) (n k : ℕ) → b.pos ≤ b.end → b.end ≤ b.stop → b.stop ≡ length b.buf
    → k ≡ min n (b.stop - b.end) → BytesWritten n (std_view b).block (std_view (record b { end = b.end + k })).block
std_took b n k ordered fits all is = record {
  bytes = ap (λ k. slice_range b.buf b.pos (b.end + k)) is ∙ range_takes b.buf b.pos b.end b.stop n ordered fits (omega arith)
      ∙ ap (λ l. slice_range b.buf b.pos b.end ++ take n l) (between_to_end b.buf b.end b.stop (omega arith));
  tail =
      let rest = drop b.end b.buf in
      let room : b.stop - b.end ≡ length rest = omega (arith, all, length-drop b.end b.buf) in
      sym (drop-drop k b.end b.buf) ∙ ap (λ j. drop j rest) (is ∙ ap (λ j. min n j) room) ∙ drop_min n rest;
  capacity = refl;
  limit = refl;
  kind = refl;
  consumed = refl;
}

-- the same of a ring whose tail is behind the bytes
module _ (b : RingInside) (ordered : b.head ≤ b.end) (fits : b.end ≤ b.stop) (behind : b.stop ≤ length b.buf) where
  pub ring_tail_written : (w : List ℕ)
      → ring_view (record b { buf = refilled_from b.buf b.end w })
      ≡ (let p = ring_view b in record p { block = record p.block { tail = overwrite p.block.tail w } })
  ring_tail_written w =
      let p = ring_view b in
      let storage = refilled_from b.buf b.end w in
      let all = length_refilled_from b.buf b.end w (omega arith) in
      let bytes = range_refilled_below b.buf b.head b.end b.end w (omega arith) (omega arith) in
      let tail = range_refilled b.buf b.end b.stop w fits behind in
      rw (
        le-ltb (length b.buf) b.stop behind,
        le-leb b.stop (length b.buf) behind,
        le-ltb (length storage) b.stop (omega (arith, all)),
        le-leb b.stop (length storage) (omega (arith, all)),
      )
      (λ i. record p { block = record p.block { bytes = bytes i; tail = tail i; tail_behind = true } })

  pub ring_took : (n k : ℕ) → k ≡ min n (b.stop - b.end)
      → BytesWritten n (ring_view b).block (ring_view (record b { end = b.end + k })).block
  ring_took n k is =
      let rest = slice_range b.buf b.end b.stop in
      let room = length_range b.buf b.end b.stop fits behind in
      rw (le-ltb (length b.buf) b.stop behind) (record {
        bytes = ap (λ k. slice_range b.buf b.head (b.end + k)) is
            ∙ range_takes b.buf b.head b.end b.stop n ordered fits behind;
        tail = sym (drop_range b.buf b.end b.stop k (omega (arith, is)))
            ∙ ap (λ j. drop j rest) (is ∙ ap (λ j. min n j) (sym room)) ∙ drop_min n rest;
        capacity = refl;
        limit = refl;
        kind = refl;
        consumed = refl;
      })
