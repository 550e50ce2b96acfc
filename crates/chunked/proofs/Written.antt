-- What was written is a body.
use Rattle.std.proofs.Common.{◌≡◌, ℕ, List, ◌++◌, sym, ◌∙◌}
use Rattle.chunked.specs.Names.{append_cancel_left, body_end, Buffered, ChunkedWriterState, IsBodyOfChunks, LetsThrough, Limits, StdPolicy, StreamLog, WritesInOrder-contents, WritesInOrder-joins}
use Rattle.chunked.specs.RoundTrip.{WroteBody}

module _ {S : Type 0} (tells : S → StreamLog) (trace : S → S → Type 0) (first : Buffered S StdPolicy)
    (payload : List ℕ) (fields : List (List ℕ)) (w : ChunkedWriterState S) (last : Buffered S StdPolicy) (wrote : List ℕ)
    (h : WroteBody tells trace first payload fields w last wrote) where
  the_bytes : wrote ≡ w.wire ++ body_end fields
  the_bytes =
      let whole = WritesInOrder-joins first w.writer last h.taken (body_end fields) h.went.in_order h.finishes.in_order in
      let held = first.log.writes.received ++ first.block.bytes in
      append_cancel_left held wrote (w.wire ++ body_end fields)
      (sym h.gained ∙ WritesInOrder-contents first last (h.taken ++ body_end fields) whole
      ∙ (λ i. held ++ (sym h.went.wire i ++ body_end fields)))

  pub written_body : (limits : Limits) → LetsThrough fields limits → IsBodyOfChunks limits wrote payload
  written_body limits lets =
      rw h.went.accepted at (rw (← the_bytes) at (h.finishes.body limits lets))
