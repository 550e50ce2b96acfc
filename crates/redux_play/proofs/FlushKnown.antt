-- What a flush makes of a stream of which it is known what it holds.
use Rattle.std.proofs.Common.{◌≡◌, ℕ, List, ◌++◌, Option, Result, Ok, Err, OnOk, sym, ap, subst, ◌∙◌}
use Rattle.std.proofs.lemmas.List.{append_cancel_left}
use Rattle.std.specs.Io.KnownBytes.{Appends}
use Rattle.std.specs.declared.io.Error.{Error}
use Rattle.redux_buffer.specs.declared.tell.told.Told.{Told}
use Rattle.redux_buffer.specs.Told.{told_stream, told_log, ToldWrites}
use Rattle.buffer_redux.specs.Buffered.{Buffered, InnerWent}
use Rattle.buffer_redux.specs.BufWriter.{IsFlushed}

module _ {S P : Type 0} (contents : S → Option (List ℕ)) (s t : Buffered (Told S) P)
    (went : InnerWent told_log (ToldWrites contents) s t) where
  gained : IsFlushed s t → Appends (contents (told_stream s.inner)) (contents (told_stream t.inner)) s.block.bytes
  gained flushed =
      let more = went.calls.more in
      let same : more ≡ s.block.bytes =
      append_cancel_left s.log.writes.received more s.block.bytes
      (ap (λ l. l.writes.received ++ more) went.told_before ∙ sym went.calls.received
      ∙ ap (λ l. l.writes.received) (sym went.told_after) ∙ flushed.received) in
      subst (λ l. Appends (contents (told_stream s.inner)) (contents (told_stream t.inner)) l) same went.calls.held

  pub flush_gained : {A : Type 0} (answer : Result A Error) → OnOk answer (IsFlushed s t)
      → OnOk answer (Appends (contents (told_stream s.inner)) (contents (told_stream t.inner)) s.block.bytes)
  flush_gained (Ok a) flushed = gained flushed
  flush_gained (Err e) flushed = tt
