-- How a seek that was noted fits what it did.
use Rattle.std.proofs.Common.{◌≡◌, ◌∙◌, ℕ, [], ◌++◌, Result, Ok, Err, inl, inr, refl, ap, append-nil, append_assoc}
use Rattle.std.specs.Prelude.{MatchResult}
use Rattle.std.specs.declared.io.Error.{Error}
use Rattle.std.specs.declared.io.traits.SeekFrom.{SeekFrom}
use Rattle.redux_buffer.specs.StreamLog.{StreamLog, Readies, SeekTells, with_flush, with_ready, with_shown, after_flush, after_seek}
use Rattle.buffer_redux.specs.Buffered.{Buffered, with_calls}
use Rattle.buffer_redux.specs.BufWriter.{IsFlushed, WasFlushed, WasSought, WritesInOrder}
use Rattle.buffer_redux.specs.ReaderTells.{drops_shown, reader_log}
use Rattle.buffer_redux.specs.Seek.{SeekLeaves}
use Rattle.buffer_redux.specs.WriterTells.{flushes_received, writer_log}

module _ {S P : Type 0} (s m : Buffered S P) (to : SeekFrom) where
  pub reader_sought : (answer : Result ℕ Error) → SeekLeaves s answer m
      → SeekTells drops_shown (reader_log s) to answer (with_shown (after_seek s.own_calls to answer) m.block.bytes)
  reader_sought (Ok n) left = record {
    flushed = s.own_calls.writes.flushed;
    shown = m.block.bytes;
    told = refl;
    flushes = inl refl;
    drops = inr left.ok.bytes;
    ready = ap (with_ready (reader_log s) s.own_calls.writes.flushed) left.ok.bytes;
  }
  reader_sought (Err e) left = elim left.err [
    | inl same ↦ record {
      flushed = s.own_calls.writes.flushed;
      shown = m.block.bytes;
      told = refl;
      flushes = inl refl;
      drops = inl (ap (λ b. b.bytes) same);
      ready = inl (ap (λ b. with_ready (reader_log s) s.own_calls.writes.flushed b.bytes) same);
    }
    | inr clears ↦ record {
      flushed = s.own_calls.writes.flushed;
      shown = m.block.bytes;
      told = refl;
      flushes = inl refl;
      drops = inr clears.bytes;
      ready = inr (ap (with_ready (reader_log s) s.own_calls.writes.flushed) clears.bytes);
    }
  ]

  -- no byte of a writer is lost, so what it received stays
  holds : WritesInOrder s [] m
      → m.log.writes.received ++ m.block.bytes ≡ s.log.writes.received ++ s.block.bytes
  holds wrote = ap (λ l. l ++ m.block.bytes) wrote.received
      ∙ append_assoc s.log.writes.received wrote.sent m.block.bytes
      ∙ ap (λ l. s.log.writes.received ++ l) (wrote.equal ∙ append-nil s.block.bytes)

-- a flush that failed flushed nothing
stays_flushed : (sending answer : Result (Unit {0}) Error) (sent new : StreamLog) (e : Error) → answer ≡ Err e
    → MatchResult sending (λ _. new ≡ after_flush sent answer) (λ e. (answer ≡ Err e) × (new ≡ sent))
    → new.writes.flushed ≡ sent.writes.flushed
stays_flushed (Ok _) answer sent new e failed told = ap (λ l. l.writes.flushed) told
    ∙ ap (with_flush sent.writes.flushed sent.writes.received) failed
stays_flushed (Err e') answer sent new e failed told = ap (λ l. l.writes.flushed) told.1

-- the same log, where all that was received is flushed
abbrev all_flushed : StreamLog → StreamLog
all_flushed log = record log { writes = record log.writes { flushed = log.writes.received } }

module _ {S P : Type 0} (tells : S → StreamLog) (trace : S → S → Type 0) (readies : Readies) (s m : Buffered S P)
    (to : SeekFrom) where
  after_failed_flush : (e : Error) → WasFlushed tells trace s (Err e) m
      → SeekTells flushes_received (writer_log s) to (Err e) (writer_log (with_calls m (after_seek s.own_calls to (Err e))))
  after_failed_flush e was =
      let held = holds s m to was.in_order in
      let flushed = stays_flushed was.steps.sending (Err e) was.steps.sent_log m.log e refl was.steps.ended
      ∙ was.steps.sends.sent.flushed in record {
        flushed = s.log.writes.flushed;
        shown = s.own_calls.fills.shown;
        told = λ i. after_seek (record s.own_calls {
          writes = record s.own_calls.writes { received = held i; flushed = flushed i };
        }) to (Err e);
        flushes = inl refl;
        drops = inl refl;
        ready = inl refl;
      }

  after_flush_of : (answer : Result ℕ Error) (left : Buffered S P) → IsFlushed s left
      → m.block ≡ left.block → SeekTells readies left.log to answer m.log
      → flushes_received (writer_log s) answer (all_flushed (writer_log s))
      → SeekTells flushes_received (writer_log s) to answer (writer_log (with_calls m (after_seek s.own_calls to answer)))
  after_flush_of answer left flushed block sought ready =
      let received = ap (λ l. l.writes.received) sought.told ∙ flushed.received in
      let empty = ap (λ b. b.bytes) block ∙ flushed.empty in
      let held = (λ i. received i ++ empty i) ∙ append-nil (s.log.writes.received ++ s.block.bytes) in
      let all = ap (λ l. l.writes.flushed) sought.told ∙ elim sought.flushes [
        | inl same ↦ same ∙ flushed.flushed
        | inr all ↦ all
      ] ∙ flushed.received in record {
        flushed = s.log.writes.received ++ s.block.bytes;
        shown = s.own_calls.fills.shown;
        told = λ i. after_seek (record s.own_calls {
          writes = record s.own_calls.writes { received = held i; flushed = all i };
        }) to answer;
        flushes = inr refl;
        drops = inl refl;
        ready = ready;
      }

  sought_from : (flushing : Result (Unit {0}) Error) (answer : Result ℕ Error) (left : Buffered S P)
      → WasFlushed tells trace s flushing left → m.block ≡ left.block
      → MatchResult flushing (λ _. SeekTells readies left.log to answer m.log) (λ e. (answer ≡ Err e) × (m ≡ left))
      → SeekTells flushes_received (writer_log s) to answer (writer_log (with_calls m (after_seek s.own_calls to answer)))
  sought_from (Ok _) (Ok n) left was block sought = after_flush_of (Ok n) left was.ok block sought refl
  sought_from (Ok _) (Err e) left was block sought = after_flush_of (Err e) left was.ok block sought (inr refl)
  sought_from (Err e) answer left was block ended = rw (ended.0) (after_failed_flush e (rw ended.1 was))

  pub writer_sought : (answer : Result ℕ Error) → WasSought tells trace readies s to answer m
      → SeekTells flushes_received (writer_log s) to answer (writer_log (with_calls m (after_seek s.own_calls to answer)))
  writer_sought answer sought = sought_from sought.flushing answer sought.left sought.flushed sought.block sought.ended
