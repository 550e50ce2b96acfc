-- How many writes of the inner writer fail in a write of all bytes.
use Rattle.std.proofs.Common.{◌≡◌, ◌∙◌, ℕ, zero, suc, ◌+◌, ◌*◌, ◌≤◌, List, ◌∷◌, [], ◌++◌, length, take, drop, Result, Ok, Err, MatchResult, IfErr, refl, ap, subst, arith, inl, inr, true, length-append, length-drop}
use Rattle.std.specs.declared.io.Error.{Error}
use Rattle.std.specs.declared.io.ErrorKind.TheVariants.{WriteZero}
use Rattle.redux_buffer.specs.Faults.{FaultsOften, FewFaults, IsInterrupt, SendErrorCaused, failure_count, interrupt_limit}
use Rattle.redux_buffer.specs.Retried.{InterruptedSteps, Retried}
use Rattle.redux_buffer.specs.StreamLog.{StreamLog, WriteLog, after_write}
use Rattle.redux_buffer.specs.TransferLaws.{Sends-few}
use Rattle.buffer_redux.specs.Policy.{WriteRules}
use Rattle.buffer_redux.specs.AllBytes.{EndsBy}
use Rattle.buffer_redux.specs.Buffered.{Buffered}
use Rattle.buffer_redux.specs.BufWriter.{FlushesAmount, TakesIn, Writes}
use Rattle.buffer_redux.specs.WriterLaws.{flush_ways, ways_in}
use Rattle.buffer_redux.specs.WriteAll.{LastTurnFailed, OneWrite, WriteTurns, WritesAll}
use Rattle.buffer_redux.proofs.WriterFacts.{writes_keep, writes_steadily}

module _ {S P : Type 0} where
  -- a log that stays met nothing
  few_same : (failed : ℕ) (s t : Buffered S P) → t.log ≡ s.log → FewFaults failed s.log.writes t.log.writes
  few_same failed s t same =
      omega (arith, ap (λ l. length l.writes.faults) same, ap (λ l. length l.writes.received) same)

  -- a flush of an amount, and taking bytes in
  flushes_few : (amount : ℕ) (s t : Buffered S P) (answer : Result (Unit {0}) Error) → FlushesAmount amount s answer t
      → FewFaults (failure_count answer) s.log.writes t.log.writes
  flushes_few amount s t answer f = elim (flush_ways amount (length s.block.bytes)) [
    | inl none ↦ few_same (failure_count answer) s t (f.idle none).told
    | inr some ↦ Sends-few amount s.block t.block s.log t.log answer (f.sends some.0 some.1)
  ]

  direct_few : (bs : List ℕ) (s t : Buffered S P) (answer : Result ℕ Error) → t.log ≡ after_write s.log bs answer
      → FewFaults (failure_count answer) s.log.writes t.log.writes
  direct_few bs s t (Ok n) told = omega (
    arith,
    ap (λ l. length l.writes.faults) told,
    ap (λ l. length l.writes.received) told,
    length-append s.log.writes.received (take n bs),
  )
  direct_few bs s t (Err e) told = omega (
    arith,
    ap (λ l. length l.writes.faults) told,
    ap (λ l. length l.writes.received) told,
    length-append s.log.writes.faults (e ∷ []),
    length-append s.log.writes.received [],
  )

  takes_few : (bs : List ℕ) (s t : Buffered S P) (answer : Result ℕ Error) → TakesIn bs s answer t
      → FewFaults (failure_count answer) s.log.writes t.log.writes
  takes_few bs s t answer took = elim (ways_in s.block (length bs)) [
    | inl past ↦ direct_few bs s t answer (took.past past).told
    | inr inside ↦ few_same (failure_count answer) s t (took.inside inside).told
  ]

module _ {S P : Type 0} (tells : S → StreamLog) (trace : S → S → Type 0) (rules : WriteRules P) where
  -- a write, of which a flush fails at most once
  writes_few : (bs : List ℕ) (s : Buffered S P) (answer : Result ℕ Error) (t : Buffered S P) → Writes rules s bs answer t
      → FewFaults 1 s.log.writes t.log.writes
  writes_few bs s (Ok n) t w = omega (
    arith,
    few_same 0 s w.prepared.seen w.prepared.told,
    flushes_few (w.prepared.amount.0) w.prepared.seen w.before (Ok tt) w.prepared.flush,
    takes_few bs w.before w.after (Ok n) w.took_in,
    last (w.finished.flushed) (flushes_few (w.finished.amount.0) _ t w.finished.flushed w.finished.flush),
  )
    where
      last : (flushed : Result (Unit {0}) Error) → FewFaults (failure_count flushed) w.after.log.writes t.log.writes
          → FewFaults 1 w.after.log.writes t.log.writes
      last (Ok x) few = omega (arith, few)
      last (Err e) few = few
  writes_few bs s (Err e) t (inl refused) = few_same 1 s t refused.told
  writes_few bs s (Err e) t (inr (inl prepared)) = omega (
    arith,
    few_same 0 s prepared.seen prepared.told,
    flushes_few (prepared.amount.0) prepared.seen t (Err e) prepared.flush,
  )
  writes_few bs s (Err e) t (inr (inr faulted)) = omega (
    arith,
    few_same 0 s faulted.prepared.seen faulted.prepared.told,
    flushes_few (faulted.prepared.amount.0) faulted.prepared.seen faulted.before (Ok tt) faulted.prepared.flush,
    takes_few bs faulted.before t (Err e) faulted.took_in,
  )

  module _ (bs : List ℕ) where
    interrupted_few : (k : ℕ) (s t : Buffered S P) → InterruptedSteps (OneWrite tells trace rules bs) k s t
        → FewFaults k s.log.writes t.log.writes
    interrupted_few zero s t same = few_same 0 s t (ap (λ x. x.log) (same_from s t same))
      where
        same_from : (s t : Buffered S P) → s ≡ t → t ≡ s
        same_from s t e = subst (λ x. x ≡ s) e refl
    interrupted_few (suc k) s t (m, first, e, is, one) =
        omega (arith, interrupted_few k s m first, writes_few bs m (Err e) t one.steps)

    row_few : (s : Buffered S P) (answer : Result ℕ Error) (t : Buffered S P)
        → Retried (OneWrite tells trace rules bs) s answer t → FewFaults (interrupt_limit + 1) s.log.writes t.log.writes
    row_few s answer t row = omega (
      arith,
      interrupted_few row.count s row.last row.interrupted,
      writes_few bs row.last answer t row.went.steps,
      row.most,
    )

  turns_few : (bs : List ℕ) (k count : ℕ) (s t : Buffered S P) → WriteTurns tells trace rules bs k count s t
      → FewFaults ((interrupt_limit + 1) * count) s.log.writes t.log.writes
  turns_few bs zero count s t (none, same) = few_same _ s t (ap (λ x. x.log) (subst (λ x. x ≡ s) same refl))
  turns_few bs (suc k) count s t (before, m, run, turn) = omega (
    arith,
    turns_few bs k before s m run,
    row_few (drop before bs) m (Ok turn.further) t turn.row,
    turn.some,
    turn.adds,
  )

  -- for each byte of the slice there is one row of writes at most
  pub all_few : (s : Buffered S P) (bs : List ℕ) (answer : Result (Unit {0}) Error) (t : Buffered S P)
      → WritesAll tells trace rules s bs answer t
      → FewFaults ((interrupt_limit + 1) * length bs) s.log.writes t.log.writes
  all_few s bs answer t all = of answer all.ended
    where
      few : FewFaults ((interrupt_limit + 1) * all.count) s.log.writes all.last.log.writes
      few = turns_few bs all.turns all.count s all.last all.run

      of : (answer : Result (Unit {0}) Error) → MatchResult answer (λ _. (all.count ≡ length bs) × (t ≡ all.last))
          (λ e. LastTurnFailed tells trace rules (drop all.count bs) e all.last t)
          → FewFaults ((interrupt_limit + 1) * length bs) s.log.writes t.log.writes
      of (Ok _) (whole, same) = omega (arith, few, whole, few_same 0 all.last t (ap (λ x. x.log) same))
      of (Err e) failed = omega (
        arith,
        few,
        row_few (drop all.count bs) all.last failed.answer t failed.row,
        failed.some,
        length-drop all.count bs,
      )

-- a write that was interrupted by the inner writer met a fault
interrupted_once : (old new : WriteLog) (e : Error) → IsInterrupt e → SendErrorCaused old new e
    → length old.faults + 1 ≤ length new.faults
interrupted_once old new e is sent = elim sent.cause [
  | inl nothing ↦ (let odd = nothing.is_write_zero in cc)
  | inr fault ↦ omega (
    arith,
    ap length fault.faults,
    length-append (old.faults ++ sent.interrupts) (e ∷ []),
    length-append old.faults sent.interrupts,
  )
]

module _ {S P : Type 0} (tells : S → StreamLog) (trace : S → S → Type 0) (rules : WriteRules P) where
  abbrev Steady : Buffered S P → Type 0
  Steady s = (rules.claims s.policy).steady ≡ true

  write_often : (bs : List ℕ) (s t : Buffered S P) (e : Error) → Steady s → IsInterrupt e
      → OneWrite tells trace rules bs s (Err e) t → length s.log.writes.faults + 1 ≤ length t.log.writes.faults
  write_often bs s t e steady is one =
      interrupted_once s.log.writes t.log.writes e is (writes_steadily rules s bs (Err e) t one.steps steady).0

  interrupted_often : (bs : List ℕ) (k : ℕ) (s t : Buffered S P) → Steady s
      → InterruptedSteps (OneWrite tells trace rules bs) k s t
      → (length s.log.writes.faults + k ≤ length t.log.writes.faults) × Steady t
  interrupted_often bs zero s t steady same =
      (omega (arith, ap (λ x. length x.log.writes.faults) same), subst Steady same steady)
  interrupted_often bs (suc k) s t steady (m, first, e, is, one) =
      let before = interrupted_often bs k s m steady first in (
        omega (arith, before.0, write_often bs m t e before.1 is one),
        ap (λ c. c.steady) (writes_keep rules m bs (Err e) t one.steps).claims ∙ before.1,
      )

  -- so many writes were interrupted before `Interrupted` is answered
  pub all_often : (s : Buffered S P) (bs : List ℕ) (answer : Result (Unit {0}) Error) (t : Buffered S P)
      → WritesAll tells trace rules s bs answer t → Steady s
      → IfErr answer (λ e. IsInterrupt e → FaultsOften s.log.writes t.log.writes)
  all_often s bs (Ok x) t all steady = tt
  all_often s bs (Err e) t all steady = of all.ended.answer all.ended.ends all.ended.row
    where
      of : (answer : Result ℕ Error) → EndsBy WriteZero answer e
          → Retried (OneWrite tells trace rules (drop all.count bs)) all.last answer t → IsInterrupt e
          → FaultsOften s.log.writes t.log.writes
      of (Ok k) ends row is = (let odd = ends.1 in cc)
      of (Err x) ends row is =
          let same : IsInterrupt x = subst IsInterrupt (subst (λ y. y ≡ x) ends refl) is in
          let keeps = all.first.keeps in
          let before = interrupted_often (drop all.count bs) row.count all.last row.last
          (ap (λ c. c.steady) keeps.claims ∙ steady) row.interrupted in
          omega (
            arith,
            before.0,
            row.often same,
            write_often (drop all.count bs) row.last t x before.1 same row.went,
            ap length keeps.grows.faults.equal,
            length-append s.log.writes.faults keeps.grows.faults.more,
          )
