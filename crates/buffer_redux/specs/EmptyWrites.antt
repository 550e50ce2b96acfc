-- Under `StdPolicy` a write of nothing sends nothing, so it never fails where there is capacity.
use Rattle.std.proofs.Common.{◌≡◌, ◌∙◌, ℕ, ◌<◌, List, [], ◌∷◌, ◌++◌, length, Result, Ok, Err, inl, inr, sym, ap, length-append, arith}
use Rattle.std.specs.declared.io.Error.{Error}
use Rattle.buffer_redux.specs.Policy.{amount_when_full, std_write_rules}
use Rattle.redux_buffer.specs.Block.{Block}
use Rattle.redux_buffer.specs.Copy.{TakesNothing}
use Rattle.redux_buffer.specs.StreamLog.{StreamLog, after_write}
use Rattle.buffer_redux.specs.Buffered.{Buffered}
use Rattle.buffer_redux.specs.BufWriter.{Prepared, TakesIn, Writes}
use Rattle.buffer_redux.specs.WriterLaws.{ways_in}
use Rattle.buffer_redux.specs.WriterTells.{writer_log, WriterCalled, WriterWent}

none_sent : (b : Block) (n : ℕ) → n ≡ 0 → amount_when_full b n ≡ 0
none_sent b n none = grind arith

module _ {S P : Type 0} (bs : List ℕ) (none : length bs ≡ 0) (s t : Buffered S P) where
  -- what is sent before it
  module _ (answer : Result (Unit {0}) Error) (m : Buffered S P)
      (prepared : Prepared std_write_rules (length bs) s answer m) where
    amount_none : prepared.amount.0 ≡ 0
    amount_none = prepared.asked.allowed.2 ∙ none_sent s.block (length bs) none

    answered : answer ≡ Ok tt
    answered = (prepared.flush.idle (inl amount_none)).answered

    still_room : 0 < s.block.capacity → 0 < m.block.capacity
    still_room room = omega (
      arith,
      room,
      prepared.asked.law.capacity,
      ap (λ b. b.capacity) (prepared.flush.idle (inl amount_none)).buffer,
    )

  taken_in : (m : Buffered S P) (e : Error) → 0 < m.block.capacity → TakesIn bs m (Err e) t → ⊥
  taken_in m e room took = elim (ways_in m.block (length bs)) [
    | inl past ↦ omega (arith, past.1, room, none)
    | inr inside ↦ (let odd = (took.inside inside).answered in cc)
  ]

  pub never_fails : (e : Error) → 0 < s.block.capacity → Writes std_write_rules s bs (Err e) t → ⊥
  never_fails e room (inl refused) = refused.asked.allowed
  never_fails e room (inr (inl prepared)) = (let odd = answered (Err e) t prepared in cc)
  never_fails e room (inr (inr faulted)) =
      taken_in faulted.before e (still_room (Ok tt) faulted.before faulted.prepared room) faulted.took_in

same_faults : (faults faults' : List Error) (e : Error) → faults' ≡ faults → faults' ≡ faults ++ e ∷ [] → ⊥
same_faults faults faults' e same more = omega (arith, ap length same, ap length more, length-append faults (e ∷ []))

module _ {S P : Type 0} (tells : S → StreamLog) (trace : S → S → Type 0) (s t : Buffered S P) (e : Error)
    (room : 0 < s.block.capacity)
    (told : writer_log t ≡ after_write (writer_log s) [] (Err e)) where
  by_write : (bs : List ℕ) (answer : Result ℕ Error) → Writes std_write_rules s bs answer t
      → t.own_calls ≡ after_write s.own_calls bs answer → ⊥
  by_write bs (Ok n) steps noted =
      same_faults s.own_calls.writes.faults t.own_calls.writes.faults e (ap (λ l. l.writes.faults) noted)
      (ap (λ l. l.writes.faults) told)
  by_write bs (Err d) steps noted =
      never_fails bs (sym (ap (λ l. l.writes.offer) noted) ∙ ap (λ l. l.writes.offer) told) s t d room steps

  pub no_empty_failure : WriterCalled tells trace std_write_rules s t → ⊥
  no_empty_failure called = elim called.steps [
    | inl write ↦ by_write write.0 write.1 write.2 write.3
    | inr flush ↦ omega (arith, ap (λ l. l.writes.asks) flush.2, ap (λ l. l.writes.asks) told)
  ]

pub TakesNothing-std : {S P : Type 0} (tells : S → StreamLog) (trace : S → S → Type 0) (s : Buffered S P)
    → 0 < s.block.capacity
    → TakesNothing writer_log (WriterWent trace std_write_rules) (WriterCalled tells trace std_write_rules) s
TakesNothing-std tells trace s room =
    λ before after e went called told.
    no_empty_failure tells trace before after e (omega (arith, room, went.capacity)) told called
