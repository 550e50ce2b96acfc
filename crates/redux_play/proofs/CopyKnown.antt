-- What copying moves from a reader of which it is known what is left.
use Rattle.std.proofs.Common.{◌≡◌, ℕ, List, ◌++◌, length, Option, Result, Ok, Err, OnOk, refl, sym, ap, ◌∙◌, arith, inl, inr}
use Rattle.std.proofs.lemmas.Bool.{cases_lt}
use Rattle.std.proofs.lemmas.List.{append_cancel_left, nil_from_length}
use Rattle.std.specs.Io.KnownBytes.{Consumes}
use Rattle.std.specs.declared.io.Error.{Error}
use Rattle.redux_buffer.specs.StreamLog.{StreamLog, WriteLog, zero_of_none}
use Rattle.buffer_redux.specs.Policy.{ReadRules}
use Rattle.buffer_redux.specs.Buffered.{Buffered}
use Rattle.buffer_redux.specs.ReaderLaws.{ReadsInOrder-ahead, remaining_gives, IfSome-unless, handed_all, IfSome-any}
use Rattle.buffer_redux.specs.ReaderTells.{reader_log, ReaderWent}
use Rattle.redux_buffer.specs.Copy.{MovedBy, CopyEnded, ReceivesAll}
use Rattle.buffer_redux.specs.Remaining.{ahead, may_stop, reader_remaining}
use Rattle.buffer_redux.specs.RemainingLaws.{may_stop-false}

pub on_ok : (answer : Result ℕ Error) (P Q : Type 0) → (P → Q) → OnOk answer P → OnOk answer Q
on_ok (Ok n) P Q h p = h p
on_ok (Err e) P Q h p = tt

module _ {S P : Type 0} (remaining : S → Option (List ℕ)) (rules : ReadRules P) (s t : Buffered S P)
    (went : ReaderWent remaining rules s t) (n : ℕ) (to to' : WriteLog)
    (moved : MovedBy n (reader_log s).fills (reader_log t).fills to to') where
  moved_handed : moved.bytes ≡ went.handed
  moved_handed =
      append_cancel_left s.own_calls.fills.consumed moved.bytes went.handed (sym moved.consumed ∙ went.consumed)

  received : to'.received ≡ to.received ++ went.handed
  received = moved.received ∙ ap (λ l. to.received ++ l) moved_handed

  pub moves_known : (bytes : List ℕ) × (to'.received ≡ to.received ++ bytes)
      × Consumes (reader_remaining remaining rules s) (reader_remaining remaining rules t) bytes
  moves_known = (
    went.handed,
    received,
    remaining_gives remaining rules s t went.handed went.in_order went.known went.claims went.capacity,
  )

  pub receives_all : {W : Type 0} (tells : W → StreamLog) (trace call : W → W → Type 0) (w w' : W)
      → (tells w).writes ≡ to → (tells w').writes ≡ to'
      → CopyEnded tells trace call (reader_log s).fills (reader_log t).fills w w'
      → ReceivesAll (reader_remaining remaining rules s) to to'
  receives_all tells trace call w w' at at' ended =
      IfSome-unless (may_stop rules s) (ahead remaining s) _ (λ is.
      let wants = may_stop-false rules s is in
      elim (cases_lt 0 (length t.block.bytes)) [
        | inl some ↦ IfSome-any (ahead remaining s) _ (λ xs. inr (omega (
          arith,
          ap (λ l. l.zero_writes) at,
          ap (λ l. l.zero_writes) at',
          ap (λ l. l.writes.zero_writes) ended.last.told,
          ended.last.met.only.zero_writes,
          zero_of_none 0 t.block.bytes (tells ended.last.before).writes.zero_writes refl some,
        )))
        | inr few ↦ (
            let none : length t.block.bytes ≡ 0 = omega (arith, few) in
            handed_all (remaining s.inner) (remaining t.inner) s.block.bytes t.block.bytes went.handed _
            (ReadsInOrder-ahead remaining s t went.handed went.in_order went.known)
            (nil_from_length t.block.bytes none)
            (went.known.dry (omega (arith, ended.ends none, went.ends wants.0 wants.1))) (inl received)
            )
      ])
