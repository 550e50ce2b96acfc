-- Why a write of all bytes fails.
use Rattle.std.proofs.Common.{◌≡◌, ◌∙◌, ℕ, List, length, take, drop, length-drop, Result, Ok, Err, IfErr, ap, subst, arith, inl, inr, true, ◌+◌, ◌<◌}
use Rattle.std.specs.Prelude.{◌⊎◌}
use Rattle.std.specs.IoError.{error_kind}
use Rattle.std.specs.declared.io.Error.{Error}
use Rattle.std.specs.declared.io.ErrorKind.TheVariants.{WriteZero}
use Rattle.redux_buffer.specs.Faults.{SendErrorCaused}
use Rattle.redux_buffer.specs.LogGrows.{WriteLogGrows}
use Rattle.redux_buffer.specs.StreamLog.{StreamLog}
use Rattle.buffer_redux.specs.Policy.{WriteRules}
use Rattle.buffer_redux.specs.AllBytes.{EndsBy}
use Rattle.buffer_redux.specs.Buffered.{Buffered, GoesPast}
use Rattle.buffer_redux.specs.BufWriter.{EmptyWriteCaused, NoSpace, WriteRefused, Writes, WriterStopped}
use Rattle.buffer_redux.specs.WriteAll.{FoundNoSpace, TookFront, WriteAllErrorCaused}
use Rattle.buffer_redux.specs.WriterLaws.{Writes-caused}
use Rattle.buffer_redux.specs.WritesAlongLaws.{WriterStopped-after, WriterStopped-send}
use Rattle.buffer_redux.proofs.WriterFacts.{writes_nothing, writes_steadily}

-- a write of what is left ended it, behind others that took the first `count` bytes in
module _ {S P : Type 0} (tells : S → StreamLog) (trace : S → S → Type 0) (rules : WriteRules P) (bs : List ℕ) (count : ℕ)
    (e : Error) (s m t : Buffered S P) (fewer : count < length bs) (begun : TookFront tells trace rules s (take count bs) m) where
  abbrev rest : List ℕ
  rest = drop count bs

  some : 0 < length rest
  some = omega (arith, fewer, length-drop count bs)

  grows : WriteLogGrows s.log.writes m.log.writes
  grows = begun.keeps.grows

  abbrev Stopped : Type 0
  Stopped = WriterStopped s.log.writes t.log.writes e

  abbrev Caused : Type 0
  Caused = WriteAllErrorCaused tells trace rules s bs e t

  behind : WriteRefused rules m rest e t ⊎ FoundNoSpace rules m rest e t → Caused
  behind why = inr (record { count = count; fewer = fewer; before = m; begun = begun; why = why })

  stopped : (x : Error) → x ≡ e → SendErrorCaused m.log.writes t.log.writes x → Stopped
  stopped x same sent = WriterStopped-after s.log.writes m.log.writes t.log.writes e grows
      (subst (WriterStopped m.log.writes t.log.writes) same (WriterStopped-send m.log.writes t.log.writes x sent))

  -- that is the inner writer's failure where the policy is steady
  pub turn_steady : (answer : Result ℕ Error) → EndsBy WriteZero answer e → Writes rules m rest answer t
      → (rules.claims s.policy).steady ≡ true → Stopped
  turn_steady answer ends steps steady =
      of answer ends (writes_steadily rules m rest answer t steps (ap (λ c. c.steady) begun.keeps.claims ∙ steady))
    where
      of : (answer : Result ℕ Error) → EndsBy WriteZero answer e
          → IfErr answer (SendErrorCaused m.log.writes t.log.writes)
          × (answer ≡ Ok 0 → 0 < length rest → m.log.writes.zero_writes < t.log.writes.zero_writes) → Stopped
      of (Ok k) ends says = inr (record {
        is_write_zero = ends.1;
        zero_writes = omega (arith, says.1 (ap (λ n. Ok n) ends.0) some, grows.zero_writes);
      })
      of (Err x) ends says = stopped x ends says.0

  empty : error_kind e ≡ WriteZero → (c : EmptyWriteCaused rules m rest t)
      → (GoesPast c.steps.before.block (length rest) × (t.log.writes.zero_writes ≡ m.log.writes.zero_writes + 1))
      ⊎ NoSpace m (length rest) c.steps.before → Caused
  empty is c (inl past) =
      inl (inr (record { is_write_zero = is; zero_writes = omega (arith, past.1, grows.zero_writes) }))
  empty is c (inr full) = behind (inr (is, c.steps, full))

  -- else it was refused by the policy, or found no space
  pub turn_caused : (answer : Result ℕ Error) → EndsBy WriteZero answer e → Writes rules m rest answer t → Caused
  turn_caused (Ok k) ends steps =
      let c = writes_nothing rules m rest (Ok k) t steps (ap (λ n. Ok n) ends.0) some in
      empty ends.1 c c.why
  turn_caused (Err x) ends steps = elim (Writes-caused rules m rest (Err x) t steps) [
    | inl refused ↦ behind (inl (subst (λ y. WriteRefused rules m rest y t) ends refused))
    | inr sent ↦ inl (stopped x ends sent)
  ]
