-- What a write, and then a send of its lines, come to, for the proofs of those who call a line sender.
use Rattle.std.specs.Prelude.{◌≡◌, ◌⊎◌, ℕ, List, [], ◌∷◌, Result, Ok, Err, MatchResult}
use Rattle.std.proofs.Common.{subst, inl, inr, append-nil}
use Rattle.std.proofs.lemmas.Bool.{cases_eq}
use Rattle.std.proofs.lemmas.List.Elements.{All-cons, All-head, All-nil, All-tail}
use Rattle.std.specs.declared.io.Error.{Error}
use Rattle.redux_buffer.specs.LogGrows.{WritesGoOn}
use Rattle.redux_buffer.specs.StreamLog.{StreamLog}
use Rattle.buffer_redux.specs.Policy.{WriteRules}
use Rattle.buffer_redux.specs.Buffered.{Buffered}
use Rattle.buffer_redux.specs.BufWriter.{AllAlong}
use Rattle.buffer_redux.specs.LineWriter.{SendsLines, ThenSendsLines}
use Rattle.buffer_redux.specs.ReadUntil.{Lacks}
use Rattle.buffer_redux.specs.WritesAlongLaws.{AllAlong-after, WasSent-all, WritesAlong-none}

-- a line feed is among the bytes, or not
pub lacks_or : (bytes : List ℕ) → Lacks 10 bytes ⊎ ¬ (Lacks 10 bytes)
lacks_or [] = inl (All-nil (λ b. ¬ (b ≡ 10)))
lacks_or (b ∷ bytes) = elim (cases_eq b 10) [
  | inl is ↦ inr (λ lacks. All-head (λ b. ¬ (b ≡ 10)) b bytes lacks is)
  | inr isnt ↦ elim (lacks_or bytes) [
    | inl rest ↦ inl (All-cons (λ b. ¬ (b ≡ 10)) b bytes isnt rest)
    | inr some ↦ inr (λ lacks. some (All-tail (λ b. ¬ (b ≡ 10)) b bytes lacks))
  ]
]

module _ {S P : Type 0} (tells : S → StreamLog) (trace : S → S → Type 0) (rules : WriteRules P) (none : (u : S) → trace u u)
    (joins : (u v w : S) → trace u v → trace v w → trace u w)
    (goes : (u v : S) → trace u v → WritesGoOn (tells u) (tells v)) where
  -- of a send of lines alone
  pub SendsLines-all : (m : Buffered S P) (answer : Result (Unit {0}) Error) (t : Buffered S P)
      → SendsLines tells trace m answer t → AllAlong tells trace rules m [] answer t
  SendsLines-all m answer t sends = elim (lacks_or m.block.bytes) [
    | inl nothing ↦ rw ((sends.none nothing).0, (sends.none nothing).1) (WritesAlong-none tells trace rules none m)
    | inr some ↦ WasSent-all tells trace rules goes m answer t (sends.some some)
  ]

  module _ (s : Buffered S P) (answer : Result (Unit {0}) Error) (t : Buffered S P) where
    abbrev Ended : Result (Unit {0}) Error → Buffered S P → Type 0
    Ended writing m = MatchResult writing (λ _. SendsLines tells trace m answer t) (λ e. (answer ≡ Err e) × (t ≡ m))

    ended_all : (bytes : List ℕ) (writing : Result (Unit {0}) Error) (m : Buffered S P) → Ended writing m
        → AllAlong tells trace rules s bytes writing m → AllAlong tells trace rules s bytes answer t
    ended_all bytes (Ok x) m sends along = subst (λ l. AllAlong tells trace rules s l answer t) (append-nil bytes)
        (AllAlong-after tells trace rules joins s m t bytes [] answer along (SendsLines-all m answer t sends))
    ended_all bytes (Err e) m (is, same) along = rw (is, same) along

    -- behind a write that accepted these bytes; and behind one of which it is known why it failed
    module _ (Wrote : Result (Unit {0}) Error → Buffered S P → Type 0) (l : ThenSendsLines tells trace Wrote answer t)
        (bytes : List ℕ) where
      pub ThenSendsLines-all : AllAlong tells trace rules s bytes l.writing l.written
          → AllAlong tells trace rules s bytes answer t
      ThenSendsLines-all = ended_all bytes l.writing l.written l.ended
