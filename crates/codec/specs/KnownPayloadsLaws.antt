-- Laws of a reader of payloads over a stream that is known.
use Rattle.std.specs.Prelude.{◌≡◌, ℕ, List, [], ◌∷◌, length, Option, Result, Ok, Err, IfErr}
use Rattle.std.proofs.Common.{ap, arith, inl, inr, length-append}
use Rattle.std.specs.declared.io.Error.{Error}
use Rattle.buffer_redux.specs.Faults.{IsMemory}
use Rattle.piece_reader.specs.KnownPayloads.{ReadFails, ReadStopped}

-- a reader that met no fault at all, as over memory, fails for want of memory
module _ {T E : Type 0} (HasLeft : T → List (List ℕ) → Type 0) (faults : T → List Error) (io : Error → E)
    (Plays : T → List (Result (Option (List ℕ)) E) → T → Type 0) (s t : T) (none : faults t ≡ []) where
  fails : (done : List (List ℕ)) (e : Error) → ReadFails HasLeft faults io Plays s done e t → IsMemory e
  fails done e (inl memory) = memory.0
  fails done e (inr fault) =
      absurd (omega (arith, ap length none, ap length fault.1, length-append (faults s) (e ∷ [])))

  pub read_refused : {A : Type 0} (Refused : Error → Type 0) → ((e : Error) → IsMemory e → Refused e)
      → (payloads : List (List ℕ)) (answer : Result A Error)
      → IfErr answer (λ e. ReadStopped HasLeft faults io Plays s payloads e t) → IfErr answer Refused
  read_refused Refused refuses payloads (Ok v) stopped = tt
  read_refused Refused refuses payloads (Err e) stopped = refuses e (fails stopped.done e stopped.failed)
