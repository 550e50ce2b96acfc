-- What a reader of payloads hands out of a stream that is known.
use Rattle.std.specs.Prelude.{◌≡◌, ℕ, ◌<◌, ◌⊎◌, List, [], ◌∷◌, ◌++◌, length, map, Option, None, Some, Result, Ok, Err}
use Rattle.std.specs.IoError.{error_kind}
use Rattle.std.specs.declared.io.Error.{Error}
use Rattle.std.specs.declared.io.ErrorKind.TheVariants.{OutOfMemory}

-- each of these payloads was handed out by a call, and one more call told the end
abbrev pub AllRead : {T E : Type 0} → (T → List (Result (Option (List ℕ)) E) → T → Type 0) → T → List (List ℕ) → T → Type 0
AllRead Plays s payloads t = Plays s (map (λ payload. Ok (Some payload)) payloads ++ Ok None ∷ []) t

-- of a reader that says which payloads are left and which faults it met, and as what it answers an error of the stream inside
module _ {T E : Type 0} (HasLeft : T → List (List ℕ) → Type 0) (faults : T → List Error) (io : Error → E) where
  -- where just these payloads are left, the first is handed out, and the others are left; `None` comes where there is none;
  -- and there is no other `Err` than the stream's, which leaves all, and is the one fault that was met
  abbrev pub AnswersKnown : T → Result (Option (List ℕ)) E → List (List ℕ) → T → Type 0
  AnswersKnown s (Ok (Some found)) (payload ∷ later) t = (found ≡ payload) × HasLeft t later × (faults t ≡ faults s)
  AnswersKnown s (Ok (Some found)) [] t = ⊥
  AnswersKnown s (Ok None) (payload ∷ later) t = ⊥
  AnswersKnown s (Ok None) [] t = HasLeft t []
  AnswersKnown s (Err e) payloads t =
      ((why : Error) × (e ≡ io why)) × HasLeft t payloads
      × ((why : Error) → e ≡ io why → faults t ≡ faults s ++ why ∷ [])

  module _ (Plays : T → List (Result (Option (List ℕ)) E) → T → Type 0) where
    -- these payloads were handed out, each by one call, and then reading failed with this error: memory to keep the last of
    -- them was refused, and no fault was met, or one more call met it, and no other
    abbrev pub ReadFails : T → List (List ℕ) → Error → T → Type 0
    ReadFails s done e t =
        ((error_kind e ≡ OutOfMemory) × (0 < length done) × Plays s (map (λ payload. Ok (Some payload)) done) t
        × (faults t ≡ faults s))
        ⊎ (Plays s (map (λ payload. Ok (Some payload)) done ++ Err (io e) ∷ []) t × (faults t ≡ faults s ++ e ∷ []))

    -- the first of these payloads were handed out, and then reading failed with this error: the others are left
    pub record ReadStopped (s : T) (payloads : List (List ℕ)) (e : Error) (t : T) : Type 0 where
      pub done : List (List ℕ)
      pub later : List (List ℕ)
      pub all : payloads ≡ done ++ later
      pub left : HasLeft t later
      pub failed : ReadFails s done e t
