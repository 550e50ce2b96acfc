-- How a run ends that may find its input wrong.
use Rattle.std.specs.Prelude.{◌≡◌, ℕ, List, [], ◌∷◌, Result, Ok, Err, IsErrAnd, IsOk, MatchResult}
use Rattle.std.specs.IoError.{error_kind}
use Rattle.std.specs.declared.io.Error.{Error}
use Rattle.std.specs.declared.io.ErrorKind.TheVariants.{Other}
use Rattle.forward.specs.declared.error.Cause.{Cause}
use Rattle.forward.specs.declared.error.Cause.TheVariants as cause
use Rattle.forward.specs.declared.error.Stopped.{Stopped}
use Rattle.programs.specs.Ending.{FailsSo, status_of}
use Rattle.programs.specs.declared.ending.Ending.{Ending}
use Rattle.programs.specs.declared.ending.Ending.TheVariants.{Done, Failed, ReadFailed, WriteFailed, Usage}
use Rattle.programs.specs.declared.error.RunError.{RunError}
use Rattle.programs.specs.declared.error.RunError.TheVariants as why
use Rattle.programs.specs.declared.outcome.Outcome.{Outcome}
use Rattle.programs.specs.declared.outcome.Outcome.TheVariants.{Usual, Wrong}
use Rattle.redux_buffer.specs.StreamLog.{StreamLog}

module _ {F : Type 0} where
  -- the error that a run fails with, by what stopped its payloads
  abbrev pub IsErrorOf : Cause F → RunError F → Type 0
  IsErrorOf (cause.Wrong fault) error = error ≡ why.Wrong fault
  IsErrorOf (cause.Read e) error = error ≡ why.Read e
  IsErrorOf (cause.Write e) error = error ≡ why.Write e
  IsErrorOf cause.Count error = (e : Error) × (error_kind e ≡ Other) × (error ≡ why.Io e)

  -- what a run returns whose payloads went over so
  abbrev pub Returns : Result ℕ (Stopped F) → Result (Unit {0}) (RunError F) → Type 0
  Returns answer returned = MatchResult answer (λ _. IsOk returned) (λ stopped. IsErrAnd returned (IsErrorOf stopped.cause))

  -- a stream's error ends a run so, or for want of memory
  abbrev pub FaultEnds : Ending → Error → Outcome F → Type 0
  FaultEnds failed e outcome = (ending : Ending) × FailsSo failed e ending × (outcome ≡ Usual ending)

  -- how a run ends that returned this
  abbrev pub IsOutcomeOf : Result (Unit {0}) (RunError F) → Outcome F → Type 0
  IsOutcomeOf (Ok _) outcome = outcome ≡ Usual Done
  IsOutcomeOf (Err (why.Wrong fault)) outcome = outcome ≡ Wrong fault
  IsOutcomeOf (Err (why.Read e)) outcome = FaultEnds ReadFailed e outcome
  IsOutcomeOf (Err (why.Write e)) outcome = FaultEnds WriteFailed e outcome
  IsOutcomeOf (Err (why.Io e)) outcome = FaultEnds Failed e outcome

  -- the status that the process ends with, by those of the faults
  abbrev pub outcome_status : (F → ℕ) → Outcome F → ℕ
  outcome_status status (Usual ending) = status_of ending
  outcome_status status (Wrong fault) = status fault

  -- what a run did that was asked for one of two by a word, and how it ends. Other words call no stream
  pub record RunsOneOf (one other : List ℕ)
      (One Other : StreamLog → StreamLog → StreamLog → StreamLog → Result (Unit {0}) (RunError F) → Type 0)
      (words : List (List ℕ)) (outcome : Outcome F) (read read' written written' : StreamLog) : Type 0 where
    pub first : words ≡ one ∷ [] → (answer : Result (Unit {0}) (RunError F))
        × One read read' written written' answer × IsOutcomeOf answer outcome
    pub second : words ≡ other ∷ [] → (answer : Result (Unit {0}) (RunError F))
        × Other read read' written written' answer × IsOutcomeOf answer outcome
    pub usage : ¬ (words ≡ one ∷ []) → ¬ (words ≡ other ∷ [])
        → (outcome ≡ Usual Usage) × (read' ≡ read) × (written' ≡ written)
