-- What a run returns, by how its payloads went over.
use Rattle.std.proofs.Common.{◌≡◌, ℕ, Result, Ok, Err, refl}
use Rattle.std.proofs.lemmas.Bool.{false≢true}
use Rattle.forward.specs.Filter.{FilterRules}
use Rattle.forward.specs.Forward.{ForwardAnswers, StopsBy}
use Rattle.forward.specs.Target.{failure_count}
use Rattle.forward.specs.declared.error.Cause.{Cause}
use Rattle.forward.specs.declared.error.Stopped.{Stopped}
use Rattle.programs.specs.Outcome.{IsErrorOf, Returns}
use Rattle.programs.specs.declared.error.RunError.{RunError}

-- it fails where the payloads were stopped
pub Returns-count : {F : Type 0} (answer : Result ℕ (Stopped F)) (returned : Result (Unit {0}) (RunError F))
    → Returns answer returned → failure_count answer ≡ failure_count returned
Returns-count (Ok count) (Ok _) is = refl
Returns-count (Ok count) (Err e) is = absurd (false≢true is)
Returns-count (Err stopped) (Ok _) is = absurd is
Returns-count (Err stopped) (Err e) is = refl

-- so what is said of each way to end is said of what it returns
pub Returns-says : {T F : Type 0} (rules : FilterRules T F) (s t : T) (Says : Result (Unit {0}) (RunError F) → Type 0)
    → ((count : ℕ) → ForwardAnswers rules s (Ok count) t → Says (Ok tt))
    → ((count : ℕ) (why : Cause F) (e : RunError F) → StopsBy rules count s why t → IsErrorOf why e → Says (Err e))
    → (answer : Result ℕ (Stopped F)) (returned : Result (Unit {0}) (RunError F)) → Returns answer returned
    → ForwardAnswers rules s answer t → Says returned
Returns-says rules s t Says ended stopped (Ok count) (Ok _) is p = ended count p
Returns-says rules s t Says ended stopped (Ok count) (Err e) is p = absurd (false≢true is)
Returns-says rules s t Says ended stopped (Err why) (Ok _) is p = absurd is
Returns-says rules s t Says ended stopped (Err why) (Err e) is p = stopped why.count why.cause e p is
