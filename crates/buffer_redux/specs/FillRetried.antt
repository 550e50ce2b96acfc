-- Fills that are made again where they were interrupted.
use Rattle.std.specs.Prelude.{◌≡◌, ℕ, List, Option, Result}
use Rattle.std.specs.declared.io.Error.{Error}
use Rattle.redux_buffer.specs.Retried.{Retried, Step}
use Rattle.buffer_redux.specs.Policy.{ReadRules}
use Rattle.buffer_redux.specs.Buffered.{Buffered}
use Rattle.buffer_redux.specs.BufReader.{Fills, InnerGives}

-- one fill, with all that filling promises
pub record OneFill {S P A : Type 0} (remaining : S → Option (List ℕ)) (rules : ReadRules P)
    (s : Buffered S P) (answer : Result A Error) (t : Buffered S P) : Type 0 where
  pub fills : Fills rules s answer t
  pub known : InnerGives remaining s t
  pub noted : t.own_calls ≡ s.own_calls

abbrev pub FillRetried : {S P : Type 0} → (S → Option (List ℕ)) → ReadRules P → Step (Buffered S P) (Unit {0})
FillRetried remaining rules = Retried (OneFill remaining rules)
