-- What a filter writes for a payload.
use Rattle.std.specs.Prelude.{◌≡◌, ℕ, ◌==◌, List, [], ◌∷◌, ◌++◌, if◌then◌else◌}
use Rattle.std.specs.List.{starts_with}

-- one of the kind goes on as a line, and for another nothing is written
abbrev pub GoesOnAsLine : List ℕ → List ℕ → Type 0
GoesOnAsLine payload reply =
    reply ≡ (if starts_with (λ a b. a == b) payload (35 ∷ []) then payload ++ 10 ∷ [] else [])
