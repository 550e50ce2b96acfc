-- Pieces whose payloads are shown without a carriage return.
use Rattle.std.specs.Prelude.{◌≡◌, ℕ, ◌⊎◌, List, [], ◌∷◌, ◌++◌}
use Rattle.piece_reader.specs.Grammar.{Grammar}

-- the bytes without the carriage return that they may end with
abbrev pub IsTrimmed : List ℕ → List ℕ → Type 0
IsTrimmed bytes shown =
    (bytes ≡ shown ++ 13 ∷ []) ⊎ ((bytes ≡ shown) × ((front : List ℕ) → ¬ (bytes ≡ front ++ 13 ∷ [])))

-- the same pieces, shown so. A last one, behind which no end stands, is shown whole
abbrev pub trimming : {W : Type 0} → Grammar W → Grammar W
trimming g = record g { piece = λ bytes shown. (payload : List ℕ) × g.piece bytes payload × IsTrimmed payload shown }
