-- Pieces whose payloads are shown otherwise.
use Rattle.std.specs.Prelude.{◌≡◌, List, ℕ}
use Rattle.piece_reader.specs.Grammar.{Grammar}

-- the same pieces, each with what this makes of its payload
abbrev pub showing : {W : Type 0} → (List ℕ → List ℕ) → Grammar W → Grammar W
showing show g = record g {
  piece = λ bytes shown. (payload : List ℕ) × g.piece bytes payload × (shown ≡ show payload);
  last = λ bytes shown. (payload : List ℕ) × g.last bytes payload × (shown ≡ show payload);
}
