-- Texts: bytes that are pieces, one behind the other.
use Rattle.std.specs.Prelude.{◌≡◌, ℕ, ◌<◌, ◌⊎◌, List, [], ◌∷◌, ◌++◌, length}
use Rattle.piece_reader.specs.Grammar.{Grammar, Begins, IsOpen}

-- the bytes begin with a piece with this payload, and behind it comes more
pub record StartsWith {W : Type 0} (g : Grammar W) (bytes payload more : List ℕ) : Type 0 where
  pub piece : List ℕ
  pub is : g.piece piece payload
  pub equal : bytes ≡ piece ++ more

-- where the stream ends behind them, the bytes are a last piece with this payload
pub record IsLast {W : Type 0} (g : Grammar W) (bytes payload : List ℕ) : Type 0 where
  pub is : g.last bytes payload
  pub open' : IsOpen g bytes
  pub some : 0 < length bytes

-- the text is pieces with these payloads, the last of which may be one only since the stream ends there
abbrev pub HasPieces : {W : Type 0} → Grammar W → List ℕ → List (List ℕ) → Type 0
HasPieces g text [] = text ≡ []
HasPieces g text (payload ∷ payloads) =
    ((more : List ℕ) × StartsWith g text payload more × HasPieces g more payloads)
    ⊎ (IsLast g text payload × (payloads ≡ []))

-- the bytes are pieces with these payloads, and then what is left
abbrev pub IsPieces : {W : Type 0} → Grammar W → List ℕ → List (List ℕ) → List ℕ → Type 0
IsPieces g bytes [] left = bytes ≡ left
IsPieces g bytes (payload ∷ payloads) left =
    (more : List ℕ) × StartsWith g bytes payload more × IsPieces g more payloads left

-- a stream is pieces with these payloads, and then what doesn't begin with one
pub record Splits {W : Type 0} (g : Grammar W) (stream : List ℕ) (payloads : List (List ℕ)) (left : List ℕ) : Type 0 where
  pub equal : IsPieces g stream payloads left
  pub no_more : ¬ (Begins g left)
