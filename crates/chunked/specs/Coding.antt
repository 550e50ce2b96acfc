-- The chunked coding, as one that a reader of bodies reads.
use Rattle.std.specs.Prelude.{◌≡◌, ℕ, ◌≤◌, List, ◌∷◌, ◌++◌, length, false}
use Rattle.body_reader.specs.Coding.{Grammar}
use Rattle.chunked.specs.declared.error.Malformed.{Malformed}
use Rattle.chunked.specs.declared.limits.Limits.{Limits}
use Rattle.chunked.specs.declared.place.Place.{Place}
use Rattle.chunked.specs.declared.place.Place.TheVariants.{Line, Data}
use Rattle.chunked.specs.Body.{IsBodyOfChunks}
use Rattle.chunked.specs.Place.{Completes, IsPlace, IsWrong, most_between}

-- bytes of a chunk
abbrev pub InChunk : Place → List ℕ → List ℕ → Type 0
InChunk (Data left) bytes follow = length bytes ≤ left
InChunk p bytes follow = ⊥

-- how many bytes of a chunk are left
abbrev pub chunk_left : Place → ℕ
chunk_left (Data left) = left
chunk_left p = 0

-- the next of these bytes is wrong
abbrev pub IsWrongNext : Limits → Place → List ℕ → Malformed → Type 0
IsWrongNext limits p shown why = (byte : ℕ) × (later : List ℕ) × (shown ≡ byte ∷ later) × IsWrong limits p byte why

-- the next of these bytes is wrong in this place, and no body begins with what was taken and then that byte
pub record BreaksAt (limits : Limits) (p : Place) (taken bytes : List ℕ) (why : Malformed) : Type 0 where
  pub byte : ℕ
  pub later : List ℕ
  pub next : bytes ≡ byte ∷ later
  pub name : IsWrong limits p byte why
  pub none : (rest payload : List ℕ) → ¬ IsBodyOfChunks limits (taken ++ byte ∷ rest) payload

abbrev pub chunked : Limits → Grammar Place Malformed
chunked limits = record {
  first = Line;
  ahead = 1;
  is_place = IsPlace;
  completes = Completes limits;
  carries = InChunk;
  wrong = IsWrongNext limits;
  between = most_between limits;
  sure = chunk_left;
  heeds = false;
}
