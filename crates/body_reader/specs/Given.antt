-- A reader of a body that was given one.
use Rattle.std.specs.Prelude.{◌≡◌, ℕ, List, [], ◌++◌}
use Rattle.body_reader.specs.BodyReader.{BodyState, Breaks, EndsEarly, TookWholeBody, handed_of}
use Rattle.body_reader.specs.Coding.{Grammar}

-- what was handed out begins this payload; nothing is answered as wrong, nor, where no more is needed than is buffered, as
-- missing; and once the body ended all of it was handed out, and what is buffered begins what follows the body
pub record HandsGiven {S Q C P W : Type 0} (g : Grammar P W) (payload behind rest : List ℕ)
    (t : BodyState S Q C P) : Type 0 where
  pub front : (later : List ℕ) × (payload ≡ handed_of t ++ later)
  pub right : (why : W) → ¬ (Breaks g why t)
  pub there : rest ≡ [] → ¬ (EndsEarly g t)
  pub all : TookWholeBody g t → (handed_of t ≡ payload) × (t.reader.block.bytes ++ rest ≡ behind)
