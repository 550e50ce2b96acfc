-- What a reader of lines takes out of a stream that is known.
use Rattle.std.specs.Prelude.{◌≡◌, ℕ, ◌⊎◌, List, [], ◌∷◌, ◌++◌, Bool, true, false, Option, Some}
use Rattle.std.specs.List.{flat_map}
use Rattle.piece_reader.specs.KnownPieces.{ahead_of}
use Rattle.line_reader.specs.Calls.{Handed, Skipped, Ended, Event, Shows, event_lines}
use Rattle.line_reader.specs.Lines.{HasLines, IsLine}
use Rattle.line_reader.specs.LineReader.{LineState}

-- the bytes that weren't handed out are known, and behind so many bytes of a line that is being skipped a text of these lines,
-- of which that line is the first; where the stream has ended there are none
pub record LeavesBehind {S : Type 0} (remaining : S → Option (List ℕ)) (before : List ℕ) (f : LineState S)
    (lines : List (List ℕ)) : Type 0 where
  pub text : List ℕ
  pub known : ahead_of remaining f.pieces ≡ Some text
  pub plain : IsLine before
  pub closed : f.skipping ≡ false → before ≡ []
  pub has : HasLines (before ++ text) lines
  pub none : f.pieces.ended ≡ true → lines ≡ []

-- the first of these lines are those of the events, in order, and the others come then; an end is told behind the last alone
abbrev pub TakesLines : List (List ℕ) → List Event → List (List ℕ) → Type 0
TakesLines lines [] later = lines ≡ later
TakesLines lines (Handed trims shown ∷ events) later =
    (line : List ℕ) × (more : List (List ℕ)) × (lines ≡ line ∷ more) × (Shows trims line shown ⊎ (shown ≡ line))
    × TakesLines more events later
TakesLines lines (Skipped line ∷ events) later =
    (more : List (List ℕ)) × (lines ≡ line ∷ more) × TakesLines more events later
TakesLines lines (Ended ∷ events) later = (lines ≡ []) × TakesLines [] events later

-- calls that handed these out took the first of the lines, whole and in order, and the others are left
pub record TookFirstLines {S : Type 0} (remaining : S → Option (List ℕ)) (lines : List (List ℕ)) (handed : List (Bool × List ℕ))
    (t : LineState S) : Type 0 where
  pub events : List Event
  pub later : List (List ℕ)
  pub takes : TakesLines lines events later
  pub same : flat_map event_lines events ≡ handed
  pub before : List ℕ
  pub left : LeavesBehind remaining before t later
