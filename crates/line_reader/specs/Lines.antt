-- Lines, where they end, and texts of them.
use Rattle.std.specs.Prelude.{◌≡◌, ℕ, ◌+◌, ◌<◌, ◌≤◌, List, [], ◌∷◌, ◌++◌, length, take}
use Rattle.std.specs.List.{All, flat_map}

-- the byte that ends a line
abbrev pub newline : ℕ
newline = 10

-- no byte of it ends a line
abbrev pub IsLine : List ℕ → Type 0
IsLine bytes = All (λ byte. ¬ (byte ≡ newline)) bytes

-- the line and its end
abbrev pub with_newline : List ℕ → List ℕ
with_newline line = line ++ newline ∷ []

-- these lines, each with its end
abbrev pub with_newlines : List (List ℕ) → List ℕ
with_newlines lines = flat_map with_newline lines

-- what stands behind the last end is a line too, where it is something
abbrev pub last_line : List ℕ → List (List ℕ)
last_line [] = []
last_line (byte ∷ more) = (byte ∷ more) ∷ []

-- these are the lines of the text
pub record HasLines (text : List ℕ) (lines : List (List ℕ)) : Type 0 where
  pub whole : List (List ℕ)
  pub last : List ℕ
  pub bytes : text ≡ with_newlines whole ++ last
  pub all : lines ≡ whole ++ last_line last
  pub plain : All IsLine lines

-- a line of at most so many bytes, or what came of one
pub record FitsLine (max : ℕ) (line : List ℕ) : Type 0 where
  pub plain : IsLine line
  pub fits : length line ≤ max

-- the bytes begin with more than max bytes of a line
pub record BeginsTooLong (max : ℕ) (bytes : List ℕ) : Type 0 where
  pub above : max < length bytes
  pub plain : IsLine (take (1 + max) bytes)
