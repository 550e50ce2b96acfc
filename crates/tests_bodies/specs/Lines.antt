-- Lines of a mail as they are received, and its text.
use Rattle.std.specs.Prelude.{◌≡◌, ◌≢◌, ℕ, ◌==◌, List, [], ◌∷◌, ◌++◌, All, if◌then◌else◌}

-- neither a CR nor a line feed
abbrev pub IsPlain : ℕ → Type 0
IsPlain byte = (byte ≢ 13) × (byte ≢ 10)

-- a line without its end, which isn't one dot
abbrev pub IsLine : List ℕ → Type 0
IsLine line = All IsPlain line × (line ≢ 46 ∷ [])

-- what is received of lines: each, and then a line of one dot
abbrev pub received : List (List ℕ) → List ℕ
received [] = 46 ∷ 13 ∷ 10 ∷ []
received (line ∷ lines) = line ++ 13 ∷ 10 ∷ received lines

-- a line without the dot that begins it
abbrev pub without_dot : List ℕ → List ℕ
without_dot [] = []
without_dot (byte ∷ line) = if byte == 46 then line else byte ∷ line

-- and the text: each line without that dot
abbrev pub text : List (List ℕ) → List ℕ
text [] = []
text (line ∷ lines) = without_dot line ++ 13 ∷ 10 ∷ text lines

-- lines that are received so, and their text
pub record AreLines (bytes payload : List ℕ) : Type 0 where
  pub lines : List (List ℕ)
  pub all : All IsLine lines
  pub received : bytes ≡ received lines
  pub text : payload ≡ text lines
