-- Which bytes stand around a length in text.
use Rattle.std.specs.Prelude.{ℕ, List, [], ◌∷◌, ◌++◌, length, codes, decimal}
use Rattle.codec.specs.TextHeaders.{Words}

-- a colon behind the length, and a comma behind the payload
abbrev pub netstrings : ℕ → Words
netstrings max = record { before = []; after = 58 ∷ []; tail = 44 ∷ []; max = max }

-- a dollar sign before the length, and CR and LF behind it and behind the payload
abbrev pub bulk_strings : ℕ → Words
bulk_strings max = record { before = 36 ∷ []; after = 13 ∷ 10 ∷ []; tail = 13 ∷ 10 ∷ []; max = max }

-- a dollar sign, the length in decimal, CR and LF, the payload, CR and LF
abbrev pub bulk_string : List ℕ → List ℕ
bulk_string payload = codes "$" ++ (decimal (length payload) ++ (codes "\r\n" ++ (payload ++ codes "\r\n")))
