-- What stands in the stream of replies.
use Rattle.std.specs.Prelude.{List, ℕ, ◌++◌, codes}

-- a colon, the number, CR and LF
abbrev pub number_reply : List ℕ → List ℕ
number_reply digits = codes ":" ++ (digits ++ codes "\r\n")
