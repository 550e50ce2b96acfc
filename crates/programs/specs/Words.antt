-- The words that a program is asked by.
use Rattle.std.specs.Prelude.{◌≤◌, ◌<◌, ◌^◌, ℕ, List, length, All}
use Rattle.std.specs.Char.{IsAsciiDigit}
use Rattle.std.specs.Str.Parse.{digits_value}

-- decimal digits and nothing else, of a value below 2^64
pub record IsNumber (word : List ℕ) : Type 0 where
  pub not_empty : 1 ≤ length word
  pub digits : All IsAsciiDigit word
  pub not_large : digits_value 10 word < 2 ^ 64
