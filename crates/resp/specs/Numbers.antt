-- Numbers in decimal.
use Rattle.std.specs.Prelude.{◌≡◌, ℕ, ℤ, List, slice_index}
use Rattle.std.specs.Fmt.{signed_decimal}
use Rattle.std.specs.Int.{w64}
use Rattle.std.specs.Int.RustNames.{FitsSigned}

-- the text is that of an i64, as it is printed
abbrev pub IsInteger : List ℕ → Type 0
IsInteger text = (n : ℤ) × FitsSigned w64 n × (text ≡ signed_decimal n)

-- and of one below 0
abbrev pub IsNegative : List ℕ → Type 0
IsNegative text = (slice_index text 0 ≡ 45) × IsInteger text
