-- Numbers in headers that are text.
use Rattle.std.specs.Prelude.{ℕ, ◌+◌, ◌-◌, ◌*◌, ◌||◌, ◌==◌, nat_lt, if◌then◌else◌, Option, None, Some}
use Rattle.codec.specs.declared.number.Number.{Number}
use Rattle.codec.specs.declared.number.Number.TheVariants.{Empty, Is}

-- with one more digit: none stands behind a zero in front, nor behind 18 others
abbrev pub with_digit : Number → ℕ → Option Number
with_digit Empty digit = Some (Is digit)
with_digit (Is value) digit =
    if value == 0 || nat_lt 99999999999999999 value then None else Some (Is (10 * value + digit))

-- with one more byte, which is a digit
abbrev pub with_byte : Number → ℕ → Option Number
with_byte number byte = if nat_lt byte 48 || nat_lt 57 byte then None else with_digit number (byte - 48)
