-- The bytes around a length in text are few.
use Rattle.std.specs.Prelude.{ℕ, ◌<◌, ◌^◌}
use Rattle.std.proofs.Common.{arith, inl, inr}
use Rattle.codec.specs.TextHeaders.{IsSound}
use Rattle.codec.specs.TextHeadersOut.{IsWritten}
use Rattle.decoders.specs.TextWords.{bulk_strings, netstrings}

pub netstrings_sound : (max : ℕ) → max < 2 ^ 62 → IsSound (netstrings max)
netstrings_sound max fits = record { some = omega arith; small = omega (arith, fits) }

pub bulk_strings_sound : (max : ℕ) → max < 2 ^ 62 → IsSound (bulk_strings max)
bulk_strings_sound max fits = record { some = omega arith; small = omega (arith, fits) }

-- a colon is above the digits, and CR below them
pub netstrings_written : (max : ℕ) → IsWritten (netstrings max)
netstrings_written max = record { few = omega arith; no_digit = inr (omega arith) }

pub bulk_strings_written : (max : ℕ) → IsWritten (bulk_strings max)
bulk_strings_written max = record { few = omega arith; no_digit = inl (omega arith) }
