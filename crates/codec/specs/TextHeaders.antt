-- Headers that are text.
use Rattle.std.specs.Prelude.{ℕ, ◌+◌, ◌<◌, ◌^◌, List, length, Bool, ◌&&◌, ◌==◌, nat_lt, if◌then◌else◌, slice_index, Option, None, Some}
use Rattle.codec.specs.Number.{with_byte}
use Rattle.codec.specs.Scanning.{Scanning}
use Rattle.codec.specs.declared.number.Number.{Number}
use Rattle.codec.specs.declared.number.Number.TheVariants.{Empty, Is}
use Rattle.codec.specs.declared.scan.ScanStep.{ScanStep}
use Rattle.codec.specs.declared.scan.ScanStep.TheVariants.{More, Sized, Bad}
use Rattle.codec.specs.declared.text_header.TextHeaderState.{TextHeaderState}
use Rattle.codec.specs.declared.text_header.TextHeaderState.TheVariants.{Before, Length, After}

-- what stands before the length, between the length and the payload, and behind the payload; and how long that may be
pub record Words : Type 0 where
  pub before : List ℕ
  pub after : List ℕ
  pub tail : List ℕ
  pub max : ℕ

-- something stands between, and all is small
pub record IsSound (w : Words) : Type 0 where
  pub some : 0 < length w.after
  pub small : 18 + length w.before + length w.after + w.max + length w.tail < 2 ^ 63

-- this byte stands at this place
abbrev pub stands : List ℕ → ℕ → ℕ → Bool
stands bytes at byte = nat_lt at (length bytes) && (slice_index bytes at == byte)

-- behind so many of the bytes before the length
abbrev pub enters : Words → ℕ → TextHeaderState
enters w at = if at == length w.before then Length Empty else Before at

-- behind the length and so many of the bytes that stand there
abbrev pub ends : Words → ℕ → ℕ → ScanStep TextHeaderState
ends w at len = if at == length w.after then Sized len else More (After at len)

-- behind a number and this byte, which makes it that number; or none, and then it is the length
abbrev pub counts : Words → Option Number → Number → ℕ → ScanStep TextHeaderState
counts w (Some more) number byte = More (Length more)
counts w None (Is len) byte = if stands w.after 0 byte then ends w 1 len else Bad
counts w None Empty byte = Bad

-- the bytes before the length, one by one; the length; and the bytes behind it
abbrev pub text_turn : Words → TextHeaderState → ℕ → ScanStep TextHeaderState
text_turn w (Before at) byte = if stands w.before at byte then More (enters w (at + 1)) else Bad
text_turn w (Length number) byte = counts w (with_byte number byte) number byte
text_turn w (After at len) byte = if stands w.after at byte then ends w (at + 1) len else Bad

abbrev pub text_scanning : Words → Scanning TextHeaderState
text_scanning w = record {
  start = enters w 0;
  turn = text_turn w;
  most_header = 18 + length w.before + length w.after;
  max = w.max;
  tail = w.tail;
}
