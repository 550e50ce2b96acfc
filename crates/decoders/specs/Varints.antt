-- Lengths in bytes of seven bits, and kinds in front of them.
use Rattle.std.specs.Prelude.{ℕ, ◌+◌, ◌-◌, ◌*◌, ◌/◌, ◌%◌, List, [], ◌∷◌, nat_lt, if◌then◌else◌}
use Rattle.codec.specs.Grammar.{Grammar}
use Rattle.codec.specs.HeaderFormat.{length_prefixed}
use Rattle.codec.specs.HeadersOut.{HeadersOut}
use Rattle.codec.specs.Scanning.{Scanning, scanned}
use Rattle.codec.specs.declared.HeaderError.{HeaderError}
use Rattle.codec.specs.declared.scan.ScanStep.{ScanStep}
use Rattle.codec.specs.declared.scan.ScanStep.TheVariants.{More, Sized, Bad}
use Rattle.decoders.specs.declared.varints.VarintPlace.{VarintPlace}
use Rattle.decoders.specs.declared.varints.VarintPlace.TheVariants as at

-- a byte below 128 is the last of a length; the lowest seven bits come first, and there are four at most
abbrev pub varint_turn : VarintPlace → ℕ → ScanStep VarintPlace
varint_turn at.Kind byte = More at.Length
varint_turn at.Length byte = if nat_lt byte 128 then Sized byte else More (at.One (byte - 128))
varint_turn (at.One a) byte = if nat_lt byte 128 then Sized (a + 128 * byte) else More (at.Two a (byte - 128))
varint_turn (at.Two a b) byte =
    if nat_lt byte 128 then Sized (a + 128 * b + 16384 * byte) else More (at.Three a b (byte - 128))
varint_turn (at.Three a b c) byte =
    if nat_lt byte 128 then Sized (a + 128 * b + 16384 * c + 2097152 * byte) else Bad

abbrev pub varints : ℕ → Scanning VarintPlace
varints max = record { start = at.Length; turn = varint_turn; most_header = 4; max = max; tail = [] }

-- a byte of any kind stands in front
abbrev pub kind_varints : ℕ → Scanning VarintPlace
kind_varints max = record { start = at.Kind; turn = varint_turn; most_header = 5; max = max; tail = [] }

abbrev pub kind_pieces : ℕ → Grammar HeaderError
kind_pieces max = length_prefixed (scanned (kind_varints max))

-- the kind of a piece
abbrev pub piece_kind : List ℕ → ℕ
piece_kind [] = 0
piece_kind (kind ∷ more) = kind

-- a length as it is written: seven bits a byte, the lowest first, and 128 more in each but the last
abbrev pub varint_bytes : ℕ → List ℕ
varint_bytes n =
    if nat_lt n 128 then n ∷ []
    else if nat_lt n 16384 then (128 + n % 128) ∷ (n / 128) ∷ []
    else if nat_lt n 2097152 then (128 + n % 128) ∷ (128 + n / 128 % 128) ∷ (n / 16384) ∷ []
    else (128 + n % 128) ∷ (128 + n / 128 % 128) ∷ (128 + n / 16384 % 128) ∷ (n / 2097152) ∷ []

abbrev pub kind_headers : ℕ → ℕ → HeadersOut
kind_headers max kind = record { header = λ len. kind ∷ varint_bytes len; max = max }
