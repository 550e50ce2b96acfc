-- Packet lines.
use Rattle.std.specs.Prelude.{ℕ, ◌+◌, ◌-◌, ◌*◌, [], ◌&&◌, nat_lt, if◌then◌else◌, Option, None, Some}
use Rattle.codec.specs.Scanning.{Scanning}
use Rattle.codec.specs.declared.scan.ScanStep.{ScanStep}
use Rattle.codec.specs.declared.scan.ScanStep.TheVariants.{More, Sized, Bad}
use Rattle.tests_codec.specs.declared.packets.Place.{Place}
use Rattle.tests_codec.specs.declared.packets.Place.TheVariants as at

-- the digit that a byte is: 0 to 9, or a to f
abbrev pub digit_of : ℕ → Option ℕ
digit_of byte =
    if nat_lt 47 byte && nat_lt byte 58 then Some (byte - 48)
    else if nat_lt 96 byte && nat_lt byte 103 then Some (byte - 87) else None

-- the length counts its own four digits, so it is four at least
abbrev pub sized : ℕ → ScanStep Place
sized all = if nat_lt all 4 then Bad else Sized (all - 4)

-- behind one more digit, of which there are four
abbrev pub behind : Place → ℕ → ScanStep Place
behind at.None digit = More (at.One digit)
behind (at.One a) digit = More (at.Two a digit)
behind (at.Two a b) digit = More (at.Three a b digit)
behind (at.Three a b c) digit = sized (4096 * a + 256 * b + 16 * c + digit)

-- behind one more byte, which is a digit
abbrev pub on_digit : Place → Option ℕ → ScanStep Place
on_digit place (Some digit) = behind place digit
on_digit place None = Bad

abbrev pub packets : Scanning Place
packets = record {
  start = at.None;
  turn = λ place byte. on_digit place (digit_of byte);
  most_header = 4;
  max = 65516;
  tail = [];
}
