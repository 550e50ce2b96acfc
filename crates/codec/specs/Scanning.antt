-- Headers that are read byte by byte.
use Rattle.std.specs.Prelude.{◌≡◌, ℕ, zero, suc, ◌+◌, ◌<◌, ◌^◌, List, [], ◌∷◌, length}
use Rattle.piece_reader.specs.declared.header.Header.{Header}
use Rattle.piece_reader.specs.declared.header.Header.TheVariants as header
use Rattle.codec.specs.declared.scan.ScanNote.{ScanNote}
use Rattle.codec.specs.declared.scan.ScanNote.TheVariants as note
use Rattle.codec.specs.declared.scan.ScanStep.{ScanStep}
use Rattle.codec.specs.declared.scan.ScanStep.TheVariants.{More, Sized, Bad}
use Rattle.piece_reader.specs.HeaderFormat.{HeaderFormat}

-- where a header stands before its first byte; what it is after one more; how many bytes a header and a payload have at most; and
-- what stands behind a payload
pub record Scanning (S : Type 0) : Type 0 where
  pub start : S
  pub turn : S → ℕ → ScanStep S
  pub most_header : ℕ
  pub max : ℕ
  pub tail : List ℕ

-- a header may have a byte, and the parts of a piece are small
pub record IsSmall {S : Type 0} (s : Scanning S) : Type 0 where
  pub some : 0 < s.most_header
  pub small : s.most_header + s.max + length s.tail < 2 ^ 63

-- what a header says that is this after so many bytes, and goes on so
abbrev pub says : {S : Type 0} → ScanStep S → ℕ → (S → Header) → Header
says (More state) used goes_on = goes_on state
says (Sized len) used goes_on = header.Sized len used
says Bad used goes_on = header.Bad

-- what it says at the front of these bytes, of which at most `left` may be its own, behind `used` that are
abbrev pub scan_on : {S : Type 0} → (S → ℕ → ScanStep S) → ℕ → S → ℕ → List ℕ → Header
scan_on turn zero state used bytes = header.Bad
scan_on turn (suc left) state used [] = header.Short
scan_on turn (suc left) state used (byte ∷ bytes) =
    says (turn state byte) (used + 1) (λ next. scan_on turn left next (used + 1) bytes)

-- read one by one, these bytes lead a header from the one place to the other
abbrev pub LeadsTo : {S : Type 0} → (S → ℕ → ScanStep S) → S → List ℕ → S → Type 0
LeadsTo turn state [] place = state ≡ place
LeadsTo {S} turn state (byte ∷ bytes) place = (next : S) × (turn state byte ≡ More next) × LeadsTo turn next bytes place

abbrev pub scanned : {S : Type 0} → Scanning S → HeaderFormat
scanned s = record {
  header = scan_on s.turn s.most_header s.start 0;
  most_header = s.most_header;
  max = s.max;
  tail = s.tail;
}

-- what a look at these bytes leaves: the place that they lead to, where fewer than the longest header has; or what a whole one
-- says
abbrev pub scan_notes : {S : Type 0} → Scanning S → List ℕ → ScanNote S → Type 0
scan_notes s bytes (note.Within place) = LeadsTo s.turn s.start bytes place × (length bytes < s.most_header)
scan_notes s bytes (note.Whole len used) = (scanned s).header bytes ≡ header.Sized len used
