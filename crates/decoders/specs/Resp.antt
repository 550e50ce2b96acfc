-- The pieces of RESP.
use Rattle.std.specs.Prelude.{ℕ, List, [], ◌∷◌, drop, Bool, ◌&&◌, ◌||◌, ◌==◌, slice_index, if◌then◌else◌, Option, None, Some}
use Rattle.std.specs.Option.{option_map_or}
use Rattle.codec.specs.Decoding.{OnMore}
use Rattle.codec.specs.Delimited.{delimited}
use Rattle.codec.specs.Ended.{ended}
use Rattle.codec.specs.FirstByte.{SaidAs, either, either_looks, either_notes}
use Rattle.codec.specs.Grammar.{Grammar}
use Rattle.codec.specs.HeaderFormat.{AsksPayload, length_prefixed}
use Rattle.codec.specs.Looking.{LookTells}
use Rattle.codec.specs.Number.{with_byte}
use Rattle.codec.specs.Scanning.{scan_notes, scanned}
use Rattle.codec.specs.Showing.{showing}
use Rattle.codec.specs.Trimming.{trimming}
use Rattle.codec.specs.declared.by_first.EitherWrong.{EitherWrong}
use Rattle.codec.specs.declared.TooLong.{TooLong}
use Rattle.codec.specs.declared.ended.Unended.{Unended}
use Rattle.codec.specs.declared.ended.Unended.TheVariants as unended
use Rattle.codec.specs.declared.HeaderError.{HeaderError}
use Rattle.codec.specs.declared.number.Number.{Number}
use Rattle.codec.specs.declared.scan.ScanNote.{ScanNote}
use Rattle.decoders.specs.declared.nullable.StringState.{StringState}
use Rattle.codec.specs.declared.number.Number.TheVariants as number
use Rattle.decoders.specs.Nullable.{nullable}
use Rattle.decoders.specs.declared.resp.RespItem.{RespItem}
use Rattle.decoders.specs.declared.resp.RespItem.TheVariants.{Bulk, Null, Array, NullArray, Simple, Error, Number as Numeral, Inline}

-- a line without the asterisk, plus, minus or colon that says what it is
abbrev pub behind_kind : List ℕ → List ℕ
behind_kind [] = []
behind_kind (byte ∷ line) = if (byte == 42) || (byte == 43) || (byte == 45) || (byte == 58) then line else byte ∷ line

-- lines without that byte, and without the CR that they may end with
abbrev pub resp_lines : ℕ → Grammar TooLong
resp_lines max = showing behind_kind (trimming (delimited 10 max))

-- what a dollar sign begins is a bulk string, or the null one; each other piece is a line, with its end
abbrev pub resp : ℕ → Grammar (EitherWrong HeaderError (Unended TooLong))
resp max = either 36 (length_prefixed (scanned (nullable max))) (ended (resp_lines max))

-- what a look leaves for the next one: of a bulk string where its header stands, of a line nothing
abbrev pub resp_notes : ℕ → List ℕ → ScanNote StringState × Unit {0} → Type 0
resp_notes max = either_notes 36 (scan_notes (nullable max)) (λ bytes note. Unit {0})

-- what its looks tell: once the header of a string is there, that asks for its payload
abbrev pub resp_looks : ℕ → LookTells (EitherWrong HeaderError (Unended TooLong))
resp_looks max = either_looks 36 (λ bytes seen is. OnMore is (AsksPayload (scanned (nullable max)) bytes))
    (λ bytes seen. SaidAs (λ e. unended.Wrong e) (λ said. Unit {0}))

-- a line ends with this byte, which is LF, or CR with LF behind it
abbrev pub ends_here : ℕ → List ℕ → Bool
ends_here byte line = (byte == 10) || ((byte == 13) && (slice_index line 0 == 10))

-- a line is -1, with its end
abbrev pub is_minus_one : List ℕ → Bool
is_minus_one line =
    (slice_index line 0 == 45) && (slice_index line 1 == 49) && ends_here (slice_index line 2) (drop 3 line)

-- the number in decimal that a line is which ends here, behind these digits of it
abbrev pub counted : Number → ℕ → List ℕ → Option ℕ
counted number.Empty byte line = None
counted (number.Is value) byte line = if ends_here byte line then Some value else None

-- the number in decimal that a line is, with its end, behind these digits of it
abbrev pub count_in : Number → List ℕ → Option ℕ
count_in number [] = None
count_in number (byte ∷ line) =
    option_map_or (λ more. count_in more line) (with_byte number byte) (counted number byte line)

-- what a piece is, by the byte that it begins with
abbrev pub resp_item : List ℕ → RespItem
resp_item [] = Inline
resp_item (kind ∷ line) =
    if kind == 36 then (if slice_index line 0 == 45 then Null else Bulk)
    else if kind == 42 then (if is_minus_one line then NullArray else Array (count_in number.Empty line))
    else if kind == 43 then Simple else if kind == 45 then Error else if kind == 58 then Numeral else Inline
