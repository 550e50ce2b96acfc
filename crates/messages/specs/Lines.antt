-- The lines of a head, read byte by byte, and what is wrong with those that are none.
use Rattle.std.specs.Prelude.{◌≡◌, ℕ, ◌+◌, ◌==◌, ◌&&◌, ◌||◌, not, nat_lt, if◌then◌else◌, Bool, true, false, All, List, [], ◌∷◌, codes, slice_index, take}
use Rattle.std.specs.Char.{is_ascii_digit}
use Rattle.codec.specs.declared.HeaderError.{HeaderError}
use Rattle.codec.specs.declared.scan.ScanStep.{ScanStep}
use Rattle.codec.specs.declared.scan.ScanStep.TheVariants.{More, Sized, Bad}
use Rattle.codec.specs.Grammar.{Grammar}
use Rattle.codec.specs.HeaderFormat.{length_prefixed}
use Rattle.codec.specs.Scanning.{Scanning, scanned}
use Rattle.httparse.specs.Grammar.{crlf, is_token_byte, is_uri_byte, RequestHead}
use Rattle.messages.specs.declared.bad_head.BadHead.{BadHead}
use Rattle.messages.specs.declared.bad_head.BadHead.TheVariants as bad
use Rattle.messages.specs.declared.bad_head.BadHead.TheVariants.{BareEnd, LongLine, LongHead, Refused}
use Rattle.messages.specs.declared.lines.Before.{Before}
use Rattle.messages.specs.declared.lines.Before.TheVariants.{Start, StartReturn, Method, Space, Target, Version, OtherVersion, FirstReturn, Feed, Text, Return, EmptyReturn}

-- behind so many bytes a version goes on with this one: `HTTP/`, a digit, a dot, a digit
abbrev pub has_version_byte : ℕ → ℕ → Bool
has_version_byte at byte =
    if (at == 5) || (at == 7) then is_ascii_digit byte
    else nat_lt at 7 && (slice_index (codes "HTTP/0.") at == byte)

-- one more byte of a head: the first line is a method, a target, and a version whose first digit is 1, each CR and LF is one of
-- a CR LF, and behind an empty line the head ends, but for such in front of it, which say nothing (RFC 9112, section 2.2)
abbrev pub turn : Before → ℕ → ScanStep Before
turn Start byte = if is_token_byte byte then More Method else (if byte == 13 then More StartReturn else Bad)
turn StartReturn byte = if byte == 10 then More Start else Bad
turn Method byte = if is_token_byte byte then More Method else (if byte == 32 then More Space else Bad)
turn Space byte = if is_uri_byte byte then More Target else Bad
turn Target byte = if is_uri_byte byte then More Target else (if byte == 32 then More (Version 0) else Bad)
turn (Version at) byte =
    if has_version_byte at byte
    then (if (at == 5) && not (byte == 49) then More (OtherVersion (at + 1)) else More (Version (at + 1)))
    else (if (byte == 13) && (at == 8) then More FirstReturn else Bad)
turn (OtherVersion at) byte = if has_version_byte at byte then More (OtherVersion (at + 1)) else Bad
turn FirstReturn byte = if byte == 10 then More Feed else Bad
turn Feed byte = if byte == 13 then More EmptyReturn else (if byte == 10 then Bad else More Text)
turn Text byte = if byte == 13 then More Return else (if byte == 10 then Bad else More Text)
turn Return byte = if byte == 10 then More Feed else Bad
turn EmptyReturn byte = if byte == 10 then Sized 0 else Bad

abbrev pub lines : Scanning Before
lines = record { start = Start; turn = turn; most_header = 16384; max = 0; tail = [] }

-- lines up to an empty one, as pieces
abbrev pub texts : Grammar HeaderError
texts = length_prefixed (scanned lines)

-- a CR stands before the next byte
abbrev pub is_return : Before → Bool
is_return StartReturn = true
is_return FirstReturn = true
is_return Return = true
is_return EmptyReturn = true
is_return place = false

-- the first line is whole
abbrev pub is_behind_first : Before → Bool
is_behind_first Feed = true
is_behind_first Text = true
is_behind_first Return = true
is_behind_first EmptyReturn = true
is_behind_first place = false

-- the first line names a version whose first digit isn't 1
abbrev pub names_other : Before → Bool
names_other (OtherVersion at) = at == 8
names_other place = false

-- what is too long, where a head may have no more bytes than lead here: its first line, or the head
abbrev pub too_long : Before → BadHead
too_long place = if is_behind_first place then LongHead else LongLine

-- what is wrong where this byte goes no further: it is an LF behind no CR, or follows a CR; or no request line goes on so, where
-- one that names another version would end
abbrev pub turn_fault : Before → ℕ → BadHead
turn_fault place byte =
    if (byte == 10) || is_return place then BareEnd
    else (if names_other place && (byte == 13) then bad.Version else Refused)

-- what is wrong with these bytes from here on: one of them goes no further; or there are too many
abbrev pub fault_then : ScanStep Before → BadHead → (Before → BadHead) → BadHead
fault_then (More place) why on = on place
fault_then (Sized len) why on = why
fault_then Bad why on = why

abbrev pub fault_on : Before → List ℕ → BadHead
fault_on place [] = too_long place
fault_on place (byte ∷ bytes) = fault_then (turn place byte) (turn_fault place byte) (λ next. fault_on next bytes)

-- and with lines that can't become those of a head, of which no more bytes count than a head has
abbrev pub line_fault : List ℕ → BadHead
line_fault bytes = fault_on Start (take 16384 bytes)

-- each line of a head ends by CR LF
pub record EndsByBoth (h : RequestHead) : Type 0 where
  pub blank : All (λ end. end ≡ crlf) h.blank
  pub first : h.line_end ≡ crlf
  pub fields : All (λ f. f.end ≡ crlf) h.fields
  pub last : h.last ≡ crlf
