-- Bodies in the chunked coding. Each word says what bytes begin with, and what stands behind that.
use Rattle.std.specs.Prelude.{◌≡◌, ◌≢◌, ℕ, zero, suc, ◌+◌, ◌*◌, ◌-◌, ◌^◌, ◌<◌, ◌⊎◌, List, [], ◌∷◌, ◌++◌, length}
use Rattle.std.specs.Char.{digit_value}
use Rattle.std.specs.List.{concat, AllByRecursion}
use Rattle.chunked.specs.declared.limits.Limits.{Limits}
use Rattle.chunked.specs.Token.{IsTokenByte, IsValueByte}
use Rattle.chunked.specs.Extension.{IsExtension, Many, One}

-- the end of a line, CR LF, and what stands behind it
abbrev pub line_end : List ℕ → List ℕ
line_end behind = 13 ∷ 10 ∷ behind

-- a byte of a text of a line: neither CR nor LF
abbrev pub IsTextByte : ℕ → Type 0
IsTextByte b = (b ≢ 13) × (b ≢ 10)

-- an LF, and then bytes of which this is true
abbrev pub LineFeedThen : (List ℕ → Type 0) → List ℕ → Type 0
LineFeedThen P rest = One (λ b. b ≡ 10) P rest

-- a text such as this, for which there is room, ends its line; and what is left of the room, and what stands behind the line, go
-- on so
abbrev pub EndsLine : (List ℕ → Type 0) → (ℕ → List ℕ → Type 0) → ℕ → List ℕ → Type 0
EndsLine IsText GoesOn room [] = ⊥
EndsLine IsText GoesOn room (b ∷ rest) = ((b ≡ 13) × IsText [] × LineFeedThen (GoesOn room) rest)
    ⊎ ((0 < room) × EndsLine (λ text. IsText (b ∷ text)) GoesOn (room - 1) rest)

-- hexadecimal digits, behind others that write this number, and then an extension end the line of a size, which is below 2^62;
-- and what stands behind the line goes on so by the size
abbrev pub EndsSize : (ℕ → List ℕ → Type 0) → ℕ → ℕ → List ℕ → Type 0
EndsSize GoesOn number room [] = ⊥
EndsSize GoesOn number room (b ∷ rest) =
    ((digit_value b < 16) × (0 < room) × EndsSize GoesOn (number * 16 + digit_value b) (room - 1) rest)
    ⊎ (EndsLine IsExtension (λ left behind. GoesOn number behind) room (b ∷ rest) × (number < 2 ^ 62))

-- the line of a size: it begins with a digit, for which there is room in any case
abbrev pub SizeLine : (ℕ → List ℕ → Type 0) → ℕ → List ℕ → Type 0
SizeLine GoesOn room [] = ⊥
SizeLine GoesOn room (b ∷ rest) = (digit_value b < 16) × EndsSize GoesOn (digit_value b) (room - 1) rest

-- what stands behind the first byte of a line of the trailers: the rest of its name, a colon, and a value
abbrev pub BehindFirst : List ℕ → Type 0
BehindFirst text = Many IsTokenByte (One (λ b. b ≡ 58) (AllByRecursion IsValueByte)) text

-- a line of the trailers: a name, which is a token, a colon, and a value
abbrev pub IsField : List ℕ → Type 0
IsField text = One IsTokenByte BehindFirst text

-- so many lines of the trailers, with room for all of them, and then an empty one
abbrev pub HasFields : ℕ → ℕ → List ℕ → Type 0
HasFields zero room bytes = One (λ b. b ≡ 13) (LineFeedThen (λ behind. behind ≡ [])) bytes
HasFields (suc count) room bytes = EndsLine IsField (HasFields count) room bytes

-- trailers are any number of them
abbrev pub IsTrailers : ℕ → List ℕ → Type 0
IsTrailers room bytes = (count : ℕ) × HasFields count room bytes

-- the lines of the trailers, and then an empty one
abbrev pub fields_bytes : List (List ℕ) → List ℕ
fields_bytes [] = line_end []
fields_bytes (field ∷ later) = field ++ line_end (fields_bytes later)

-- what stands behind the line of a size, where chunks of these payloads are to come: as many bytes, at least one, the end of a
-- line, and the next chunk; or behind the last one, whose size is 0, the trailers
abbrev pub HasChunks : Limits → List (List ℕ) → ℕ → List ℕ → Type 0
HasChunks limits [] size bytes = (size ≡ 0) × IsTrailers limits.trailers bytes
HasChunks limits (payload ∷ later) size bytes = (size ≡ length payload) × (0 < size)
    × (behind : List ℕ) × (bytes ≡ payload ++ line_end behind) × SizeLine (HasChunks limits later) limits.line behind

-- these bytes are a body with this payload, which is that of its chunks
pub record IsBodyOfChunks (limits : Limits) (bytes payload : List ℕ) : Type 0 where
  pub payloads : List (List ℕ)
  pub chunks : SizeLine (HasChunks limits payloads) limits.line bytes
  pub equal : payload ≡ concat payloads
