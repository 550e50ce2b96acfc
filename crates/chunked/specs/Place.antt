-- Where in a body a reader stands: what completes the body from there, and what doesn't.
use Rattle.std.specs.Prelude.{◌≡◌, ◌≢◌, ℕ, zero, suc, ◌+◌, ◌*◌, ◌^◌, ◌<◌, ◌≤◌, ◌⊎◌, List, [], ◌∷◌, length, max, ⊤}
use Rattle.std.specs.Char.{digit_value}
use Rattle.std.specs.List.{AllByRecursion}
use Rattle.chunked.specs.Token.{IsTokenByte, IsValueByte}
use Rattle.chunked.specs.Extension.{One}
use Rattle.chunked.specs.Within.{CompletesExtension, EndsNoExtension, RunsOver}
use Rattle.chunked.specs.Body.{BehindFirst, EndsLine, EndsSize, IsBodyOfChunks, IsTextByte, IsTrailers, LineFeedThen}
use Rattle.chunked.specs.declared.error.Malformed.{Malformed}
use Rattle.chunked.specs.declared.error.Malformed.TheVariants.{NoSize, BadSize, BadField, SizeTooLarge, LineTooLong, TrailersTooLong, BareReturn, BareFeed, ChunkTooLong}
use Rattle.chunked.specs.declared.limits.Limits.{Limits}
use Rattle.chunked.specs.declared.place.Place.{Place}
use Rattle.chunked.specs.declared.place.Place.TheVariants.{Line, Size, Extension, SizeFeed, Data, DataFeed, Fields, FieldName, FieldValue, FieldFeed, LastFeed, Done}
use Rattle.chunked.specs.declared.extension.Within.{Within}
use Rattle.chunked.specs.declared.extension.Within.TheVariants.{Behind}

-- `left` bytes of payload, the end of a line, and then a body
abbrev pub CompletesData : Limits → ℕ → List ℕ → List ℕ → Type 0
CompletesData limits zero rest payload =
    One (λ b. b ≡ 13) (LineFeedThen (λ behind. IsBodyOfChunks limits behind payload)) rest
CompletesData limits (suc left) [] payload = ⊥
CompletesData limits (suc left) (b ∷ rest) payload =
    (later : List ℕ) × (payload ≡ b ∷ later) × CompletesData limits left rest later

-- what stands behind the line of this size
abbrev pub BehindSize : Limits → ℕ → List ℕ → List ℕ → Type 0
BehindSize limits zero rest payload = (payload ≡ []) × IsTrailers limits.trailers rest
BehindSize limits (suc n) rest payload = CompletesData limits (suc n) rest payload

-- the rest of an extension ends the line of this size
abbrev pub CompletesSizeLine : Limits → Within → ℕ → ℕ → List ℕ → List ℕ → Type 0
CompletesSizeLine limits within size room rest payload =
    EndsLine (CompletesExtension within) (λ left behind. BehindSize limits size behind payload) room rest × (size < 2 ^ 62)

-- these bytes complete the body from here, and this is the payload in them
abbrev pub Completes : Limits → Place → List ℕ → List ℕ → Type 0
Completes limits Line rest payload = IsBodyOfChunks limits rest payload
Completes limits (Size number room) rest payload =
    EndsSize (λ size behind. BehindSize limits size behind payload) number room rest
Completes limits (Extension within size room) rest payload = CompletesSizeLine limits within size room rest payload
Completes limits (SizeFeed size) rest payload =
    LineFeedThen (λ behind. BehindSize limits size behind payload) rest × (size < 2 ^ 62)
Completes limits (Data left) rest payload = CompletesData limits left rest payload
Completes limits DataFeed rest payload = LineFeedThen (λ behind. IsBodyOfChunks limits behind payload) rest
Completes limits (Fields room) rest payload = (payload ≡ []) × IsTrailers room rest
Completes limits (FieldName room) rest payload = (payload ≡ []) × EndsLine BehindFirst IsTrailers room rest
Completes limits (FieldValue room) rest payload =
    (payload ≡ []) × EndsLine (AllByRecursion IsValueByte) IsTrailers room rest
Completes limits (FieldFeed room) rest payload = (payload ≡ []) × LineFeedThen (IsTrailers room) rest
Completes limits LastFeed rest payload = (payload ≡ []) × LineFeedThen (λ behind. behind ≡ []) rest
Completes limits Done rest payload = (payload ≡ []) × (rest ≡ [])

-- what is wrong with a byte in a line: it goes over the room, or is a bare LF, or a bad one
abbrev pub WrongInLine : Malformed → Malformed → Type 0 → Type 0 → ℕ → Malformed → Type 0
WrongInLine over bad Over Bad b why = ((why ≡ over) × Over) ⊎ (((why ≡ BareFeed) × (b ≡ 10)) ⊎ ((why ≡ bad) × Bad))

abbrev pub WrongInExtension : Within → ℕ → ℕ → Malformed → Type 0
WrongInExtension within room b why =
    WrongInLine LineTooLong BadSize (RunsOver within room b) (EndsNoExtension within b) b why

abbrev pub WrongInTrailers : Type 0 → Type 0 → ℕ → Malformed → Type 0
WrongInTrailers Over Bad b why = WrongInLine TrailersTooLong BadField Over Bad b why

-- what is wrong with a digit: it makes this of the number, or the line has no room for it
abbrev pub WrongDigit : ℕ → ℕ → Malformed → Type 0
WrongDigit number room why =
    ((why ≡ SizeTooLarge) × (2 ^ 62 ≤ number)) ⊎ ((why ≡ LineTooLong) × (number < 2 ^ 62) × (room ≡ 0))

-- what is wrong with the next byte in a place. There is nothing else that can be, and no byte is wrong in two ways
abbrev pub IsWrong : Limits → Place → ℕ → Malformed → Type 0
IsWrong limits Line b why = (why ≡ NoSize) × ¬ (digit_value b < 16)
IsWrong limits (Size number room) b why =
    ((digit_value b < 16) × WrongDigit (number * 16 + digit_value b) room why)
    ⊎ (¬ (digit_value b < 16) × WrongInExtension Behind room b why)
IsWrong limits (Extension within size room) b why = WrongInExtension within room b why
IsWrong limits (Data left) b why = (why ≡ ChunkTooLong) × (left ≡ 0) × (b ≢ 13)
IsWrong limits (Fields room) b why =
    WrongInTrailers (IsTokenByte b × (room < 2)) (¬ IsTokenByte b × IsTextByte b) b why
IsWrong limits (FieldName room) b why =
    WrongInTrailers (IsTokenByte b × (room < 2)) (¬ IsTokenByte b × (b ≢ 58) × (b ≢ 10)) b why
IsWrong limits (FieldValue room) b why =
    WrongInTrailers (IsValueByte b × (room ≡ 0)) (¬ IsValueByte b × IsTextByte b) b why
IsWrong limits Done b why = ⊥
IsWrong limits feed b why = (why ≡ BareReturn) × (b ≢ 10)

-- how many bytes the line of a size may have: one digit it always may
abbrev pub line_room : Limits → ℕ
line_room limits = max limits.line 1

-- how many bytes there may be at most, from here to the next of payload or to the end of the body
abbrev pub most_between : Limits → Place → ℕ
most_between limits Line = line_room limits + 3 * limits.trailers + 4
most_between limits (Size number room) = room + 3 * limits.trailers + 4
most_between limits (Extension within size room) = room + 3 * limits.trailers + 4
most_between limits (SizeFeed size) = 3 * limits.trailers + 3
most_between limits (Data zero) = line_room limits + 3 * limits.trailers + 6
most_between limits (Data (suc left)) = 0
most_between limits DataFeed = line_room limits + 3 * limits.trailers + 5
most_between limits (Fields room) = 3 * room + 2
most_between limits (FieldName room) = 3 * room + 4
most_between limits (FieldValue room) = 3 * room + 4
most_between limits (FieldFeed room) = 3 * room + 3
most_between limits LastFeed = 1
most_between limits Done = 0

-- a payload or nothing comes next
abbrev pub IsDataOrDone : Place → Type 0
IsDataOrDone (Data (suc left)) = ⊤
IsDataOrDone Done = ⊤
IsDataOrDone p = ⊥

-- the size that is kept is one of a chunk, and `room` bytes are enough to end what was begun
abbrev pub IsPlace : Place → Type 0
IsPlace (Size number room) = number < 2 ^ 62
IsPlace (Extension within size room) =
    (size < 2 ^ 62) × ((text : List ℕ) × CompletesExtension within text × (length text ≤ room))
IsPlace (SizeFeed size) = size < 2 ^ 62
IsPlace (FieldName room) = 0 < room
IsPlace p = ⊤
