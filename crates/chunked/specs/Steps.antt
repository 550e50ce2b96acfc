-- Where each byte leads that is no payload, and how far a reader comes in bytes that it was shown.
use Rattle.std.specs.Prelude.{◌≡◌, ℕ, zero, suc, ◌+◌, ◌*◌, ◌-◌, ◌^◌, ◌<◌, ◌≤◌, ◌⊎◌, List, [], length, take, slice_index, Result, Ok, Err, None, IfSome}
use Rattle.std.specs.Char.{digit_value}
use Rattle.body_reader.specs.Coding.{PassesOver}
use Rattle.chunked.specs.Token.{IsTokenByte, IsValueByte}
use Rattle.chunked.specs.Within.{CompletesExtension, LeadsWithin}
use Rattle.chunked.specs.Coding.{chunked}
use Rattle.chunked.specs.Place.{IsDataOrDone, IsPlace, IsWrong}
use Rattle.chunked.specs.declared.error.Malformed.{Malformed}
use Rattle.chunked.specs.declared.limits.Limits.{Limits}
use Rattle.chunked.specs.declared.place.Place.{Place}
use Rattle.chunked.specs.declared.place.Place.TheVariants.{Line, Size, Extension, SizeFeed, Data, DataFeed, Fields, FieldName, FieldValue, FieldFeed, LastFeed, Done}
use Rattle.chunked.specs.declared.extension.Within.{Within}
use Rattle.chunked.specs.declared.extension.Within.TheVariants.{Behind}
use Rattle.chunked.specs.declared.step.Reached.{Reached}

-- the place behind the line of this size
abbrev pub behind_size : Limits → ℕ → Place
behind_size limits zero = Fields limits.trailers
behind_size limits (suc n) = Data (suc n)

-- a byte leads on in an extension, which the room that is left can end, or ends its line
abbrev pub LeadsInExtension : Within → ℕ → ℕ → ℕ → Place → Type 0
LeadsInExtension within size room b q = ((b ≡ 13) × CompletesExtension within [] × (q ≡ SizeFeed size))
    ⊎ ((next : Within) × LeadsWithin within b next
    × ((text : List ℕ) × CompletesExtension next text × (length text < room)) × (q ≡ Extension next size (room - 1)))

-- a byte leads from the one place to the other
abbrev pub StepsTo : Limits → Place → ℕ → Place → Type 0
StepsTo limits Line b q = (digit_value b < 16) × (q ≡ Size (digit_value b) (limits.line - 1))
StepsTo limits (Size number room) b q =
    ((digit_value b < 16) × (0 < room) × (number * 16 + digit_value b < 2 ^ 62)
    × (q ≡ Size (number * 16 + digit_value b) (room - 1)))
    ⊎ (¬ (digit_value b < 16) × (number < 2 ^ 62) × LeadsInExtension Behind number room b q)
StepsTo limits (Extension within size room) b q = (size < 2 ^ 62) × LeadsInExtension within size room b q
StepsTo limits (SizeFeed size) b q = (b ≡ 10) × (size < 2 ^ 62) × (q ≡ behind_size limits size)
StepsTo limits (Data left) b q = (left ≡ 0) × (b ≡ 13) × (q ≡ DataFeed)
StepsTo limits DataFeed b q = (b ≡ 10) × (q ≡ Line)
StepsTo limits (Fields room) b q =
    ((b ≡ 13) × (q ≡ LastFeed)) ⊎ (IsTokenByte b × (2 ≤ room) × (q ≡ FieldName (room - 1)))
StepsTo limits (FieldName room) b q = ((b ≡ 58) × (0 < room) × (q ≡ FieldValue (room - 1)))
    ⊎ (IsTokenByte b × (2 ≤ room) × (q ≡ FieldName (room - 1)))
StepsTo limits (FieldValue room) b q =
    ((b ≡ 13) × (q ≡ FieldFeed room)) ⊎ (IsValueByte b × (0 < room) × (q ≡ FieldValue (room - 1)))
StepsTo limits (FieldFeed room) b q = (b ≡ 10) × (q ≡ Fields room)
StepsTo limits LastFeed b q = (b ≡ 10) × (q ≡ Done)
StepsTo limits Done b q = ⊥

-- one byte leads on, or what is wrong with it has this name
abbrev pub StepsOver : Limits → Place → ℕ → Result Place Malformed → Type 0
StepsOver limits p b (Ok q) = StepsTo limits p b q × IsPlace q
StepsOver limits p b (Err why) = IsWrong limits p b why

-- these bytes, which are no payload and don't go past the end, lead from one place to the other
pub record Comes (limits : Limits) (p : Place) (wire : List ℕ) (q : Place) : Type 0 where
  pub passes : PassesOver (chunked limits) p wire q []
  pub place : IsPlace q

-- of these bytes the first are taken, which leads on; where it ends something is wrong, or payload or nothing comes next, or
-- all were taken
pub record Advances (limits : Limits) (p : Place) (shown : List ℕ) (r : Reached) : Type 0 where
  pub within : r.taken ≤ length shown
  pub comes : Comes limits p (take r.taken shown) r.place
  pub wrong : IfSome r.wrong (λ why. (r.taken < length shown) × IsWrong limits r.place (slice_index shown r.taken) why)
  pub all : r.wrong ≡ None → IsDataOrDone r.place ⊎ (r.taken ≡ length shown)
  pub some : ¬ IsDataOrDone p → 0 < length shown → r.wrong ≡ None → 0 < r.taken
  pub begun : (0 < r.taken) ⊎ (r.place ≡ p)
