-- What contracts see of a reader of parts, and what its calls promise.
use Rattle.std.specs.Prelude.{◌≡◌, ◌≢◌, ℕ, ◌+◌, ◌<◌, ◌≤◌, ◌⊎◌, List, [], ◌∷◌, length, Bool, true, false, if◌then◌else◌, nat_le, Option, Result, Ok, Err, All, IfErr}
use Rattle.std.specs.IoError.{error_kind}
use Rattle.std.specs.declared.io.Error.{Error}
use Rattle.std.specs.declared.io.ErrorKind.TheVariants.{InvalidData, OutOfMemory, UnexpectedEof}
use Rattle.buffer_redux.specs.Buffered.{Buffered}
use Rattle.buffer_redux.specs.Policy.{ReadRules}
use Rattle.body_reader.specs.declared.error.BodyError.{BodyError}
use Rattle.body_reader.specs.declared.error.BodyError.TheVariants as why
use Rattle.body_reader.specs.declared.error.CollectError.{CollectError}
use Rattle.body_reader.specs.declared.error.CollectError.TheVariants as collect
use Rattle.body_reader.specs.declared.just_or_until.JustOr.{JustOr}
use Rattle.body_reader.specs.declared.just_or_until.JustOrUntil.{JustOrUntil}
use Rattle.body_reader.specs.BodyReader.{BodyState, Collects, Drains, begun, handed_of}
use Rattle.body_reader.specs.Coding.{Grammar, IsBody}
use Rattle.body_reader.specs.JustOrUntil.{just_or_until}
use Rattle.multipart.specs.declared.error.PartError.{PartError}
use Rattle.multipart.specs.declared.error.PartError.TheVariants as part
use Rattle.multipart.specs.declared.reader.Limits.{Limits}
use Rattle.multipart.specs.declared.reader.Stand.{Stand}
use Rattle.multipart.specs.declared.reader.Stand.TheVariants.{Preamble, Head, Part, Ended}
use Rattle.multipart.specs.Head.{IsPartHead}
use Rattle.part_fields.specs.Fields.{crlf}

-- the section that is being read, of a text or a head; the coding of those that it takes turns with; the head that came last, and
-- how many bytes there is room for; where the reader stands; and how many parts began
pub record FormState (S Q : Type 0) : Type 0 where
  pub body : BodyState S Q JustOrUntil JustOr
  pub other : JustOrUntil
  pub head : List ℕ
  pub room : ℕ
  pub stand : Stand
  pub parts : ℕ
  pub limits : Limits

abbrev pub codes : JustOrUntil → Grammar JustOr (Unit {0})
codes c = just_or_until c.just.items c.until.delimiter c.room

-- which stand for a head behind the last boundary
abbrev pub hyphens : List ℕ
hyphens = 45 ∷ 45 ∷ []

-- whether there may be no further part
abbrev pub is_full : {S Q : Type 0} → FormState S Q → Bool
is_full d = nat_le d.limits.parts d.parts

-- how many bytes a head may have: none, where there may be no further part
abbrev pub head_most : {S Q : Type 0} → FormState S Q → ℕ
head_most d = if is_full d then 0 else d.limits.head

-- a boundary that begins a line ends a text, also where it begins the text; and an empty line ends a head, or two hyphens are all
-- of it. Behind as many parts as may be there is no other: each byte else is payload at once, of which there may be none
pub record AreCodings (full : Bool) (texts heads : JustOrUntil) : Type 0 where
  pub line : texts.until.delimiter ≡ 13 ∷ 10 ∷ texts.just.items
  pub end : heads.until.delimiter ≡ (if full then 45 ∷ hyphens else 13 ∷ 10 ∷ crlf)
  pub hyphens : heads.just.items ≡ hyphens
  pub room : heads.room ≡ texts.room

-- the coding of a head, where heads have this
abbrev pub TurnsLast : Bool → JustOrUntil → JustOrUntil → Type 0
TurnsLast true c d = (d.until.delimiter ≡ 45 ∷ hyphens) × (d.just.items ≡ c.just.items) × (d.room ≡ c.room)
TurnsLast false c d = d ≡ c

-- what came of a head so far may begin one, and is no longer than one may be
pub record BeginsHead {S Q : Type 0} (d : FormState S Q) : Type 0 where
  pub codings : AreCodings (is_full d) d.other d.body.coding
  pub all : d.head ≡ handed_of d.body
  pub is_head : IsPartHead d.other.until.delimiter d.head
  pub few : length d.head ≤ head_most d

-- what is true of a reader of parts that stands there: which coding is whose; and what the head is: all that came of one so far,
-- or a whole one in front of a text, which is no longer than one may be
abbrev pub IsForm : {S Q : Type 0} → Stand → FormState S Q → Type 0
IsForm Preamble d = AreCodings false d.body.coding d.other
IsForm Head d = BeginsHead d
IsForm Part d = AreCodings false d.body.coding d.other × ((bytes : List ℕ) × IsBody (codes d.other) bytes d.head)
    × (length d.head ≤ d.limits.head)
IsForm Ended d = AreCodings (is_full d) d.other d.body.coding × (d.body.taken ≡ hyphens)

-- a boundary has 1 to 70 bytes, and none of them is a carriage return or a line feed
pub record IsBoundary (boundary : List ℕ) : Type 0 where
  pub some : 0 < length boundary
  pub few : length boundary ≤ 70
  pub one_line : All (λ byte. (byte ≢ 13) × (byte ≢ 10)) boundary

-- before the first byte of a body with this boundary
pub record IsBegun {S Q : Type 0} (reader : Buffered S Q) (boundary : List ℕ) (limits : Limits) (t : FormState S Q)
    : Type 0 where
  pub right : IsBoundary boundary
  pub mark : t.body.coding.just.items ≡ 45 ∷ 45 ∷ boundary
  pub room : t.body.coding.room ≡ length boundary + 4
  pub body : t.body ≡ begun (codes t.body.coding) reader t.body.coding
  pub head : t.head ≡ []
  pub unreserved : t.room ≡ 0
  pub stand : t.stand ≡ Preamble
  pub parts : t.parts ≡ 0
  pub limited : t.limits ≡ limits

-- the next section begins, where the last one left the buffered reader
abbrev pub turned : {S Q : Type 0} → FormState S Q → Stand → FormState S Q
turned d stand = record d { body = begun (codes d.other) d.body.reader d.other; other = d.body.coding; stand = stand }

-- an error of a section as one of the whole
abbrev pub part_error : BodyError (Unit {0}) → PartError
part_error (why.Wrong w right) = part.Boundary
part_error (why.Truncated right) = part.Truncated
part_error (why.Io e) = part.Io e

-- why a head wasn't collected, where there may be no further part or there may
abbrev pub head_error : Bool → CollectError (Unit {0}) → PartError
head_error full (collect.Body e) = part_error e
head_error full collect.TooLong = if full then part.ManyParts else part.LongHead
head_error full collect.Memory = part.Memory
head_error full collect.Refused = part.Boundary

-- an error of the whole as one of std's streams: a stream's own is the same
abbrev pub PartBecomesIo : PartError → Error → Type 0
PartBecomesIo (part.Io same) e = e ≡ same
PartBecomesIo part.Truncated e = error_kind e ≡ UnexpectedEof
PartBecomesIo part.Memory e = error_kind e ≡ OutOfMemory
PartBecomesIo wrong e = error_kind e ≡ InvalidData

-- a head ended: two hyphens end the body, and else a part begins, which there may be
abbrev pub EndsHead : {S Q : Type 0} → FormState S Q → Bool → FormState S Q → Type 0
EndsHead s false t = (s.body.taken ≡ hyphens) × (t ≡ record s { stand = Ended })
EndsHead s true t =
    (s.body.taken ≢ hyphens) × (s.parts < s.limits.parts) × (t ≡ turned (record s { parts = s.parts + 1 }) Part)

module _ {S Q : Type 0} (remaining : S → Option (List ℕ)) (rules : ReadRules Q) where
  -- the head was collected, while it may go on so. The stream is asked only where nothing was settled, and no piece is cut. What
  -- is refused stays buffered; and memory is refused only where there was no room
  abbrev pub CollectsHead : FormState S Q → Result (Unit {0}) (CollectError (Unit {0})) → FormState S Q → Type 0
  CollectsHead s answer t = (t ≡ record s { body = t.body; head = t.head; room = t.room })
      × Collects remaining rules (codes s.body.coding) (IsPartHead s.other.until.delimiter) (head_most s) s.body s.head answer
      t.body t.head
      × IfErr answer (λ why. why ≡ collect.Memory → s.room < length t.head + t.body.known)

  -- from a head on: to its end, or why not
  abbrev pub GoesOnFromHead : FormState S Q → Result Bool PartError → FormState S Q → Type 0
  GoesOnFromHead s (Ok more) t = (m : FormState S Q) × CollectsHead s (Ok tt) m × EndsHead m more t
  GoesOnFromHead s (Err e) t =
      (why : CollectError (Unit {0})) × (e ≡ head_error (is_full s) why) × CollectsHead s (Err why) t

  -- from a text on: the rest of it was dropped, and a head begins behind its end; or why not, within the text
  abbrev pub PassesText : FormState S Q → Result Bool PartError → FormState S Q → Type 0
  PassesText s answer t = ((b : BodyState S Q JustOrUntil JustOr) × (heads : JustOrUntil)
      × Drains remaining rules (codes s.body.coding) s.body (Ok tt) b × TurnsLast (is_full s) s.other heads
      × GoesOnFromHead (turned (record s { body = b; head = []; other = heads }) Head) answer t)
      ⊎ ((w : BodyError (Unit {0})) × (answer ≡ Err (part_error w)) × (t ≡ record s { body = t.body })
      × Drains remaining rules (codes s.body.coding) s.body (Err w) t.body)

  -- going on to the next part: behind the last one nothing is done
  abbrev pub NextPart : Stand → FormState S Q → Result Bool PartError → FormState S Q → Type 0
  NextPart Ended s answer t = (answer ≡ Ok false) × (t ≡ s)
  NextPart Head s answer t = GoesOnFromHead s answer t
  NextPart text s answer t = PassesText s answer t
