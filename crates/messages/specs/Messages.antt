-- Messages, and what contracts see of a reader that stands in one.
use Rattle.std.specs.Prelude.{◌≡◌, ◌≤◌, ◌*◌, ℕ, List, [], ◌∷◌, ◌++◌, Option, None, Some, Result, Ok, Err}
use Rattle.buffer_redux.specs.Block.{Block, Plain}
use Rattle.buffer_redux.specs.Buffered.{Buffered}
use Rattle.buffer_redux.specs.Policy.{std_read_rules}
use Rattle.buffer_redux.specs.Unbuffer.{StreamWent, Unbuffered, unbuffered}
use Rattle.buffer_redux.specs.declared.policy.StdPolicy.{StdPolicy}
use Rattle.body_reader.specs.BodyReader.{BodyState, BodyWent, Drains, IsBodyReader, begun}
use Rattle.body_reader.specs.Coding.{Grammar, IsBody}
use Rattle.body_reader.specs.Either.{of_either}
use Rattle.body_reader.specs.Sized.{sized}
use Rattle.body_reader.specs.declared.error.BodyError.{BodyError as Unread}
use Rattle.body_reader.specs.declared.error.BodyError.TheVariants as unread
use Rattle.body_reader.specs.declared.either.Either.{Either}
use Rattle.body_reader.specs.declared.either.Either.TheVariants as coding
use Rattle.body_reader.specs.declared.either.Side.{Side}
use Rattle.body_reader.specs.declared.either.Side.TheVariants as side
use Rattle.body_reader.specs.declared.sized.Sized.{Sized as OfLength}
use Rattle.chunked.specs.Coding.{chunked}
use Rattle.chunked.specs.declared.coding.Chunked.{Chunked as InChunks}
use Rattle.chunked.specs.declared.error.Malformed.{Malformed}
use Rattle.chunked.specs.declared.place.Place.{Place}
use Rattle.codec.specs.declared.NextError.TheVariants as why
use Rattle.codec.specs.NextPiece.{NextAnswer, NextPiece}
use Rattle.codec.specs.PieceReader.{ReaderState, left_of}
use Rattle.messages.specs.declared.error.BodyError.{BodyError}
use Rattle.messages.specs.declared.error.BodyError.TheVariants.{Wrong, Truncated, Io as Fault}
use Rattle.messages.specs.declared.head.Extent.{Extent}
use Rattle.messages.specs.declared.head.Extent.TheVariants.{Sized, Chunked}
use Rattle.messages.specs.declared.bad_head.BadHead.{BadHead}
use Rattle.messages.specs.declared.head.Heads.{Heads}
use Rattle.messages.specs.declared.head.ParsedHead.{ParsedHead}
use Rattle.messages.specs.declared.limits.Limits.{Limits}
use Rattle.messages.specs.declared.requests.Stop.{Stop}
use Rattle.messages.specs.declared.requests.Stop.TheVariants.{Ended, Bad, Io}
use Rattle.messages.specs.Heads.{IsHead, IsHeadPiece, heads}
use Rattle.messages.specs.Limits.{chunks_of}

-- the coding of the body that a head says, under such limits
abbrev pub BodyCoding : Type 0
BodyCoding = Either OfLength InChunks

abbrev pub coding_of : Limits → Extent → BodyCoding
coding_of limits (Sized len) = coding.First (record { 0 = len })
coding_of limits Chunked = coding.Second (record { 0 = chunks_of limits })

-- and what that says
abbrev pub body_rules : BodyCoding → Grammar (Side ℕ Place) (Side (Unit {0}) Malformed)
body_rules = of_either (λ c. sized c.0) (λ c. chunked c.0)

-- a message: a head, and the body that it says, with this payload, each under the limits
pub record IsMessage (limits : Limits) (bytes head payload : List ℕ) : Type 0 where
  pub wire : List ℕ
  pub equal : bytes ≡ head ++ wire
  pub text : IsHeadPiece limits head head
  pub body : IsBody (body_rules (coding_of limits text.said.extent)) wire payload

-- how much a buffer takes: its capacity, and how far that may grow
pub record Room : Type 0 where
  pub capacity : ℕ
  pub limit : ℕ

abbrev pub room_of : Block → Room
room_of b = record { capacity = b.capacity; limit = b.limit }

-- a plain buffer in which three heads fit, and which grows no further: a reader of heads keeps it, and takes no memory
pub record IsRoomy (b : Block) : Type 0 where
  pub kind : b.kind ≡ Plain
  pub capacity : 3 * 16384 ≤ b.capacity
  pub limit : b.limit ≡ b.capacity

-- the reader of a body
abbrev pub Reader : Type 0 → Type 0
Reader S = BodyState S StdPolicy BodyCoding (Side ℕ Place)

-- a reader in a body: the reader of that, the limits, the head, and what that says
pub record InBody (S : Type 0) : Type 0 where
  pub body : Reader S
  pub limits : Limits
  pub head : List ℕ
  pub said : ParsedHead

-- before it no byte of the body was taken
abbrev pub entering : {S : Type 0} → Buffered S StdPolicy → Limits → List ℕ → ParsedHead → InBody S
entering reader limits head said = record {
  body = begun (body_rules (coding_of limits said.extent)) reader (coding_of limits said.extent);
  limits = limits;
  head = head;
  said = said;
}

-- it went into the body under these limits, and did nothing yet
pub record Enters {S : Type 0} (limits : Limits) (b : InBody S) : Type 0 where
  pub is : b ≡ entering b.body.reader limits b.head b.said
  pub whole : IsBodyReader (body_rules b.body.coding) b.body

-- the reader stands in front of a body, behind its head, which was the next piece; going in moved none
pub record Begun {S : Type 0} (remaining : S → Option (List ℕ)) (s : ReaderState S Heads) (b : InBody S) : Type 0 where
  pub behind : ReaderState S Heads
  pub next : NextPiece remaining (heads s.decoder.0) s (Ok (Some b.head)) behind
  pub stream : unbuffered b.body.reader ≡ left_of behind
  pub room : room_of b.body.reader.block ≡ room_of s.reader.block
  pub moved : b.body.reader.block.moved ≡ behind.reader.block.moved
  pub is : IsHead s.decoder.0 b.head b.said
  pub enters : Enters s.decoder.0 b

-- why there is no message is the answer of a reader of pieces
abbrev pub stop_answer : Stop → NextAnswer BadHead
stop_answer Ended = Ok None
stop_answer (Bad e) = Err (why.Wrong e)
stop_answer (Io e) = Err (why.Io e)

-- no read of the stream failed, or gave nothing though it was asked for something
abbrev pub EachReadGave : {S : Type 0} → Unbuffered S → Unbuffered S → Type 0
EachReadGave s t = (t.log.reads.faults ≡ s.log.reads.faults) × (t.log.reads.zero_reads ≡ s.log.reads.zero_reads)

-- why the reader of a body hands none out; and as it is told here, where that stands. In a body of a length no byte is wrong
abbrev pub WhyNone : Type 0
WhyNone = Unread (Side (Unit {0}) Malformed)

abbrev pub body_error : Side ℕ Place → WhyNone → BodyError
body_error place (unread.Wrong (side.First none) right) = Truncated None
body_error place (unread.Wrong (side.Second name) right) = Wrong name
body_error (side.First due) (unread.Truncated right) = Truncated (Some due)
body_error (side.Second place) (unread.Truncated right) = Truncated None
body_error place (unread.Io e) = Fault e

abbrev pub body_answer : {A : Type 0} → Side ℕ Place → Result A WhyNone → Result A BodyError
body_answer place (Ok a) = Ok a
body_answer place (Err e) = Err (body_error place e)

-- the reader of a body answered so that this is told here
abbrev pub TellsWhy : {A : Type 0} → Side ℕ Place → (Result A WhyNone → Type 0) → Result A BodyError → Type 0
TellsWhy place Does (Ok a) = Does (Ok a)
TellsWhy place Does (Err e) = (why : WhyNone) × (e ≡ body_error place why) × Does (Err why)

module _ {S : Type 0} (remaining : S → Option (List ℕ)) where
  -- what calls of a reader in a body do, one after another, that handed out this payload: what they took leads on in the body;
  -- the limits, the head and what that says stay, and how much the buffer takes, in which no byte was moved
  pub record InsideGoes (s : InBody S) (handed : List ℕ) (t : InBody S) : Type 0 where
    pub went : BodyWent remaining std_read_rules (body_rules s.body.coding) s.body handed t.body
    pub whole : IsBodyReader (body_rules t.body.coding) t.body
    pub room : room_of t.body.reader.block ≡ room_of s.body.reader.block
    pub moved : t.body.reader.block.moved ≡ s.body.reader.block.moved
    pub limits : t.limits ≡ s.limits
    pub head : t.head ≡ s.head
    pub said : t.said ≡ s.said

  -- the rest of the body was taken, and just what stands behind that is left
  pub record FinishesBody (s : InBody S) (next : ReaderState S Heads) : Type 0 where
    pub end : Reader S
    pub drains : Drains remaining std_read_rules (body_rules s.body.coding) s.body (Ok tt) end
    pub left : left_of next ≡ unbuffered end.reader

  -- or why it wasn't, and the reader stands in it still
  pub record FailsToFinish (s : InBody S) (e : BodyError) (t : InBody S) : Type 0 where
    pub why : WhyNone
    pub told : e ≡ body_error t.body.place why
    pub drains : Drains remaining std_read_rules (body_rules s.body.coding) s.body (Err why) t.body
    pub goes : InsideGoes s drains.payload t

-- a head, and a payload
abbrev pub Message : Type 0
Message = List ℕ × List ℕ

-- these bytes are one such text of each, one after another
abbrev pub InTurn : (Message → List ℕ → Type 0) → List Message → List ℕ → Type 0
InTurn Is [] bytes = bytes ≡ []
InTurn Is (m ∷ later) bytes =
    (first : List ℕ) × (more : List ℕ) × Is m first × InTurn Is later more × (bytes ≡ first ++ more)

abbrev pub AreMessages : Limits → List Message → List ℕ → Type 0
AreMessages limits messages bytes = InTurn (λ m first. IsMessage limits first m.0 m.1) messages bytes

-- these messages went, one after another: all of their bytes, and no other, were taken of what was left, so each begins where the
-- one before it ended
pub record MessagesWent {S : Type 0} (remaining : S → Option (List ℕ)) (limits : Limits) (s : Unbuffered S)
    (messages : List Message)
    (t : Unbuffered S) : Type 0 where
  pub bytes : List ℕ
  pub are : AreMessages limits messages bytes
  pub went : StreamWent remaining s bytes t
