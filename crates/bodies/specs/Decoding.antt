-- A filter that hands out the payload of a body.
use Rattle.std.specs.Prelude.{◌≡◌, ℕ, ◌-◌, ◌^◌, ◌<◌, ◌≤◌, ◌⊎◌, if◌then◌else◌, nat_lt, List, [], ◌++◌, length, take, Bool, true, false, Result, Ok, Err, Option, vec_capacity}
use Rattle.body_reader.specs.declared.error.BodyError.TheVariants as body
use Rattle.chunked.specs.Place.{most_between}
use Rattle.forward.specs.declared.error.AskError.TheVariants.{Wrong}
use Rattle.forward.specs.declared.error.AskError.TheVariants as ask
use Rattle.bodies.specs.Words.{Error, Flushes, IsBlock, RanDry, WritesInOrder, Buffered, std_read_rules, StdPolicy, BodyState, BodyWent, BreaksAt, IsBodyOfChunks, IsBodyReader, TookWholeBody, LooksBehind, chunked, handed_of, taken_count, FilterRules, AllSent, target_of, InputFault, concat, All, Plain, BodyError, Chunked, Malformed, Place, AskError, Decoding}
use Rattle.bodies.specs.Decode.{IsDue}
use Rattle.bodies.specs.Filters.{Asked}
use Rattle.bodies.specs.declared.fault.InputFault.TheVariants.{NotChunked, Truncated, Behind}

-- a buffered writer whose buffer is larger than a piece of payload
pub record IsPieceTarget {W : Type 0} (u : Buffered W StdPolicy) : Type 0 where
  pub plain : u.block.kind ≡ Plain
  pub capacity : 16384 < u.block.capacity

-- a reader of a chunked body
abbrev pub ChunkedState : Type 0 → Type 0
ChunkedState R = BodyState R StdPolicy Chunked Place

-- the reader inside was asked only where the payload in all that had come was handed out before
abbrev pub AsksPromptly : {R : Type 0} → ChunkedState R → ChunkedState R → Type 0
AsksPromptly s t = Asked (λ bytes. IsDue s.coding.0 (s.taken ++ bytes) (handed_of s)) s.reader t.reader

-- the payload that was read and not passed on
abbrev pub held_payload : {R W : Type 0} → Decoding R W → List ℕ
held_payload s = take s.held s.piece.items

-- what each call of the filter wants
pub record MayDecode {R W : Type 0} (s : Decoding R W) : Type 0 where
  pub capacity : 16384 ≤ s.source.reader.block.capacity
  pub whole : IsBodyReader (chunked s.source.coding.0) s.source
  pub target : IsPieceTarget s.target
  pub room : length s.piece.items ≡ 16384
  pub held : s.held ≤ 16384

-- these pieces are what was held, then what was handed out, but for what is held still; and none is empty. What holds them takes
-- no more room
pub record HandsPayloadPieces {R W : Type 0} (remaining : R → Option (List ℕ)) (s : Decoding R W) (pieces : List (List ℕ))
    (t : Decoding R W) : Type 0 where
  pub payload : List ℕ
  pub went : BodyWent remaining std_read_rules (chunked s.source.coding.0) s.source payload t.source
  pub order : held_payload s ++ payload ≡ concat pieces ++ held_payload t
  pub some : All (λ piece. 0 < length piece) pieces
  pub room : vec_capacity t.piece ≡ vec_capacity s.piece

-- just these pieces were taken in, by a buffer that kept its size
pub record TakesPayload {W : Type 0} (u : Buffered W StdPolicy) (pieces : List (List ℕ)) (v : Buffered W StdPolicy) : Type 0
  where
    pub in_order : WritesInOrder u (concat pieces) v
    pub room : v.block.capacity ≡ u.block.capacity

-- no payload can be handed out of what is buffered: the body ended, or there is none, or the next byte is wrong
abbrev pub NoneBuffered : {R : Type 0} → ChunkedState R → Type 0
NoneBuffered d = TookWholeBody (chunked d.coding.0) d
    ⊎ ((d.reader.block.bytes ≡ []) ⊎ ((why : Malformed) × BreaksAt d.coding.0 d.place d.taken d.reader.block.bytes why))

-- where none was held, a piece of what is buffered is: of 8191 bytes, or of all that can be handed out of it; and the reader
-- inside wasn't asked
pub record HoldsPiece {R W : Type 0} (remaining : R → Option (List ℕ)) (s t : Decoding R W) : Type 0 where
  pub hands : HandsPayloadPieces remaining s [] t
  pub told : t.source.reader.log ≡ s.source.reader.log
  pub still : t.target ≡ s.target
  pub kept : 0 < s.held → 0 < t.held
  pub all : (0 < s.held) ⊎ ((t.held ≡ 8191) ⊎ NoneBuffered t.source)
  pub ready : MayDecode t

-- what an ask answers where no payload came; and where the body ended, by whether the stream did
abbrev pub ask_error : Bool → BodyError Malformed → AskError InputFault
ask_error came (body.Wrong why right) = Wrong (NotChunked why right)
ask_error came (body.Truncated right) = Wrong (Truncated right)
ask_error came (body.Io e) = if came then ask.IoBehind e else ask.Io e

abbrev pub end_answer : Bool → Result Bool Error → ℕ → Result Bool (AskError InputFault)
end_answer came (Ok true) taken = Ok false
end_answer came (Ok false) taken = Err (Wrong (Behind taken))
end_answer came (Err e) taken = Err (if came then ask.IoBehind e else ask.Io e)

pub record LooksOn {R : Type 0} (remaining : R → Option (List ℕ)) (s : ChunkedState R) (came : Bool)
    (answer : Result Bool (AskError InputFault)) (t : ChunkedState R) : Type 0 where
  pub whole : IsBlock t.reader.block
  pub end : Result Bool Error
  pub looks : LooksBehind remaining std_read_rules (chunked s.coding.0) s end t
  pub equal : answer ≡ end_answer came end (taken_count t)

-- how many bytes may come at the most before payload, or the body's end, while they are counted
abbrev pub most_wanted : {R : Type 0} → ChunkedState R → ℕ
most_wanted d = if nat_lt (length d.taken) (2 ^ 64 - 1) then most_between d.coding.0 d.place else 0

-- the body ended, and the stream behind it, which gave nothing for a whole buffer; or what comes next is wrong, or missing, or
-- more than the body
abbrev pub PayloadEnds : {R : Type 0} → ChunkedState R → Result (Unit {0}) InputFault → ChunkedState R → Type 0
PayloadEnds s (Ok _) t = TookWholeBody (chunked t.coding.0) t × (t.reader.block.bytes ≡ []) × RanDry s.reader t.reader
    × (16384 ≤ t.reader.log.reads.offer)
PayloadEnds s (Err (NotChunked why right)) t =
    BreaksAt t.coding.0 t.place t.taken t.reader.block.bytes why × (right ≡ taken_count t)
PayloadEnds s (Err (Truncated right)) t =
    ((payload : List ℕ) → ¬ IsBodyOfChunks t.coding.0 t.taken payload) × (t.reader.block.bytes ≡ []) × RanDry s.reader t.reader
    × (right ≡ taken_count t)
PayloadEnds s (Err (Behind right)) t =
    TookWholeBody (chunked t.coding.0) t × (0 < length t.reader.block.bytes) × (right ≡ taken_count t)

abbrev pub decoding_rules : {R W : Type 0} → (R → Option (List ℕ)) → FilterRules (Decoding R W) InputFault
decoding_rules remaining = record {
  read = λ s. s.source.reader.log;
  target = λ s. target_of s.target;
  ready = λ s. MayDecode s;
  hands = HandsPayloadPieces remaining;
  takes = λ s pieces t. TakesPayload s.target pieces t.target;
  has = λ s. 0 < s.held;
  lacks = λ s. (s.held ≡ 0) × NoneBuffered s.source;
  waits = λ s. (s.held ≡ 0) × (s.source.reader.block.bytes ≡ []);
  sent = λ s. AllSent s.target;
  spare = 0;
  rounds = λ s. 0;
  flushes = λ s answer t. Flushes s.target answer t.target;
  asks = λ s t. AsksPromptly s.source t.source;
  looks = λ s t. Unit {0};
  wants = λ s. most_wanted s.source;
  ends = λ s how t. (t.held ≡ 0) × PayloadEnds s.source how t.source;
  closed = λ s. ⊥;
  fresh = λ s. record {
    buffered : s.source.reader.block.bytes ≡ [];
    target : s.target.block.bytes ≡ [];
    held : s.held ≡ 0;
  };
  due = λ s bytes due. IsDue s.source.coding.0 (s.source.taken ++ bytes) (handed_of s.source ++ due);
  drops = ⊥;
  refused = λ e t. ⊥;
  loses = 0;
}
