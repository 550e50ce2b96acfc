-- The calls of a buffered reader as steps, and whole runs of them.
use Rattle.std.specs.Prelude.{◌≡◌, ℕ, ◌<◌, ◌≤◌, List, [], ◌++◌, length, take, min, Option, Ok, Err, Bool, MatchBool, ⊤, ◌+◌, ◌⊎◌, vec_len}
use Rattle.std.specs.List.{All}
use Rattle.redux_buffer.specs.Block.{LeavesBytes, MakesRoom, Reserves, usable}
use Rattle.redux_buffer.specs.GrowError.{GrowthRefused}
use Rattle.redux_buffer.specs.Transfer.{ReadsFrom}
use Rattle.redux_play.specs.declared.play.ReaderCall.{ReaderCall}
use Rattle.redux_play.specs.declared.play.ReaderCall.TheVariants.{Read, Fill, Consume, ReadIntoBuf, MakeRoom, Reserve}
use Rattle.redux_play.specs.declared.play.ReaderAnswer.{ReaderAnswer}
use Rattle.redux_play.specs.declared.play.ReaderRun.{ReaderRun}
use Rattle.redux_play.specs.declared.play.ReaderAnswer.TheVariants.{Count, Shown, Done, Fault, Refused}
use Rattle.buffer_redux.specs.Policy.{ReadRules}
use Rattle.buffer_redux.specs.Buffered.{Buffered, with_block}
use Rattle.buffer_redux.specs.Fill.{Filled}
use Rattle.buffer_redux.specs.BufReader.{Reads, ReadsAlong, ReadErrorCaused, EmptyReadCaused, EmptyFillCaused, ReaderConsumes}
use Rattle.redux_play.specs.PlayRoom.{FaultOf, Runs}
use Rattle.buffer_redux.specs.Sparing.{SparesClaimed}

-- a reader, and the bytes that were handed out so far
pub record Handing (S P : Type 0) : Type 0 where
  pub reader : Buffered S P
  pub handed : List ℕ

abbrev pub with_handed : {S P : Type 0} → Buffered S P → List ℕ → Handing S P
with_handed r handed = record { reader = r; handed = handed }

-- `Read(n)` with `Count(k)`: at most n bytes, and all n where bytes stay buffered
pub record ReadCounted {S P : Type 0} (rules : ReadRules P) (s : Buffered S P) (n k : ℕ) (out : List ℕ)
    (t : Buffered S P) : Type 0 where
  pub count : length out ≡ k
  pub most : k ≤ n
  pub whole : 0 < length t.block.bytes → k ≡ n
  pub caused : ReadErrorCaused rules s (Ok k) t
  pub empty : k ≡ 0 → 0 < n → EmptyReadCaused rules s t
  pub steps : (before : List ℕ) × (after : List ℕ) × (length before ≡ n) × Reads rules s before (Ok k) after t

-- `Fill` with `Shown(k)`: all that is buffered was shown
pub record FillShown {S P : Type 0} (rules : ReadRules P) (s : Buffered S P) (k : ℕ) (out : List ℕ)
    (t : Buffered S P) : Type 0 where
  pub none : out ≡ []
  pub count : k ≡ length t.block.bytes
  pub caused : ReadErrorCaused rules s (Ok k) t
  pub empty : k ≡ 0 → EmptyFillCaused rules s t
  pub fills : Filled rules s (Ok k) t

-- what this answer to this call says of the reader before and after, and of the bytes handed out; other pairs are no
-- steps. A fault handed nothing out. A read into the buffer asked the policy nothing, and left the bytes where it failed
abbrev pub ReaderAnswers : {S P : Type 0} → ReadRules P → Buffered S P → ReaderCall → ReaderAnswer → List ℕ
    → Buffered S P → Type 0
ReaderAnswers rules s (Read n) (Count k) out t = ReadCounted rules s n k out t
ReaderAnswers rules s (Read n) (Fault kind) out t = (out ≡ [])
    × FaultOf kind (λ e. ReadErrorCaused {A = ℕ} rules s (Err e) t
    × ((before : List ℕ) × (after : List ℕ) × (length before ≡ n) × Reads rules s before (Err e) after t))
ReaderAnswers rules s Fill (Shown k) out t = FillShown rules s k out t
ReaderAnswers rules s Fill (Fault kind) out t = (out ≡ [])
    × FaultOf kind (λ e. ReadErrorCaused {A = ℕ} rules s (Err e) t × Filled {A = ℕ} rules s (Err e) t)
ReaderAnswers rules s (Consume n) (Count k) out t =
    (k ≡ min n (length s.block.bytes)) × (out ≡ take k s.block.bytes) × ReaderConsumes rules n s t
ReaderAnswers rules s ReadIntoBuf (Count k) out t =
    (out ≡ []) × (t.policy ≡ s.policy) × ReadsFrom s.block s.log (Ok k) t.block t.log
ReaderAnswers rules s ReadIntoBuf (Fault kind) out t = (out ≡ []) × (t.policy ≡ s.policy)
    × FaultOf kind (λ e. ReadsFrom s.block s.log (Err e) t.block t.log × LeavesBytes s.block t.block)
ReaderAnswers rules s MakeRoom Done out t = (out ≡ []) × MakesRoom s.block t.block × (t ≡ with_block s t.block)
ReaderAnswers rules s (Reserve a) Done out t = (out ≡ []) × Reserves a s.block t.block × (a ≤ usable t.block)
    × (t ≡ with_block s t.block)
ReaderAnswers rules s (Reserve a) (Refused e) out t = (out ≡ []) × GrowthRefused a s.block e × (t ≡ s)
ReaderAnswers rules s call answer out t = ⊥

-- bytes were handed out, as a trace of a reader's calls does. The kind stayed, and the reader noted no call of its own
pub record HandsOut {S P : Type 0} (remaining : S → Option (List ℕ)) (rules : ReadRules P) (s : Handing S P) (out : List ℕ)
    (t : Handing S P) : Type 0 where
  pub handed : t.handed ≡ s.handed ++ out
  pub along : ReadsAlong remaining rules s.reader out t.reader
  pub kind : t.reader.block.kind ≡ s.reader.block.kind
  pub noted : t.reader.own_calls ≡ s.reader.own_calls

-- a call that doesn't make room by itself
abbrev pub MakesNoRoom : ReaderCall → Type 0
MakesNoRoom MakeRoom = ⊥
MakesNoRoom call = ⊤

-- one call with its answer. It spares what the policy claims to, unless it makes room
pub record ReaderStep {S P : Type 0} (remaining : S → Option (List ℕ)) (rules : ReadRules P) (s : Handing S P)
    (call : ReaderCall) (answer : ReaderAnswer) (t : Handing S P) : Type 0 where
  pub out : List ℕ
  pub hands_out : HandsOut remaining rules s out t
  pub answers : ReaderAnswers rules s.reader call answer out t.reader
  pub sparing : MakesNoRoom call → SparesClaimed rules s.reader t.reader

-- what was played: the answers that were gained are a run of the first calls, as many as there are answers; at Ok these
-- are all calls, and else some are left, of which none was begun
pub record ReaderPlays {S P : Type 0} (remaining : S → Option (List ℕ)) (rules : ReadRules P) (s : Handing S P)
    (calls : List ReaderCall) (old : List ReaderAnswer) (ok : Bool) (new : List ReaderAnswer) (t : Handing S P) : Type 0 where
  pub answers : List ReaderAnswer
  pub gained : new ≡ old ++ answers
  pub run : Runs (ReaderStep remaining rules) s (take (length answers) calls) answers t
  pub ended : MatchBool ok (length answers ≡ length calls) (length answers < length calls)
  pub out : List ℕ
  pub hands_out : HandsOut remaining rules s out t
  pub sparing : All MakesNoRoom calls → SparesClaimed rules s.reader t.reader

-- how long a slice a call reads into, and how many bytes it may hand out
abbrev pub room_to_read : ReaderCall → ℕ
room_to_read (Read n) = n
room_to_read call = 0

abbrev pub most_handed : {S P : Type 0} → Buffered S P → ReaderCall → ℕ
most_handed r (Read n) = n
most_handed r (Consume n) = min n (length r.block.bytes)
most_handed r call = 0

-- why a call wasn't begun: the record, which had room for so many answers and bytes at first, is full, or lacks room for what the
-- call may hand out; or the call reads into a slice, which takes memory of its own
abbrev pub WantsRoom : {S P : Type 0} → Buffered S P → ReaderCall → ℕ → ℕ → ReaderRun → Type 0
WantsRoom r call answers bytes run = (answers ≤ vec_len run.answers)
    ⊎ ((bytes < vec_len run.handed + most_handed r call) ⊎ (0 < room_to_read call))
