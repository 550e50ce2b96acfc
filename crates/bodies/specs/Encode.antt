-- What a run of `encode` moves from a reader to a writer.
use Rattle.std.specs.Prelude.{◌≡◌, ℕ, ◌+◌, ◌<◌, ◌≤◌, ◌⊎◌, List, [], ◌++◌, length, min, Result, Ok, Err, MatchResult, false}
use Rattle.forward.specs.Flushes.{FlushesSend}
use Rattle.programs.specs.declared.error.RunError.TheVariants.{Wrong, Read, Write, Io}
use Rattle.bodies.specs.Words.{All, Error, ReadLog, Buffered, FaultsOften, FewFaults, failure_count, IsInterrupt, WritesInOrder, MetInterrupts, SendErrorCaused, StreamLog, StdPolicy, IsBodyOfChunks, IsChunks, body_end, Limits, RunsPromptly, WritesOn, AllSent, MetNoFault, ReadFailed, WriteGaveUp, OffersBuffer, OverCount, RefusedBeforeCalls, RunError, InputFault}
use Rattle.bodies.specs.Moved.{Moved, MovedAll}

-- what is due of these bytes: chunks with all of them
abbrev pub IsDue : List ℕ → List ℕ → Type 0
IsDue bytes due = IsChunks due bytes

-- what an answer says of ending a body, behind whose chunks these bytes were taken in: at Ok its end, which was sent and flushed
abbrev pub EndAnswers : {W : Type 0} → Buffered W StdPolicy → List ℕ → Result (Unit {0}) (RunError InputFault)
    → Buffered W StdPolicy → Type 0
EndAnswers u end answer v = MatchResult answer
    (λ _. (end ≡ body_end []) × AllSent v × MetInterrupts u.log.writes v.log.writes)
    (λ why. ((end ≡ body_end []) ⊎ (end ≡ []))
    × ((e : Error) × (why ≡ Write e) × SendErrorCaused u.log.writes v.log.writes e
    × (IsInterrupt e → FaultsOften u.log.writes v.log.writes ⊎ ((v.block.bytes ≡ []) × (end ≡ body_end [])))))

-- what ending a body does
pub record EndsBody {W : Type 0} (u : Buffered W StdPolicy) (answer : Result (Unit {0}) (RunError InputFault))
    (v : Buffered W StdPolicy) : Type 0 where
  pub end : List ℕ
  pub taken : WritesInOrder u end v
  pub answers : EndAnswers u end answer v
  pub room : v.block.capacity ≡ u.block.capacity
  pub writes : WritesOn u.log.writes v.log.writes
  pub few : FewFaults (failure_count answer) u.log.writes v.log.writes
  pub flushes : FlushesSend 0 u.log.writes v.log.writes
  pub once : v.log.writes.flushes ≤ u.log.writes.flushes + 1

-- these bytes are chunks with this payload, and then just `0`, its line's end and an empty line: a body, for each reader that
-- lets the line of a size have 16 bytes
pub record IsEncodedBody (body payload : List ℕ) : Type 0 where
  pub chunks : List ℕ
  pub carries : IsChunks chunks payload
  pub ended : body ≡ chunks ++ body_end []
  pub is_body : (limits : Limits) → 16 ≤ limits.line → IsBodyOfChunks limits body payload

-- no body begins these bytes, so who reads them knows that more was to come
abbrev pub IsCut : List ℕ → Type 0
IsCut bytes = (limits : Limits) (body payload more : List ℕ) → IsBodyOfChunks limits body payload → ¬ (bytes ≡ body ++ more)

-- there is a chunk for each read that gave bytes, but for the last where they are left: each other one gave none, or failed. And
-- no chunk has more than a read may give
pub record ChunkEachRead (payloads : List (List ℕ)) (left : List ℕ) (old new : ReadLog) : Type 0 where
  pub each : new.asks + old.zero_reads + length old.faults
      ≡ old.asks + new.zero_reads + length new.faults + length payloads + min 1 (length left)
  pub small : All (λ payload. length payload ≤ 8192) payloads

-- the payload that was taken became chunks, one for each read, which no last one follows
pub record IsUnended {read read' written written' : StreamLog} (m : Moved read read' written written') : Type 0 where
  pub chunks : IsChunks (m.sent ++ m.unsent) m.taken
  pub each : ChunkEachRead chunks.payloads m.rest read.reads read'.reads
  pub cut : IsCut m.sent

-- it became a body, with a chunk for each read; nothing else was given, and then nothing, once
pub record IsEnded {read read' written written' : StreamLog} (m : Moved read read' written written') : Type 0 where
  pub body : IsEncodedBody (m.sent ++ m.unsent) m.taken
  pub each : ChunkEachRead body.carries.payloads [] read.reads read'.reads
  pub cut : 0 < length m.unsent → IsCut m.sent
  pub all : m.rest ≡ []
  pub ended : read'.reads.zero_reads ≡ read.reads.zero_reads + 1

-- all that became of what was given was received: nothing of that is unsent, or left to become a chunk; and where the end was
-- told, the body has its own
abbrev pub NoChunkLeft : {read read' written written' : StreamLog} → Moved read read' written written' → Type 0
NoChunkLeft {read} {read'} m = (m.unsent ≡ []) × (m.rest ≡ [])
    × ((read'.reads.zero_reads ≡ read.reads.zero_reads) ⊎ IsEnded m)

-- what a run of `encode` did: at Ok a body was received. Where a read failed no byte that came is lost. Any other fault is a
-- writer's, or a buffer was refused before the run began, or it ended at its count, and then no body was begun that has an end
abbrev pub EncodeRan : StreamLog → StreamLog → StreamLog → StreamLog → Result (Unit {0}) (RunError InputFault) → Type 0
EncodeRan read read' written written' (Ok _) =
    (m : MovedAll read read' written written') × IsEnded m.moved × MetNoFault read read' written written'
EncodeRan read read' written written' (Err (Read e)) =
    (m : MovedAll read read' written written') × IsUnended m.moved × (m.moved.rest ≡ [])
    × ReadFailed e read read' written written'
EncodeRan read read' written written' (Err (Write e)) =
    (m : Moved read read' written written') × (IsUnended m ⊎ IsEnded m)
    × WriteGaveUp (NoChunkLeft m) e read read' written written'
EncodeRan read read' written written' (Err (Io e)) =
    (m : Moved read read' written written') × IsUnended m
    × (OverCount e (length m.taken) read read' written written' ⊎ RefusedBeforeCalls e read read' written written')
EncodeRan read read' written written' (Err (Wrong fault)) = ⊥

-- all that a run of `encode` promises: the last ask was for 8192 bytes, and the writer was flushed once for each at most, and
-- once more
pub record Encodes (read read' written written' : StreamLog) (answer : Result (Unit {0}) (RunError InputFault)) : Type 0 where
  pub ran : EncodeRan read read' written written' answer
  pub offers : OffersBuffer false 8192 read read'
  pub promptly : RunsPromptly IsDue (failure_count answer) read read' written written'
