-- What a run of `decode` moves from a reader to a writer.
use Rattle.std.specs.Prelude.{◌≡◌, ℕ, ◌-◌, ◌^◌, ◌<◌, ◌≤◌, ◌⊎◌, List, [], ◌++◌, length, min, Result, Ok, Err}
use Rattle.chunked.specs.Place.{IsPlace}
use Rattle.chunked.specs.declared.place.Place.TheVariants.{Line}
use Rattle.bodies.specs.Words.{failure_count, StreamLog, IsBodyOfChunks, BreaksAt, chunked, Limits, RunError, InputFault, RunsPromptly, MetNoFault, ReadFailed, WriteGaveUp, OverCount, RefusedBeforeCalls, GaveNothing, Leads, Malformed, Place}
use Rattle.bodies.specs.Moved.{Moved, MovedAll}
use Rattle.programs.specs.declared.error.RunError.TheVariants.{Wrong, Read, Write, Io}
use Rattle.bodies.specs.declared.fault.InputFault.TheVariants.{NotChunked, Truncated, Behind}

-- these bytes lead from before a body to this place in it, and this is the payload in them
pub record IsBodyPart (limits : Limits) (wire payload : List ℕ) (place : Place) : Type 0 where
  pub leads : Leads (chunked limits) Line wire payload place []
  pub is_place : IsPlace place

-- what is due of these bytes: the payload in them
pub record IsDue (limits : Limits) (bytes due : List ℕ) : Type 0 where
  pub place : Place
  pub part : IsBodyPart limits bytes due place

-- how many bytes these are, as far as a `u64` counts
abbrev pub counted_bytes : List ℕ → ℕ
counted_bytes bytes = min (length bytes) (2 ^ 64 - 1)

-- all payload that was given was received: none is unsent, and none follows in the rest, since the body ended, or nothing is
-- left, or the next byte is wrong
abbrev pub NoPayloadLeft : {limits : Limits} {read read' written written' : StreamLog} → (m : Moved read read' written written')
    → IsDue limits m.taken (m.sent ++ m.unsent) → Type 0
NoPayloadLeft {limits} m due = (m.unsent ≡ []) × (IsBodyOfChunks limits m.taken (m.sent ++ m.unsent)
    ⊎ ((m.rest ≡ []) ⊎ ((why : Malformed) × BreaksAt limits due.place m.taken m.rest why)))

-- what a run of `decode` did: at Ok all that was given is a body, and the last ask was for 16384 bytes or more; else it is a
-- beginning of one. Where a read failed no payload that came is lost
abbrev pub DecodeRan : Limits → StreamLog → StreamLog → StreamLog → StreamLog → Result (Unit {0}) (RunError InputFault) → Type 0
DecodeRan limits read read' written written' (Ok _) =
    (m : MovedAll read read' written written') × IsBodyOfChunks limits m.moved.taken m.moved.sent × (m.moved.rest ≡ [])
    × GaveNothing read read' × MetNoFault read read' written written' × (16384 ≤ read'.reads.offer)
DecodeRan limits read read' written written' (Err (Wrong (NotChunked why right))) =
    (m : MovedAll read read' written written') × (part : IsDue limits m.moved.taken m.moved.sent)
    × BreaksAt limits part.place m.moved.taken m.moved.rest why
    × (right ≡ counted_bytes m.moved.taken) × MetNoFault read read' written written'
DecodeRan limits read read' written written' (Err (Wrong (Truncated right))) =
    (m : MovedAll read read' written written') × IsDue limits m.moved.taken m.moved.sent
    × ((whole : List ℕ) → ¬ IsBodyOfChunks limits m.moved.taken whole) × (m.moved.rest ≡ [])
    × GaveNothing read read' × (right ≡ counted_bytes m.moved.taken) × MetNoFault read read' written written'
DecodeRan limits read read' written written' (Err (Wrong (Behind right))) =
    (m : MovedAll read read' written written') × IsBodyOfChunks limits m.moved.taken m.moved.sent
    × (0 < length m.moved.rest) × (right ≡ counted_bytes m.moved.taken) × MetNoFault read read' written written'
DecodeRan limits read read' written written' (Err (Read e)) =
    (m : MovedAll read read' written written') × IsDue limits m.moved.taken m.moved.sent × (m.moved.rest ≡ [])
    × ReadFailed e read read' written written'
DecodeRan limits read read' written written' (Err (Write e)) =
    (m : Moved read read' written written') × (due : IsDue limits m.taken (m.sent ++ m.unsent))
    × WriteGaveUp (NoPayloadLeft m due) e read read' written written'
DecodeRan limits read read' written written' (Err (Io e)) =
    (m : Moved read read' written written') × IsDue limits m.taken (m.sent ++ m.unsent)
    × (OverCount e (length (m.sent ++ m.unsent)) read read' written written' ⊎ RefusedBeforeCalls e read read' written written')

-- all that a run of `decode` promises: the writer was flushed once for each ask of the reader at most, and once more
pub record DecodesBody (limits : Limits) (read read' written written' : StreamLog)
    (answer : Result (Unit {0}) (RunError InputFault)) : Type 0 where
  pub ran : DecodeRan limits read read' written written' answer
  pub promptly : RunsPromptly (IsDue limits) (failure_count answer) read read' written written'
