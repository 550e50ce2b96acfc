-- What a run of `unpack` moves from a reader to a writer.
use Rattle.std.specs.Prelude.{◌≡◌, ℕ, ◌+◌, List, [], ◌++◌, length, ◌⊎◌, Result, Ok, Err}
use Rattle.frame_reader.specs.Frames.{BeginsAbove}
use Rattle.frames.specs.Words.{failure_count, All, StreamLog, Begins, IsOpen, SplitsIntoFrames, framed, Fits, IsCutShort, frames, RunError, InputFault, with_newlines, RunsPromptly, MetNoFault, ReadFailed as AReadFailed, WriteGaveUp, OverCount, RefusedBeforeCalls, GaveNothing, ReceivedFlushed, room_for}
use Rattle.programs.specs.declared.error.RunError.TheVariants.{Wrong, Read, Write, Io}
use Rattle.frames.specs.declared.fault.InputFault.TheVariants.{TooLong, Truncated}

-- what is due of these bytes: the payloads of all whole frames in them, as lines
pub record IsDue (most : ℕ) (bytes due : List ℕ) : Type 0 where
  pub payloads : List (List ℕ)
  pub left : List ℕ
  pub splits : SplitsIntoFrames most bytes payloads left
  pub lines : due ≡ with_newlines payloads

-- what was given is the frames of payloads, and then these bytes; what was received is the payloads as lines, which the
-- writer has flushed
pub record Unpacked (most : ℕ) (read read' written written' : StreamLog) (more : List ℕ) : Type 0 where
  pub payloads : List (List ℕ)
  pub fit : All (Fits most) payloads
  pub given : read'.reads.given ≡ read.reads.given ++ (frames payloads ++ more)
  pub received : written'.writes.received ≡ written.writes.received ++ with_newlines payloads
  pub flushed : ReceivedFlushed written'

-- what was received is a beginning of the lines of payloads whose frames were given
pub record UnpackedFirst (most : ℕ) (read read' written written' : StreamLog) : Type 0 where
  pub lines : List (List ℕ)
  pub more : List ℕ
  pub unsent : List ℕ
  pub fit : All (Fits most) lines
  pub given : read'.reads.given ≡ read.reads.given ++ (frames lines ++ more)
  pub received : written'.writes.received ++ unsent ≡ written.writes.received ++ with_newlines lines

-- the lines of all payloads were received: none is unsent, and what follows begins with no whole frame
abbrev pub NoFrameLeft : {most : ℕ} {read read' written written' : StreamLog} → UnpackedFirst most read read' written written'
    → Type 0
NoFrameLeft {most} first = (first.unsent ≡ []) × ¬ (Begins (framed most) first.more)

-- what a run of `unpack` did: at Ok all that was given is frames, and else some bytes behind them aren't. Where a read failed
-- no payload that came is lost. In both the last ask was for the whole buffer if no frame was begun. Any other fault is a
-- writer's, or a buffer was refused before the run began, or it ended at its count
abbrev pub UnpackRan : ℕ → StreamLog → StreamLog → StreamLog → StreamLog → Result (Unit {0}) (RunError InputFault) → Type 0
UnpackRan most read read' written written' (Ok _) =
    Unpacked most read read' written written' [] × GaveNothing read read' × MetNoFault read read' written written'
    × (read'.reads.offer ≡ room_for 8192 (2 + most))
UnpackRan most read read' written written' (Err (Wrong TooLong)) =
    (more : List ℕ) × Unpacked most read read' written written' more × BeginsAbove most more
    × MetNoFault read read' written written'
UnpackRan most read read' written written' (Err (Wrong Truncated)) =
    (more : List ℕ) × Unpacked most read read' written written' more × IsCutShort most more × GaveNothing read read'
    × MetNoFault read read' written written'
UnpackRan most read read' written written' (Err (Read e)) =
    (more : List ℕ) × Unpacked most read read' written written' more × IsOpen (framed most) more
    × AReadFailed e read read' written written' × (more ≡ [] → read'.reads.offer ≡ room_for 8192 (2 + most))
UnpackRan most read read' written written' (Err (Write e)) =
    (first : UnpackedFirst most read read' written written') × WriteGaveUp (NoFrameLeft first) e read read' written written'
UnpackRan most read read' written written' (Err (Io e)) =
    (first : UnpackedFirst most read read' written written')
    × (OverCount e (length first.lines) read read' written written' ⊎ RefusedBeforeCalls e read read' written written')

-- all that a run of `unpack` promises: the writer was flushed once for each ask of the reader at most, and once more
pub record Unpacks (most : ℕ) (read read' written written' : StreamLog) (answer : Result (Unit {0}) (RunError InputFault))
    : Type 0 where
  pub ran : UnpackRan most read read' written written' answer
  pub promptly : RunsPromptly (IsDue most) (failure_count answer) read read' written written'
