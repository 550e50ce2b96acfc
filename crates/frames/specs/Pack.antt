-- What a run of `pack` moves from a reader to a writer.
use Rattle.std.specs.Prelude.{◌≡◌, ℕ, ◌+◌, ◌⊎◌, List, [], ◌++◌, length, Result, Ok, Err}
use Rattle.line_reader.specs.Lines.{BeginsTooLong}
use Rattle.frames.specs.Words.{failure_count, All, StreamLog, Begins, lined, Fits, frames, FitsLine, IsLine, HasLines, with_newlines, RunError, InputFault, RunsPromptly, MetNoFault, ReadFailed as AReadFailed, WriteGaveUp, OverCount, RefusedBeforeCalls, GaveNothing, ReceivedFlushed, room_for}
use Rattle.programs.specs.declared.error.RunError.TheVariants.{Wrong, Read, Write, Io}
use Rattle.frames.specs.declared.fault.InputFault.TheVariants.{TooLong, Truncated}

-- what is due of these bytes: the frames of all whole lines in them
pub record IsDue (most : ℕ) (bytes due : List ℕ) : Type 0 where
  pub lines : List (List ℕ)
  pub left : List ℕ
  pub equal : bytes ≡ with_newlines lines ++ left
  pub plain : All IsLine lines
  pub fit : All (Fits most) lines
  pub no_more : FitsLine most left
  pub frames_are : due ≡ frames lines

-- what was given is some lines that fit and then such bytes; what was received is the frames of those lines, and the writer has
-- flushed them
pub record PackedLines (Such : List ℕ → Type 0) (most : ℕ) (read read' written written' : StreamLog) : Type 0 where
  pub lines : List (List ℕ)
  pub more : List ℕ
  pub plain : All IsLine lines
  pub fit : All (Fits most) lines
  pub such : Such more
  pub given : read'.reads.given ≡ read.reads.given ++ (with_newlines lines ++ more)
  pub received : written'.writes.received ≡ written.writes.received ++ frames lines
  pub flushed : ReceivedFlushed written'

-- what was received is a beginning of the frames of lines that were given and fit. One without its end is among them only
-- where the reader had no more to give
pub record PackedFirst (most : ℕ) (read read' written written' : StreamLog) : Type 0 where
  pub text : List ℕ
  pub lines : List (List ℕ)
  pub more : List ℕ
  pub unsent : List ℕ
  pub has : HasLines text lines
  pub fit : All (Fits most) lines
  pub whole : (has.last ≡ []) ⊎ ((more ≡ []) × GaveNothing read read')
  pub given : read'.reads.given ≡ read.reads.given ++ (text ++ more)
  pub received : written'.writes.received ++ unsent ≡ written.writes.received ++ frames lines

-- the frames of all lines were received: none is unsent, and what wasn't taken begins with no whole line
abbrev pub NoLineLeft : {most : ℕ} {read read' written written' : StreamLog} → PackedFirst most read read' written written'
    → Type 0
NoLineLeft {most} first = (first.unsent ≡ []) × ¬ (Begins (lined most) first.more)

-- what a run of `pack` did: at Ok all that was given is a text of lines that fit, and all their frames were received and flushed.
-- Where a read failed no line that came is lost, and the last ask was for the whole buffer if no line was begun. Any other fault
-- is a writer's, or a buffer was refused before the run began, or it ended at its count
abbrev pub PackRan : ℕ → StreamLog → StreamLog → StreamLog → StreamLog → Result (Unit {0}) (RunError InputFault) → Type 0
PackRan most read read' written written' (Ok _) =
    (all : PackedFirst most read read' written written') × (all.more ≡ []) × (all.unsent ≡ []) × GaveNothing read read'
    × ReceivedFlushed written' × MetNoFault read read' written written'
PackRan most read read' written written' (Err (Wrong TooLong)) =
    PackedLines (BeginsTooLong most) most read read' written written' × MetNoFault read read' written written'
PackRan most read read' written written' (Err (Wrong Truncated)) = ⊥
PackRan most read read' written written' (Err (Read e)) =
    (all : PackedLines (FitsLine most) most read read' written written') × AReadFailed e read read' written written'
    × (all.more ≡ [] → read'.reads.offer ≡ room_for 8192 (1 + most))
PackRan most read read' written written' (Err (Write e)) =
    (first : PackedFirst most read read' written written') × WriteGaveUp (NoLineLeft first) e read read' written written'
PackRan most read read' written written' (Err (Io e)) =
    (first : PackedFirst most read read' written written')
    × (OverCount e (length first.lines) read read' written written' ⊎ RefusedBeforeCalls e read read' written written')

-- all that a run of `pack` promises: the writer was flushed once for each ask of the reader at most, and once more
pub record Packs (most : ℕ) (read read' written written' : StreamLog) (answer : Result (Unit {0}) (RunError InputFault))
    : Type 0 where
  pub ran : PackRan most read read' written written' answer
  pub promptly : RunsPromptly (IsDue most) (failure_count answer) read read' written written'
