-- Runs that hold nothing back: where the reader is asked, all that is due of what it gave before was received and flushed.
use Rattle.std.specs.Prelude.{◌≡◌, ℕ, ◌+◌, ◌≤◌, ◌⊎◌, List, ◌++◌, length}
use Rattle.redux_buffer.specs.Faults.{interrupt_limit}
use Rattle.redux_buffer.specs.GoesOn.{GoesOn}
use Rattle.redux_buffer.specs.StreamLog.{StreamLog, WriteLog}
use Rattle.forward.specs.Flushes.{FlushesAsk, FlushesSend}
use Rattle.forward.specs.Streams.{EndsOnce, FewFaults, FewReadFaults}

-- these bytes were given before the last ask, and then what that gave: each other ask gave a byte, or failed
pub record AskedLast (before : List ℕ) (read read' : StreamLog) : Type 0 where
  pub given : read'.reads.given ≡ read.reads.given ++ (before ++ read'.reads.latest)
  pub asks : read'.reads.asks + length read.reads.faults
      ≤ read.reads.asks + length before + length read'.reads.faults + 1

-- what was received, and what was flushed, begins with these bytes
pub record WasDelivered (bytes : List ℕ) (written : WriteLog) : Type 0 where
  pub received : GoesOn bytes written.received
  pub flushed : GoesOn bytes written.flushed

-- what is due of the bytes that were given before the last ask was received and flushed
pub record SentBeforeAsking (IsDue : List ℕ → List ℕ → Type 0) (read read' written written' : StreamLog) : Type 0 where
  pub before : List ℕ
  pub asked : AskedLast before read read'
  pub due : List ℕ
  pub is_due : IsDue before due
  pub sent : WasDelivered (written.writes.received ++ due) written'.writes

-- the reader was not asked, or what is due of what came before the last ask was sent and flushed
abbrev pub HoldsNothingBack : (List ℕ → List ℕ → Type 0) → StreamLog → StreamLog → StreamLog → StreamLog → Type 0
HoldsNothingBack IsDue read read' written written' =
    (read' ≡ read) ⊎ SentBeforeAsking IsDue read read' written written'

-- how a run goes on that failed so often: nothing is held back; the reader tells its end once; interrupted reads and writes are
-- made again only so often; and the writer is flushed only where that sends something, and something is asked for, but for once
pub record RunsPromptly (IsDue : List ℕ → List ℕ → Type 0) (failed : ℕ) (read read' written written' : StreamLog)
    : Type 0 where
  pub prompt : HoldsNothingBack IsDue read read' written written'
  pub once : EndsOnce read.reads read'.reads
  pub reads : FewReadFaults (interrupt_limit + 1) read.reads read'.reads
  pub few : FewFaults failed written.writes written'.writes
  pub flushes : FlushesSend 1 written.writes written'.writes
  pub per_ask : FlushesAsk 1 read read' written written'

-- there were no more asks than bytes given and faults
abbrev pub AsksGiveOrFail : StreamLog → StreamLog → Type 0
AsksGiveOrFail read read' =
    read'.reads.asks + length read.reads.given + length read.reads.faults
    ≤ read.reads.asks + length read'.reads.given + length read'.reads.faults

-- a writer was called: what it received goes on, and all that it had received was flushed, or nothing was
pub record WritesOn (old new : WriteLog) : Type 0 where
  pub received : GoesOn old.received new.received
  pub flushed : (new.flushed ≡ old.flushed) ⊎ GoesOn old.received new.flushed
