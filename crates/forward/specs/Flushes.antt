-- How often a writer is flushed: only where that sends something, or something is asked for.
use Rattle.std.specs.Prelude.{ℕ, ◌+◌, ◌≤◌, length}
use Rattle.redux_buffer.specs.StreamLog.{StreamLog, WriteLog}

-- but for so many, there were no more flushes than bytes that the writer received
abbrev pub FlushesSend : ℕ → WriteLog → WriteLog → Type 0
FlushesSend idle old new = new.flushes + length old.received ≤ old.flushes + length new.received + idle

-- but for so many, there were no more than asks of the reader
abbrev pub FlushesAsk : ℕ → StreamLog → StreamLog → StreamLog → StreamLog → Type 0
FlushesAsk idle read read' written written' =
    written'.writes.flushes + read.reads.asks ≤ written.writes.flushes + read'.reads.asks + idle
