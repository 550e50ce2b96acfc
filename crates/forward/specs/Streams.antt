-- How the two streams of a run fared.
use Rattle.std.specs.Prelude.{ℕ, ◌+◌, ◌*◌, ◌≤◌, ◌⊎◌, List, length}
use Rattle.std.specs.declared.io.Error.{Error}
pub use Rattle.redux_buffer.specs.Faults.{FaultsOften, FewFaults}
use Rattle.redux_buffer.specs.Faults.{IsInterrupt, interrupt_limit, OnlyInterrupts, FaultAfterInterrupts, MetInterrupts, SendErrorCaused}
use Rattle.redux_buffer.specs.StreamLog.{StreamLog, ReadLog}

-- reads and writes were at most interrupted
pub record MetNoFault (read read' written written' : StreamLog) : Type 0 where
  pub reader : OnlyInterrupts read.reads.faults read'.reads.faults
  pub writer : MetInterrupts written.writes written'.writes

-- after reads that were interrupted, one failed with this error: an interrupted one after as many of them as the limit at least
pub record ReadGaveUp (e : Error) (old new : List Error) : Type 0 where
  pub fault : FaultAfterInterrupts old new e
  pub often : IsInterrupt e → length old + interrupt_limit + 1 ≤ length new

-- a read failed with this error, and writes were at most interrupted
pub record ReadFailed (e : Error) (read read' written written' : StreamLog) : Type 0 where
  pub reader : ReadGaveUp e read.reads.faults read'.reads.faults
  pub writer : MetInterrupts written.writes written'.writes

-- sending to the writer failed with this error, and reads were at most interrupted
pub record WriterFailed (e : Error) (read read' written written' : StreamLog) : Type 0 where
  pub reader : OnlyInterrupts read.reads.faults read'.reads.faults
  pub writer : SendErrorCaused written.writes written'.writes e

-- and it failed by `Interrupted` only where faults came that often, or in the writer's own flush, where nothing was left to send
pub record WriteGaveUp (NoneLeft : Type 0) (e : Error) (read read' written written' : StreamLog) : Type 0 where
  pub failed : WriterFailed e read read' written written'
  pub often : IsInterrupt e → FaultsOften written.writes written'.writes ⊎ NoneLeft

-- the reader gave nothing once at most: behind its end it isn't asked again
abbrev pub EndsOnce : ReadLog → ReadLog → Type 0
EndsOnce old new = new.zero_reads ≤ old.zero_reads + 1

-- how many bytes the reader gave, and how often the end
abbrev pub came : ReadLog → ℕ
came l = length l.given + l.zero_reads

-- for each byte that came, and each end, reads failed as often as the limit at most, and so many times more
abbrev pub FewReadFaults : ℕ → ReadLog → ReadLog → Type 0
FewReadFaults more old new =
    length new.faults + interrupt_limit * came old ≤ length old.faults + interrupt_limit * came new + more
