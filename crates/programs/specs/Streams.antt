-- How the two streams of a run fared.
use Rattle.std.specs.Prelude.{◌≡◌, ℕ, ◌+◌, ◌^◌, ◌<◌, ◌≤◌, ◌⊎◌, Bool, [], if◌then◌else◌}
use Rattle.std.specs.IoError.{error_kind}
use Rattle.std.specs.declared.io.Error.{Error}
use Rattle.std.specs.declared.io.ErrorKind.TheVariants.{Other, OutOfMemory}
use Rattle.buffer_redux.specs.Block.{Block, Kind, Plain, Ring, round}
use Rattle.buffer_redux.specs.Buffered.{Buffered}
use Rattle.buffer_redux.specs.StreamLog.{StreamLog}
pub use Rattle.forward.specs.Streams.{MetNoFault, ReadFailed, WriterFailed, EndsOnce}

-- as many pieces went over as the run counts
pub record OverCount (e : Error) (count : ℕ) (read read' written written' : StreamLog) : Type 0 where
  pub other : error_kind e ≡ Other
  pub large : 2 ^ 64 ≤ count + 1
  pub met : MetNoFault read read' written written'

-- the kind and the capacity of a buffer of a run that asks for a ring, or for none, and for so many bytes: the capacity of a
-- ring is the next multiple of 4096
abbrev pub kind_asked : Bool → Kind
kind_asked ring = if ring then Ring else Plain

abbrev pub capacity_asked : Bool → ℕ → ℕ
capacity_asked ring cap = if ring then round cap else cap

-- the reader's last ask, where there was one, was for all of a buffer of this kind and capacity
abbrev pub OffersBuffer : Bool → ℕ → StreamLog → StreamLog → Type 0
OffersBuffer ring cap read read' = (read'.reads ≡ read.reads) ⊎ (read'.reads.offer ≡ capacity_asked ring cap)

-- an empty buffer, of this capacity at least
pub record IsEmptyBuffer (cap : ℕ) (b : Block) : Type 0 where
  pub bytes : b.bytes ≡ []
  pub capacity : cap ≤ b.capacity

-- a buffer was refused before either stream was called
pub record RefusedBeforeCalls (e : Error) (read read' written written' : StreamLog) : Type 0 where
  pub memory : error_kind e ≡ OutOfMemory
  pub read_same : read' ≡ read
  pub written_same : written' ≡ written

-- the reader gave nothing though it was asked for something
abbrev pub GaveNothing : StreamLog → StreamLog → Type 0
GaveNothing read read' = read.reads.zero_reads < read'.reads.zero_reads

-- what was received has been flushed
abbrev pub ReceivedFlushed : StreamLog → Type 0
ReceivedFlushed written = written.writes.flushed ≡ written.writes.received

-- all that was taken in was received and flushed
pub record AllSent {W P : Type 0} (v : Buffered W P) : Type 0 where
  pub empty : v.block.bytes ≡ []
  pub flushed : ReceivedFlushed v.log
