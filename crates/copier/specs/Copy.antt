-- What a run moves from a reader to a writer.
use Rattle.std.specs.Prelude.{◌≡◌, ℕ, ◌+◌, ◌-◌, ◌^◌, ◌<◌, ◌≤◌, ◌⊎◌, Bool, List, ◌++◌, length, Option, Result, Ok, Err, IsErrAnd, MatchResult, nat_le, if◌then◌else◌}
use Rattle.std.specs.IoError.{error_kind}
use Rattle.std.specs.declared.io.Error.{Error}
use Rattle.std.specs.declared.io.ErrorKind.TheVariants.{Interrupted, Other, WriteZero}
use Rattle.buffer_redux.specs.Block.{IsNew}
use Rattle.buffer_redux.specs.Buffered.{Buffered}
use Rattle.buffer_redux.specs.BufWriter.{WasFlushed}
use Rattle.buffer_redux.specs.Copy.{CopyBuf, CopyRows, SourceFailed}
use Rattle.buffer_redux.specs.Faults.{interrupt_limit}
use Rattle.buffer_redux.specs.Policy.{std_read_rules, std_write_rules}
use Rattle.buffer_redux.specs.ReaderTells.{ReaderWent, reader_log}
use Rattle.buffer_redux.specs.StreamLog.{StreamLog}
use Rattle.buffer_redux.specs.WriterTells.{WriterCalled, WriterWent, writer_log}
use Rattle.buffer_redux.specs.declared.policy.StdPolicy.{StdPolicy}
use Rattle.programs.specs.Streams.{GaveNothing, MetNoFault, ReceivedFlushed, RefusedBeforeCalls, WriterFailed, capacity_asked, kind_asked}

-- what was received is a beginning of what was given
pub record IsBeginning (read read' written written' : StreamLog) : Type 0 where
  pub received : List ℕ
  pub rest : List ℕ
  pub given : read'.reads.given ≡ read.reads.given ++ (received ++ rest)
  pub taken : written'.writes.received ≡ written.writes.received ++ received

-- what was received is what was given, all of it: the reader answered `Ok(0)`, and the writer was flushed once. Both streams were
-- at most interrupted
pub record Copied (total : ℕ) (read read' written written' : StreamLog) : Type 0 where
  pub bytes : List ℕ
  pub count : length bytes ≡ total
  pub given : read'.reads.given ≡ read.reads.given ++ bytes
  pub received : written'.writes.received ≡ written.writes.received ++ bytes
  pub flushed : ReceivedFlushed written'
  pub flushes : written'.writes.flushes ≡ written.writes.flushes + 1
  pub ended : GaveNothing read read'
  pub met : MetNoFault read read' written written'

-- one of the streams failed with this error
abbrev pub EitherFailed : Error → StreamLog → StreamLog → StreamLog → StreamLog → Type 0
EitherFailed e read read' written written' =
    SourceFailed e read.reads.faults read'.reads.faults written.writes written'.writes
    ⊎ WriterFailed e read read' written written'

-- more bytes were given than a `u64` counts, and both streams were at most interrupted
pub record OverTotal (e : Error) (read read' written written' : StreamLog) : Type 0 where
  pub other : error_kind e ≡ Other
  pub large : 2 ^ 64 ≤ length read'.reads.given - length read.reads.given
  pub met : MetNoFault read read' written written'

-- both streams met so many faults and more, both together
abbrev pub FaultsRise : ℕ → StreamLog → StreamLog → StreamLog → StreamLog → Type 0
FaultsRise n read read' written written' =
    length read.reads.faults + length written.writes.faults + n
    ≤ length read'.reads.faults + length written'.writes.faults

-- all that was given was received, to the reader's end: the writer's own flush was left
pub record OnlyFlushLeft (read read' written written' : StreamLog) : Type 0 where
  pub bytes : List ℕ
  pub given : read'.reads.given ≡ read.reads.given ++ bytes
  pub received : written'.writes.received ≡ written.writes.received ++ bytes
  pub ended : GaveNothing read read'

-- `Interrupted` is answered only where the streams met more faults than the limit of interruptions, or by the writer's own flush
abbrev pub InterruptedOften : Error → StreamLog → StreamLog → StreamLog → StreamLog → Type 0
InterruptedOften e read read' written written' = error_kind e ≡ Interrupted
    → FaultsRise (interrupt_limit + 1) read read' written written' ⊎ OnlyFlushLeft read read' written written'

-- a run failed with this error, and flushed nothing: a stream failed with it, a buffer was refused, or the total passed what a
-- `u64` counts. The writer's own flush was made where just that was left
pub record RunStopped (e : Error) (read read' written written' : StreamLog) : Type 0 where
  pub caused : EitherFailed e read read' written written'
      ⊎ (RefusedBeforeCalls e read read' written written' ⊎ OverTotal e read read' written written')
  pub often : InterruptedOften e read read' written written'
  pub not_flushed : written'.writes.flushed ≡ written.writes.flushed
  pub flushes : (written'.writes.flushes ≡ written.writes.flushes)
      ⊎ (OnlyFlushLeft read read' written written' × (written'.writes.flushes ≡ written.writes.flushes + 1))

-- one copy between two buffered streams, turn by turn, and where it ended with nothing left in the first, one flush of the second
pub record CopiesAll {R W : Type 0} (remaining : R → Option (List ℕ)) (tells : W → StreamLog) (trace : W → W → Type 0)
    (answer : Result ℕ Error) (s s' : Buffered R StdPolicy) (t t' : Buffered W StdPolicy) : Type 0 where
  pub copying : Result ℕ Error
  pub copied : Buffered W StdPolicy
  pub copy : CopyBuf writer_log (WriterWent trace std_write_rules) (WriterCalled tells trace std_write_rules) copying
      (reader_log s).fills (reader_log s').fills t copied
  pub turns : CopyRows reader_log writer_log (ReaderWent remaining std_read_rules) (WriterWent trace std_write_rules)
      (WriterCalled tells trace std_write_rules) copying (record { source = s; target = t })
      (record { source = s'; target = copied })
  pub source : ReaderWent remaining std_read_rules s s'
  pub target : WriterWent trace std_write_rules t copied
  pub ended : MatchResult copying
      (λ total. ((0 < length s'.block.bytes) × IsErrAnd answer (λ e. error_kind e ≡ WriteZero) × (t' ≡ copied))
      ⊎ ((length s'.block.bytes ≡ 0) × MatchResult answer (λ n. (n ≡ total) × WasFlushed tells trace copied (Ok tt) t')
      (λ e. WasFlushed tells trace copied (Err e) t')))
      (λ e. (answer ≡ Err e) × (t' ≡ copied))

-- a run through buffers that were made for it, over these streams, of this kind and capacity
pub record RunsThrough {R W : Type 0} (log : R → StreamLog) (log' : W → StreamLog) (remaining : R → Option (List ℕ))
    (trace : W → W → Type 0) (ring : Bool) (cap : ℕ) (answer : Result ℕ Error) (reader reader' : R) (writer writer' : W)
    : Type 0 where
  pub source : Buffered R StdPolicy
  pub source' : Buffered R StdPolicy
  pub target : Buffered W StdPolicy
  pub target' : Buffered W StdPolicy
  pub source_made : IsNew (kind_asked ring) (capacity_asked ring cap) source.block
  pub target_made : IsNew (kind_asked ring) (capacity_asked ring cap) target.block
  pub reads : (source.inner ≡ reader) × (source.log ≡ log reader)
  pub writes : (target.inner ≡ writer) × (target.log ≡ log' writer)
  pub copies : CopiesAll remaining log' trace answer source source' target target'
  pub reader_left : (source'.inner ≡ reader') × (source'.log ≡ log reader')
  pub writer_left : (target'.inner ≡ writer') × (target'.log ≡ log' writer')

-- how many bytes a writer of this capacity holds behind a write at most: a single byte goes past a buffer of one
abbrev pub most_held : ℕ → ℕ
most_held capacity = if nat_le capacity 1 then 0 else capacity

-- where the reader was asked, all but so many of the bytes that it had given before its last ask were received in the end
abbrev pub HoldsBackAtMost : ℕ → StreamLog → StreamLog → StreamLog → StreamLog → Type 0
HoldsBackAtMost most read read' written written' =
    (read'.reads ≡ read.reads)
    ⊎ (length read'.reads.given + length written.writes.received
    ≤ length read.reads.given + length read'.reads.latest + length written'.writes.received + most)
