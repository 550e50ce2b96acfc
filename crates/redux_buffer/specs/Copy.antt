-- What copying from a buffered reader to a writer does.
use Rattle.std.specs.Prelude.{◌≡◌, ◌≢◌, ℕ, zero, suc, ◌+◌, ◌-◌, ◌*◌, ◌^◌, ◌<◌, ◌≤◌, ◌⊎◌, List, [], ◌++◌, length, Option, IfSome, Result, Ok, Err, IfOk, IfErr, OnOk, MatchResult}
use Rattle.std.specs.IoError.{error_kind}
use Rattle.std.specs.declared.io.Error.{Error}
use Rattle.std.specs.declared.io.ErrorKind.TheVariants.{Interrupted, Other}
use Rattle.redux_buffer.specs.StreamLog.{StreamLog, FillLog, WriteLog, after_write}
use Rattle.redux_buffer.specs.Faults.{OnlyInterrupts, FaultAfterInterrupts, MetInterrupts, interrupt_limit}
use Rattle.redux_buffer.specs.Retried.{Retried}

-- the writer received n bytes, and these are the ones that the reader was told are consumed, by as many consumes at most
pub record MovedBy (n : ℕ) (from from' : FillLog) (to to' : WriteLog) : Type 0 where
  pub bytes : List ℕ
  pub count : length bytes ≡ n
  pub consumed : from'.consumed ≡ from.consumed ++ bytes
  pub consumes : from'.consumes ≤ from.consumes + n
  pub received : to'.received ≡ to.received ++ bytes
  pub not_flushed : to'.flushed ≡ to.flushed
  pub flushes : to'.flushes ≡ to.flushes

-- how many faults the streams met, both together
abbrev pub faults_met : FillLog → WriteLog → ℕ
faults_met from to = length from.faults + length to.faults

-- a fill was made for each consume and each fault that the streams met, and so many more
abbrev pub FillsMade : ℕ → FillLog → FillLog → WriteLog → WriteLog → Type 0
FillsMade n from from' to to' =
    from'.asks + from.consumes + faults_met from to ≡ from.asks + from'.consumes + faults_met from' to' + n

-- a write was made for each fill that didn't fail
abbrev pub WritesEachFill : FillLog → FillLog → WriteLog → WriteLog → Type 0
WritesEachFill from from' to to' =
    to'.asks + from.asks + length from'.faults ≡ to.asks + from'.asks + length from.faults

-- a fill that showed nothing had no consume: there was at most one for each write that failed, and so many more
abbrev pub EndsShown : ℕ → FillLog → FillLog → WriteLog → WriteLog → Type 0
EndsShown n from from' to to' = from'.zero_fills + length to.faults ≤ from.zero_fills + length to'.faults + n

-- turns that moved n bytes, in which the streams were at most interrupted. Each moved a byte, or was interrupted
pub record CopiesOn (n : ℕ) (from from' : FillLog) (to to' : WriteLog) : Type 0 where
  pub moved : MovedBy n from from' to to'
  pub ends : from.zero_fills ≤ from'.zero_fills
  pub ends_shown : EndsShown 0 from from' to to'
  pub fills : FillsMade 0 from from' to to'
  pub writes : WritesEachFill from from' to to'
  pub reader : OnlyInterrupts from.faults from'.faults
  pub writer : MetInterrupts to to'

-- the streams were at most interrupted, up to the writer's last call: a write of all that is shown, with this answer
pub record LastWrite {W : Type 0} (tells : W → StreamLog) (trace call : W → W → Type 0)
    (answer : Result ℕ Error) (from from' : FillLog) (w w' : W) : Type 0 where
  pub reader : OnlyInterrupts from.faults from'.faults
  pub before : W
  pub went : trace w before
  pub met : MetInterrupts (tells w).writes (tells before).writes
  pub called : call before w'
  pub told : tells w' ≡ after_write (tells before) from'.shown answer

-- copying ended: the last write took nothing, and where the reader had nothing to show it told so
pub record CopyEnded {W : Type 0} (tells : W → StreamLog) (trace call : W → W → Type 0)
    (from from' : FillLog) (w w' : W) : Type 0 where
  pub last : LastWrite tells trace call (Ok 0) from from' w w'
  pub ends : length from'.shown ≡ 0 → from.zero_fills < from'.zero_fills

-- the reader, whose faults these are, failed with this error, and the writer was at most interrupted
pub record SourceFailed (e : Error) (faults faults' : List Error) (to to' : WriteLog) : Type 0 where
  pub fault : FaultAfterInterrupts faults faults' e
  pub writer : MetInterrupts to to'

-- a stream failed with this error: the reader, or the writer at its last write
abbrev pub StreamFailed : {W : Type 0} → (W → StreamLog) → (W → W → Type 0) → (W → W → Type 0) → Error
    → FillLog → FillLog → W → W → Type 0
StreamFailed tells trace call e from from' w w' =
    SourceFailed e from.faults from'.faults (tells w).writes (tells w').writes
    ⊎ LastWrite tells trace call (Err e) from from' w w'

-- more bytes were moved than a `u64` counts, and the streams were at most interrupted
pub record MovedTooMuch (e : Error) (from from' : FillLog) (to to' : WriteLog) : Type 0 where
  pub other : error_kind e ≡ Other
  pub count : ℕ
  pub large : 2 ^ 64 ≤ count
  pub copies : CopiesOn count from from' to to'

-- whatever calls the writer went through, no write of nothing fails
abbrev pub TakesNothing : {W : Type 0} → (W → StreamLog) → (W → W → Type 0) → (W → W → Type 0) → W → Type 0
TakesNothing {W} tells trace call w =
    (before after : W) (e : Error) → trace w before → call before after → tells after ≢ after_write (tells before) [] (Err e)

-- what one turn of a copy answered, also one that was begun again where it was interrupted: how many bytes went over, none
-- at the end, or why a stream failed. At the end and where it failed it moved nothing, and one fill had no consume at the
-- end. At Ok the reader showed nothing once at most, and at an `Err` never, where the writer fails no write of nothing
pub record TurnAnswers {W : Type 0} (tells : W → StreamLog) (trace call : W → W → Type 0) (result : Result ℕ Error)
    (from from' : FillLog) (w w' : W) : Type 0 where
  pub copies : IfOk result (λ n. 0 < n → CopiesOn n from from' (tells w).writes (tells w').writes)
  pub ended : IfOk result (λ n. n ≡ 0 → CopyEnded tells trace call from from' w w')
  pub failed : IfErr result (λ e. StreamFailed tells trace call e from from' w w')
  pub nothing : MatchResult result
      (λ n. n ≡ 0 → MovedBy 0 from from' (tells w).writes (tells w').writes)
      (λ _. MovedBy 0 from from' (tells w).writes (tells w').writes)
  pub fills : MatchResult result
      (λ n. n ≡ 0 → FillsMade 1 from from' (tells w).writes (tells w').writes)
      (λ _. FillsMade 0 from from' (tells w).writes (tells w').writes)
  pub writes : WritesEachFill from from' (tells w).writes (tells w').writes
  pub ends_shown : MatchResult result
      (λ _. EndsShown 1 from from' (tells w).writes (tells w').writes)
      (λ _. EndsShown 0 from from' (tells w).writes (tells w').writes)
  pub one_end : TakesNothing tells trace call w → MatchResult result
      (λ _. from'.zero_fills ≤ from.zero_fills + 1) (λ _. from'.zero_fills ≡ from.zero_fills)
  pub none_ended : TakesNothing tells trace call w → IfOk result (λ n. 0 < n → from'.zero_fills ≡ from.zero_fills)

-- one turn of a copy: one fill, then one write of all that it shows, none where the fill failed, and so one consume where
-- bytes went over; a failure is one fault, which moved nothing
pub record CopyTurn {W : Type 0} (tells : W → StreamLog) (trace call : W → W → Type 0) (result : Result ℕ Error)
    (from from' : FillLog) (w w' : W) : Type 0 where
  pub answers : TurnAnswers tells trace call result from from' w w'
  pub interrupted : IfErr result
      (λ e. error_kind e ≡ Interrupted → CopiesOn 0 from from' (tells w).writes (tells w').writes)
  pub one_fill : from'.asks ≡ from.asks + 1
  pub offered : IfOk result (λ n. (tells w').writes.offer ≡ n + length from'.shown)
  pub called : length from'.faults ≡ length from.faults → call w w'
  pub no_write : length from.faults < length from'.faults → w' ≡ w
  pub none_ended : IfOk result (λ n. 0 < n → from'.zero_fills ≡ from.zero_fills)
  pub one_fault : MatchResult result
      (λ _. faults_met from' (tells w').writes ≡ faults_met from (tells w).writes)
      (λ _. faults_met from' (tells w').writes ≡ faults_met from (tells w).writes + 1)

-- a turn that is begun again where it was interrupted, up to the limit
pub record CopyRetried {W : Type 0} (tells : W → StreamLog) (trace call : W → W → Type 0) (result : Result ℕ Error)
    (from from' : FillLog) (w w' : W) : Type 0 where
  pub answers : TurnAnswers tells trace call result from from' w w'
  pub often : IfErr result
      (λ e. error_kind e ≡ Interrupted
      → faults_met from (tells w).writes + interrupt_limit + 1 ≤ faults_met from' (tells w').writes)
  pub few : MatchResult result
      (λ _. faults_met from' (tells w').writes ≤ faults_met from (tells w).writes + interrupt_limit)
      (λ _. faults_met from' (tells w').writes ≤ faults_met from (tells w).writes + interrupt_limit + 1)

-- the two streams of a copy
pub record CopyStreams (B W : Type 0) : Type 0 where
  pub source : B
  pub target : W

module _ {B W : Type 0} (shows : B → StreamLog) (tells : W → StreamLog) (reads : B → B → Type 0)
    (trace call : W → W → Type 0) where
  -- one turn, from these streams to those
  pub record CopyStep (s : CopyStreams B W) (answer : Result ℕ Error) (t : CopyStreams B W) : Type 0 where
    pub read : reads s.source t.source
    pub wrote : trace s.target t.target
    pub turn : CopyTurn tells trace call answer (shows s.source).fills (shows t.source).fills s.target t.target

  -- so many rows of turns, one behind another: each a turn, made again where it was interrupted, that moved bytes at last
  abbrev pub MovingRows : ℕ → CopyStreams B W → CopyStreams B W → Type 0
  MovingRows zero s t = s ≡ t
  MovingRows (suc k) s t = (m : CopyStreams B W) × MovingRows k s m × (n : ℕ) × (0 < n) × Retried CopyStep m (Ok n) t

  -- rows that moved bytes, and then the one with this answer
  pub record EndsInRow (answer : Result ℕ Error) (s t : CopyStreams B W) : Type 0 where
    pub count : ℕ
    pub begun : CopyStreams B W
    pub moving : MovingRows count s begun
    pub row : Retried CopyStep begun answer t

  -- all turns of a copy: at Ok the last moved nothing, and an error is its answer, or more bytes were moved than a `u64` counts
  abbrev pub CopyRows : Result ℕ Error → CopyStreams B W → CopyStreams B W → Type 0
  CopyRows (Ok total) s t = EndsInRow (Ok 0) s t
  CopyRows (Err e) s t = EndsInRow (Err e) s t
      ⊎ (MovedTooMuch e (shows s.source).fills (shows t.source).fills (tells s.target).writes (tells t.target).writes
      × ((count : ℕ) × MovingRows count s t))

-- a whole copy: at Ok it ended, and the total is the number of bytes that went over; at an `Err` some went over, and
-- `Interrupted` comes only after more such faults than the limit; and each fill and each write was one of a turn. The faults were
-- at most as many as the limit for each byte that went over, and as many in the last turn, with one more where that failed
pub record CopyBuf {W : Type 0} (tells : W → StreamLog) (trace call : W → W → Type 0) (result : Result ℕ Error)
    (from from' : FillLog) (w w' : W) : Type 0 where
  pub moved : MatchResult result
      (λ n. MovedBy n from from' (tells w).writes (tells w').writes)
      (λ _. (n : ℕ) × MovedBy n from from' (tells w).writes (tells w').writes)
  pub ended : OnOk result (CopyEnded tells trace call from from' w w')
  pub failed : IfErr result (λ e. StreamFailed tells trace call e from from' w w'
      ⊎ MovedTooMuch e from from' (tells w).writes (tells w').writes)
  pub often : IfErr result
      (λ e. error_kind e ≡ Interrupted
      → faults_met from (tells w).writes + interrupt_limit + 1 ≤ faults_met from' (tells w').writes)
  pub few : MatchResult result
      (λ _. faults_met from' (tells w').writes
      ≤ faults_met from (tells w).writes + interrupt_limit * (length from'.consumed - length from.consumed + 1))
      (λ _. faults_met from' (tells w').writes
      ≤ faults_met from (tells w).writes + interrupt_limit * (length from'.consumed - length from.consumed + 1) + 1)
  pub fills : MatchResult result
      (λ _. FillsMade 1 from from' (tells w).writes (tells w').writes)
      (λ _. FillsMade 0 from from' (tells w).writes (tells w').writes)
  pub writes : WritesEachFill from from' (tells w).writes (tells w').writes
  pub ends_shown : MatchResult result
      (λ _. EndsShown 1 from from' (tells w).writes (tells w').writes)
      (λ _. EndsShown 0 from from' (tells w).writes (tells w').writes)
  pub one_end : TakesNothing tells trace call w → MatchResult result
      (λ _. from'.zero_fills ≤ from.zero_fills + 1) (λ _. from'.zero_fills ≡ from.zero_fills)

-- the writer received all that the reader was known to have left, or once took nothing of something
abbrev pub ReceivesAll : Option (List ℕ) → WriteLog → WriteLog → Type 0
ReceivesAll left to to' =
    IfSome left (λ xs. (to'.received ≡ to.received ++ xs) ⊎ (to.zero_writes < to'.zero_writes))
