-- What goes between a buffer and a stream.
use Rattle.std.specs.Prelude.{◌≡◌, ℕ, ◌+◌, ◌*◌, ◌≤◌, ◌<◌, ◌⊎◌, List, ◌++◌, length, min, take, Result, Ok, Err, MatchResult, IfErr, OnOk, OnErr}
use Rattle.std.specs.Io.{ReadsAtMost, WritesAtMost}
use Rattle.std.specs.List.{All}
use Rattle.std.specs.declared.io.Error.{Error}
use Rattle.redux_buffer.specs.Block.{Block, Extends, ConsumesFirst, OnlyRingMoves, usable}
use Rattle.redux_buffer.specs.StreamLog.{StreamLog, portion, with_zero, with_short, with_fault, after_read, after_write}
use Rattle.redux_buffer.specs.Faults.{IsInterrupt, OnlyInterrupted, interrupt_limit, SendFailed}
use Rattle.redux_buffer.specs.Retried.{Retried}

-- one read into the whole tail, which left it as out; what was given stands behind the bytes
pub record ReadsOnce (old : Block) (log : StreamLog) (answer : Result ℕ Error) (new : Block)
    (log' : StreamLog) : Type 0 where
  pub out : List ℕ
  pub offered : length out ≡ usable old
  pub bound : ReadsAtMost answer out
  pub told : log' ≡ after_read log out answer
  pub added : Extends (portion out answer) old new

-- nothing was done, since there was nothing to do
pub record DoesNothing {A : Type 0} (nothing : A) (old : Block) (log : StreamLog) (answer : Result A Error)
    (new : Block) (log' : StreamLog) : Type 0 where
  pub answered : answer ≡ Ok nothing
  pub buffer : new ≡ old
  pub told : log' ≡ log

-- one read, or none where nothing can be written
pub record ReadsFrom (old : Block) (log : StreamLog) (answer : Result ℕ Error)
    (new : Block) (log' : StreamLog) : Type 0 where
  pub no_room : usable old ≡ 0 → DoesNothing 0 old log answer new log'
  pub read : 0 < usable old → ReadsOnce old log answer new log'

-- one write of all the bytes, of which those that were taken are dropped, or none of an empty buffer
pub record WritesTo (old : Block) (log : StreamLog) (answer : Result ℕ Error) (new : Block)
    (log' : StreamLog) : Type 0 where
  pub empty : length old.bytes ≡ 0 → DoesNothing 0 old log answer new log'
  pub bound : 0 < length old.bytes → WritesAtMost answer old.bytes
  pub told : 0 < length old.bytes → log' ≡ after_write log old.bytes answer
  pub dropped : 0 < length old.bytes → MatchResult answer (λ n. ConsumesFirst n old new) (λ _. new ≡ old)

-- one write of bs
pub record Offers {W : Type 0} (tells : W → StreamLog) (trace : W → W → Type 0) (bs : List ℕ) (s : W)
    (answer : Result ℕ Error) (t : W) : Type 0 where
  pub bound : WritesAtMost answer bs
  pub told : tells t ≡ after_write (tells s) bs answer
  pub traced : trace s t

-- a row of writes begins where a call does, or behind one of its writes that took bytes
abbrev pub BeginsRow : {W : Type 0} → (W → StreamLog) → (W → W → Type 0) → W → W → Type 0
BeginsRow {W} tells trace w begun =
    (begun ≡ w) ⊎ ((before : W) × trace w before × (bs : List ℕ) × (n : ℕ) × (0 < n)
    × Offers tells trace bs before (Ok n) begun)

-- the row of writes that a call ended in: of the same bytes, the last with this answer, and each before it interrupted
pub record LastRow {W : Type 0} (tells : W → StreamLog) (trace : W → W → Type 0) (answer : Result ℕ Error) (w w' : W)
    : Type 0 where
  pub begun : W
  pub went : trace w begun
  pub begins : BeginsRow tells trace w begun
  pub bytes : List ℕ
  pub row : Retried (Offers tells trace bytes) begun answer w'

-- the row of writes that a call with this error ended in: its last write answered the error, or took nothing
abbrev pub FailedRow : {W : Type 0} → (W → StreamLog) → (W → W → Type 0) → Error → W → W → Type 0
FailedRow tells trace e w w' = LastRow tells trace (Err e) w w' ⊎ LastRow tells trace (Ok 0) w w'

-- a write of bs, asked again where it was interrupted, up to the limit, and `Interrupted` is answered only then
pub record WritesRetried (bs : List ℕ) (log : StreamLog) (answer : Result ℕ Error) (log' : StreamLog) : Type 0 where
  pub interrupts : List Error
  pub interrupted : All IsInterrupt interrupts
  pub most : length interrupts ≤ interrupt_limit
  pub often : IfErr answer (λ e. IsInterrupt e → length interrupts ≡ interrupt_limit)
  pub received : log'.writes.received ≡ log.writes.received ++ portion bs answer
  pub flushed : log'.writes.flushed ≡ log.writes.flushed
  pub flushes : log'.writes.flushes ≡ log.writes.flushes
  pub asks : log'.writes.asks ≡ log.writes.asks + length interrupts + 1
  pub short_writes : log'.writes.short_writes ≡ with_short (log.writes.short_writes + length interrupts) bs answer
  pub offered : log'.writes.offer ≡ length bs
  pub zero_writes : log'.writes.zero_writes ≡ with_zero log.writes.zero_writes bs answer
  pub faults : log'.writes.faults ≡ with_fault (log.writes.faults ++ interrupts) answer
  pub others : log' ≡ record log { writes = log'.writes }

-- the first count bytes went out
pub record Sent (count : ℕ) (old : Block) (log : StreamLog) (new : Block) (log' : StreamLog) : Type 0 where
  pub within : count ≤ length old.bytes
  pub dropped : ConsumesFirst count old new
  pub moved : OnlyRingMoves old new
  pub received : log'.writes.received ≡ log.writes.received ++ take count old.bytes
  pub flushed : log'.writes.flushed ≡ log.writes.flushed
  pub flushes : log'.writes.flushes ≡ log.writes.flushes
  pub others : log' ≡ record log { writes = log'.writes }

-- the first amount bytes were sent, or all where there are fewer; where that failed, those that the writer took, and not
-- all of them. For each byte that went out there were at most as many interrupted writes as the limit, and as many more
-- before a failure. The stream isn't called where there is nothing to send, and else its last write offered something. Just
-- that one took all that it was offered, none before a failure, and every other one fell short: so each write offered all
-- that was left
pub record Sends (amount : ℕ) (old : Block) (log : StreamLog) (answer : Result (Unit {0}) Error) (new : Block)
    (log' : StreamLog) : Type 0 where
  pub count : ℕ
  pub interrupts : List Error
  pub sent : Sent count old log new log'
  pub most : count ≤ amount
  pub whole : OnOk answer (count ≡ min amount (length old.bytes))
  pub unsent : OnErr answer (count < min amount (length old.bytes))
  pub ok : OnOk answer (OnlyInterrupted interrupts log.writes log'.writes)
  pub failed : IfErr answer (λ e. SendFailed interrupts log.writes log'.writes e)
  pub idle : min amount (length old.bytes) ≡ 0 → log' ≡ log
  pub offered : 0 < min amount (length old.bytes) → 0 < log'.writes.offer
  pub fell_short : log.writes.short_writes ≤ log'.writes.short_writes
  pub whole_writes : MatchResult answer
      (λ _. 0 < min amount (length old.bytes)
      → log'.writes.asks + log.writes.short_writes ≡ log.writes.asks + log'.writes.short_writes + 1)
      (λ _. log'.writes.asks + log.writes.short_writes ≡ log.writes.asks + log'.writes.short_writes)
  pub few : MatchResult answer (λ _. length interrupts ≤ interrupt_limit * count)
      (λ _. length interrupts ≤ interrupt_limit * (count + 1))
