-- What calls of a filter do to its writer.
use Rattle.std.specs.Prelude.{◌≡◌, ℕ, ◌+◌, ◌-◌, ◌≤◌, ◌⊎◌, length, Bool, Result, MatchResult, OnOk}
use Rattle.std.specs.declared.io.Error.{Error}
pub use Rattle.redux_buffer.specs.Faults.{failure_count}
use Rattle.redux_buffer.specs.Faults.{IsInterrupt, MetInterrupts, SendErrorCaused}
use Rattle.redux_buffer.specs.StreamLog.{StreamLog}
use Rattle.forward.specs.Prompt.{WritesOn}
use Rattle.forward.specs.Streams.{FaultsOften, FewFaults}

-- a buffered writer: what the one inside told, how many bytes are buffered, and how many may be
pub record TargetState : Type 0 where
  pub log : StreamLog
  pub held : ℕ
  pub capacity : ℕ

-- how many bytes were taken in, whether or not they were received
abbrev pub bytes_taken : TargetState → ℕ
bytes_taken w = length w.log.writes.received + w.held

-- the writer was let be: not called, and given no memory
pub record IsLeft (old new : TargetState) : Type 0 where
  pub told : new.log ≡ old.log
  pub capacity : new.capacity ≡ old.capacity

-- the buffer grew only for more bytes than it may hold, and by these and so many more at most
pub record GrowsFor (rounds : ℕ) (old new : TargetState) : Type 0 where
  pub fits : bytes_taken new ≤ bytes_taken old + old.capacity → new.capacity ≡ old.capacity
  pub most : new.capacity + bytes_taken old ≤ old.capacity + bytes_taken new + rounds

-- sending failed with this error: an interrupted write only behind as many as the limit; or it went well, and this was refused
abbrev pub PassFailed : (Error → Type 0) → TargetState → Error → TargetState → Type 0
PassFailed Refused old e new =
    (SendErrorCaused old.log.writes new.log.writes e × (IsInterrupt e → FaultsOften old.log.writes new.log.writes))
    ⊎ (MetInterrupts old.log.writes new.log.writes × Refused e)

-- what passing on does to the writer, if it has to be sent to: it isn't flushed. Where there is room for what is taken in, and
-- for so many bytes more, it is let be; and at an `Err` it is given no memory
pub record PassWrites (spare rounds : ℕ) (Refused : Error → Type 0) (old : TargetState) (answer : Result Bool Error)
    (new : TargetState) : Type 0 where
  pub writes : WritesOn old.log.writes new.log.writes
  pub flushes : new.log.writes.flushes ≡ old.log.writes.flushes
  pub few : FewFaults (failure_count answer) old.log.writes new.log.writes
  pub ended : MatchResult answer (λ _. MetInterrupts old.log.writes new.log.writes) (λ e. PassFailed Refused old e new)
  pub still : OnOk answer (bytes_taken new ≤ bytes_taken old + (old.capacity - old.held - spare) → IsLeft old new)
  pub grown : MatchResult answer (λ _. GrowsFor rounds old new) (λ _. new.capacity ≡ old.capacity)

-- the writer was flushed once at most, and all that had been taken in was received then
abbrev pub FlushesOnce : TargetState → TargetState → Type 0
FlushesOnce old new =
    (new.log.writes.flushes ≡ old.log.writes.flushes)
    ⊎ ((new.log.writes.flushes ≡ old.log.writes.flushes + 1) × (bytes_taken old ≤ length new.log.writes.received))

-- `Interrupted` is answered only where faults came that often, or by the writer's own flush, where nothing is buffered
abbrev pub InterruptedLast : TargetState → Error → TargetState → Type 0
InterruptedLast old e new = IsInterrupt e → FaultsOften old.log.writes new.log.writes ⊎ (new.held ≡ 0)

-- what a flush does to it: it is given no memory
pub record FlushWrites (old : TargetState) (answer : Result (Unit {0}) Error) (new : TargetState) : Type 0 where
  pub writes : WritesOn old.log.writes new.log.writes
  pub flushes : FlushesOnce old new
  pub few : FewFaults (failure_count answer) old.log.writes new.log.writes
  pub ended : MatchResult answer (λ _. MetInterrupts old.log.writes new.log.writes)
      (λ e. SendErrorCaused old.log.writes new.log.writes e × InterruptedLast old e new)
  pub capacity : new.capacity ≡ old.capacity
