-- What the calls of a buffered writer do and promise.
use Rattle.std.specs.Prelude.{◌≡◌, ℕ, ◌+◌, ◌-◌, ◌<◌, ◌≤◌, ◌⊎◌, List, [], ◌∷◌, ◌++◌, length, min, Option, Some, Result, Ok, Err, MatchResult, true, IfErr, IsErrAnd, OnOk, OnErr}
use Rattle.std.specs.IoError.{error_kind}
use Rattle.std.specs.declared.io.Error.{Error}
use Rattle.std.specs.declared.io.ErrorKind.TheVariants.{WriteZero}
use Rattle.std.specs.declared.io.traits.SeekFrom.{SeekFrom}
use Rattle.redux_buffer.specs.Block.{Block, IsBlock, Extends, MakesRoom, usable}
use Rattle.redux_buffer.specs.LogGrows.{WriteLogGrows}
use Rattle.redux_buffer.specs.StreamLog.{StreamLog, WriteLog, Readies, SeekTells, portion, after_write, after_flush}
use Rattle.redux_buffer.specs.Faults.{MetInterrupts, SendErrorCaused}
use Rattle.redux_buffer.specs.Transfer.{DoesNothing, FailedRow, Sends}
use Rattle.buffer_redux.specs.declared.policy.FlushAmt.{FlushAmt}
use Rattle.buffer_redux.specs.Policy.{WriteRules, BeforeWrite, AfterWrite}
use Rattle.buffer_redux.specs.Buffered.{Buffered, GoesPast, StaysInside, GoesDirect, InnerWent, with_policy}

-- the bytes received since, then those buffered, are those that were buffered, then those accepted; and no more were consumed
-- than were received
pub record WritesInOrder {S P : Type 0} (s : Buffered S P) (accepted : List ℕ) (t : Buffered S P) : Type 0 where
  pub sent : List ℕ
  pub received : t.log.writes.received ≡ s.log.writes.received ++ sent
  pub equal : sent ++ t.block.bytes ≡ s.block.bytes ++ accepted
  pub consumed : t.block.consumed ≤ s.block.consumed + length sent

-- what a buffered writer holds: what the inner writer received, then what is buffered
abbrev pub writer_contents : {S P : Type 0} → Buffered S P → Option (List ℕ)
writer_contents b = Some (b.log.writes.received ++ b.block.bytes)

-- the flush of an amount: nothing at 0, and nothing where fewer bytes are buffered; else the first amount bytes are sent
pub record FlushesAmount {S P : Type 0} (amount : ℕ)
    (s : Buffered S P) (answer : Result (Unit {0}) Error) (t : Buffered S P) : Type 0 where
  pub policy : t.policy ≡ s.policy
  pub idle : (amount ≡ 0) ⊎ (length s.block.bytes < amount) → DoesNothing tt s.block s.log answer t.block t.log
  pub sends : 0 < amount → amount ≤ length s.block.bytes → Sends amount s.block s.log answer t.block t.log

-- as much of bs as fits was copied behind the bytes, which were moved to the front where nothing fitted behind them
pub record CopiesIn {S P : Type 0} (bs : List ℕ) (s : Buffered S P) (answer : Result ℕ Error) (t : Buffered S P)
    : Type 0 where
  pub policy : t.policy ≡ s.policy
  pub settled : Block
  pub roomy : 0 < usable s.block → settled ≡ s.block
  pub tight : usable s.block ≡ 0 → MakesRoom s.block settled
  pub answered : answer ≡ Ok (min (usable settled) (length bs))
  pub added : Extends (portion bs answer) settled t.block
  pub told : t.log ≡ s.log

-- bytes are taken in past the buffer, or into it
pub record TakesIn {S P : Type 0} (bs : List ℕ) (s : Buffered S P) (answer : Result ℕ Error) (t : Buffered S P)
    : Type 0 where
  pub past : GoesPast s.block (length bs) → GoesDirect after_write s bs answer t
  pub inside : StaysInside s.block (length bs) → CopiesIn bs s answer t

-- the policy was asked, and the amount that it answered was flushed
pub record Prepared {S P : Type 0} (rules : WriteRules P)
    (incoming : ℕ) (s : Buffered S P) (flushed : Result (Unit {0}) Error) (m : Buffered S P) : Type 0 where
  pub seen : Buffered S P
  pub amount : FlushAmt
  pub asked : BeforeWrite rules s.policy s.block incoming (Ok amount) seen.policy seen.block
  pub whole : IsBlock seen.block
  pub told : seen.log ≡ s.log
  pub flush : FlushesAmount (amount.0) seen flushed m

-- the policy was asked once more, and the amount that it answered was flushed, whether or not that failed
pub record Finished {S P : Type 0} (rules : WriteRules P) (m t : Buffered S P) : Type 0 where
  pub amount : FlushAmt
  pub flushed : Result (Unit {0}) Error
  pub asked : AfterWrite rules m.policy m.block amount t.policy
  pub flush : FlushesAmount (amount.0) (with_policy m t.policy) flushed t

-- and where that failed, it ended in such a row of interrupted writes
abbrev pub FinishedInRow : {S P : Type 0} → (S → StreamLog) → (S → S → Type 0) → WriteRules P → Buffered S P → Buffered S P
    → Type 0
FinishedInRow tells trace rules m t =
    (finished : Finished rules m t) × IfErr finished.flushed (λ e. FailedRow tells trace e m.inner t.inner)

-- the steps of a write that returned `Ok(n)`
pub record Wrote {S P : Type 0} (rules : WriteRules P) (s : Buffered S P) (bs : List ℕ) (n : ℕ) (t : Buffered S P)
    : Type 0 where
  pub before : Buffered S P
  pub after : Buffered S P
  pub prepared : Prepared rules (length bs) s (Ok tt) before
  pub took_in : TakesIn bs before (Ok n) after
  pub finished : Finished rules after t

-- the policy returned the error, and nothing else was done
pub record WriteRefused {S P : Type 0} (rules : WriteRules P)
    (s : Buffered S P) (bs : List ℕ) (e : Error) (t : Buffered S P) : Type 0 where
  pub asked : BeforeWrite rules s.policy s.block (length bs) (Err e) t.policy t.block
  pub told : t.log ≡ s.log

-- the flush before went well, and the inner writer returned the error to the write past the buffer
pub record FailsPast {S P : Type 0} (rules : WriteRules P) (s : Buffered S P) (bs : List ℕ) (e : Error) (t : Buffered S P)
    : Type 0 where
  pub before : Buffered S P
  pub prepared : Prepared rules (length bs) s (Ok tt) before
  pub took_in : TakesIn bs before (Err e) t

-- what `write(bs)` does, step after step. At an `Err` the policy returned it, the flush before did, or the inner writer to
-- the write past the buffer
abbrev pub Writes : {S P : Type 0} → WriteRules P → Buffered S P → List ℕ → Result ℕ Error → Buffered S P → Type 0
Writes rules s bs (Ok n) t = Wrote rules s bs n t
Writes rules s bs (Err e) t = WriteRefused rules s bs e t ⊎ (Prepared rules (length bs) s (Err e) t ⊎ FailsPast rules s bs e t)

-- the row of interrupted writes in which a failed flush of its ended: the one before it, whose error is returned, or the one
-- after it, whose error is forgotten
abbrev pub WriteRows : {S P : Type 0} → (S → StreamLog) → (S → S → Type 0) → WriteRules P → Buffered S P → List ℕ
    → Result ℕ Error → Buffered S P → Type 0
WriteRows tells trace rules s bs (Ok n) t = (wrote : Wrote rules s bs n t) × InnerWent tells trace s wrote.after
    × IfErr wrote.finished.flushed (λ e. FailedRow tells trace e wrote.after.inner t.inner)
WriteRows tells trace rules s bs (Err e) t =
    WriteRefused rules s bs e t ⊎ (FailedRow tells trace e s.inner t.inner ⊎ FailsPast rules s bs e t)

-- an error is the policy's answer, and nothing else was done, or it was caused by the inner writer
abbrev pub WriteErrorCaused : {S P : Type 0} → WriteRules P → Buffered S P → List ℕ → Result ℕ Error → Buffered S P
    → Type 0
WriteErrorCaused rules s bs answer t =
    IfErr answer (λ e. WriteRefused rules s bs e t ⊎ SendErrorCaused s.log.writes t.log.writes e)

-- no space was free as the call began, and the flush before the copy, which found the buffer so, made none
pub record NoSpace {S P : Type 0} (s : Buffered S P) (incoming : ℕ) (before : Buffered S P) : Type 0 where
  pub full : s.block.capacity - length s.block.bytes ≡ 0
  pub room : before.block.capacity - length before.block.bytes ≡ 0
  pub kept : before.block.bytes ≡ s.block.bytes
  pub inside : StaysInside before.block incoming

-- nothing of something was taken in only where, after its first flush, the write past the buffer, and no other, took
-- nothing, or there was no space
pub record EmptyWriteCaused {S P : Type 0} (rules : WriteRules P) (s : Buffered S P) (bs : List ℕ) (t : Buffered S P)
    : Type 0 where
  pub steps : Wrote rules s bs 0 t
  pub why : (GoesPast steps.before.block (length bs) × (t.log.writes.zero_writes ≡ s.log.writes.zero_writes + 1))
      ⊎ NoSpace s (length bs) steps.before

-- under a steady policy an error is caused by the inner writer, and so is taking in nothing of something
abbrev pub WritesSteadily : {S P : Type 0} → WriteRules P → Buffered S P → ℕ → Result ℕ Error → Buffered S P → Type 0
WritesSteadily rules s incoming answer t = (rules.claims s.policy).steady ≡ true
    → IfErr answer (SendErrorCaused s.log.writes t.log.writes)
    × (answer ≡ Ok 0 → 0 < incoming → s.log.writes.zero_writes < t.log.writes.zero_writes)

-- the rules have the policy leave the capacity, as those of `StdPolicy` do
abbrev pub LeavesCapacity : {P : Type 0} → WriteRules P → Type 0
LeavesCapacity {P} rules = (p : P) (b : Block) (incoming : ℕ) (answer : Result FlushAmt Error) (p' : P) (b' : Block)
    → rules.before_write p b incoming answer p' b' → b'.capacity ≡ b.capacity

-- what each write keeps: the log only goes on, and nothing is flushed; the capacity doesn't fall, and rises only where the
-- policy may change it; the kind and the policy's claims stay; the inner writer went through a trace of calls, and no call of
-- its own is noted
pub record WriterKeeps {S P : Type 0} (tells : S → StreamLog) (trace : S → S → Type 0) (rules : WriteRules P)
    (s t : Buffered S P) : Type 0 where
  pub grows : WriteLogGrows s.log.writes t.log.writes
  pub not_flushed : t.log.writes.flushed ≡ s.log.writes.flushed
  pub flushes : t.log.writes.flushes ≡ s.log.writes.flushes
  pub capacity : s.block.capacity ≤ t.block.capacity
  pub same_capacity : LeavesCapacity rules → t.block.capacity ≡ s.block.capacity
  pub kind : t.block.kind ≡ s.block.kind
  pub claims : rules.claims t.policy ≡ rules.claims s.policy
  pub whole : IsBlock t.block
  pub went : InnerWent tells trace s t

-- all that is promised of a send with this answer
pub record WasSent {S P : Type 0} (tells : S → StreamLog) (trace : S → S → Type 0)
    (s : Buffered S P) (answer : Result (Unit {0}) Error) (t : Buffered S P) : Type 0 where
  pub sends : Sends (length s.block.bytes) s.block s.log answer t.block t.log
  pub in_order : WritesInOrder s [] t
  -- nothing is buffered, the inner writer received what was, and nothing went wrong but that writes were interrupted
  pub ok : OnOk answer (record {
    empty : t.block.bytes ≡ [];
    received : t.log.writes.received ≡ s.log.writes.received ++ s.block.bytes;
    met : MetInterrupts s.log.writes t.log.writes;
  })
  pub caused : IfErr answer (λ e. SendErrorCaused s.log.writes t.log.writes e)
  pub row : IfErr answer (λ e. FailedRow tells trace e s.inner t.inner)
  pub not_flushed : t.log.writes.flushed ≡ s.log.writes.flushed
  pub policy : t.policy ≡ s.policy
  pub capacity : t.block.capacity ≡ s.block.capacity
  pub whole : IsBlock t.block
  pub went : InnerWent tells trace s t

-- what `flush()` does: all bytes are sent, and then the inner writer is flushed
pub record Flushes {S P : Type 0} (s : Buffered S P) (answer : Result (Unit {0}) Error)
    (t : Buffered S P) : Type 0 where
  pub policy : t.policy ≡ s.policy
  pub sent_log : StreamLog
  pub sending : Result (Unit {0}) Error
  pub sends : Sends (length s.block.bytes) s.block s.log sending t.block sent_log
  pub ended : MatchResult sending
      (λ _. t.log ≡ after_flush sent_log answer) (λ e. (answer ≡ Err e) × (t.log ≡ sent_log))

-- what an Ok `flush()` has done: nothing is buffered, the inner writer received what was and has flushed all that it
-- received, and nothing went wrong but that writes were interrupted
pub record IsFlushed {S P : Type 0} (s t : Buffered S P) : Type 0 where
  pub empty : t.block.bytes ≡ []
  pub received : t.log.writes.received ≡ s.log.writes.received ++ s.block.bytes
  pub flushed : t.log.writes.flushed ≡ t.log.writes.received
  pub met : MetInterrupts s.log.writes t.log.writes

-- all that is promised of a flush with this answer
pub record WasFlushed {S P : Type 0} (tells : S → StreamLog) (trace : S → S → Type 0)
    (s : Buffered S P) (answer : Result (Unit {0}) Error) (t : Buffered S P) : Type 0 where
  pub steps : Flushes s answer t
  pub in_order : WritesInOrder s [] t
  pub ok : OnOk answer (IsFlushed s t)
  pub caused : IfErr answer (λ e. SendErrorCaused s.log.writes t.log.writes e)
  pub row : IfErr steps.sending (λ e. FailedRow tells trace e s.inner t.inner)
  pub not_flushed : OnErr answer (t.log.writes.flushed ≡ s.log.writes.flushed)
  pub grows : WriteLogGrows s.log.writes t.log.writes
  pub capacity : t.block.capacity ≡ s.block.capacity
  pub kind : t.block.kind ≡ s.block.kind
  pub whole : IsBlock t.block
  pub went : InnerWent tells trace s t

-- what any calls do, one after another, that accept these bytes and make no seek
pub record WritesAlong {S P : Type 0} (tells : S → StreamLog) (trace : S → S → Type 0) (rules : WriteRules P)
    (s : Buffered S P) (accepted : List ℕ) (t : Buffered S P) : Type 0 where
  pub in_order : WritesInOrder s accepted t
  pub calls : trace s.inner t.inner
  pub told : s.log ≡ tells s.inner → t.log ≡ tells t.inner
  pub noted : t.own_calls ≡ s.own_calls
  pub grows : WriteLogGrows s.log.writes t.log.writes
  pub capacity : s.block.capacity ≤ t.block.capacity
  pub kind : t.block.kind ≡ s.block.kind
  pub claims : rules.claims t.policy ≡ rules.claims s.policy

-- calls accepted these bytes, and the last was an Ok flush: nothing is buffered, and the inner writer received what was, then
-- what was accepted, and has flushed all that it received
pub record FlushedAlong {S P : Type 0} (tells : S → StreamLog) (trace : S → S → Type 0) (rules : WriteRules P)
    (s : Buffered S P) (accepted : List ℕ) (t : Buffered S P) : Type 0 where
  pub along : WritesAlong tells trace rules s accepted t
  pub empty : t.block.bytes ≡ []
  pub received : t.log.writes.received ≡ s.log.writes.received ++ (s.block.bytes ++ accepted)
  pub flushed : t.log.writes.flushed ≡ t.log.writes.received

-- the inner writer ended them with this error: it is its last fault, or a write took nothing of something
abbrev pub WriterStopped : WriteLog → WriteLog → Error → Type 0
WriterStopped old new e = record { before : List Error; faults : new.faults ≡ (old.faults ++ before) ++ e ∷ [] }
    ⊎ record { is_write_zero : error_kind e ≡ WriteZero; zero_writes : old.zero_writes < new.zero_writes }

-- calls accepted a beginning of these bytes, of which none is lost
pub record BegunAlong {S P : Type 0} (tells : S → StreamLog) (trace : S → S → Type 0) (rules : WriteRules P)
    (s : Buffered S P) (bytes : List ℕ) (t : Buffered S P) : Type 0 where
  pub accepted : List ℕ
  pub more : List ℕ
  pub all : bytes ≡ accepted ++ more
  pub along : WritesAlong tells trace rules s accepted t

-- calls accepted a beginning of these bytes, and then ended with this error of the inner writer
pub record StoppedAlong {S P : Type 0} (tells : S → StreamLog) (trace : S → S → Type 0) (rules : WriteRules P)
    (s : Buffered S P) (bytes : List ℕ) (e : Error) (t : Buffered S P) : Type 0 where
  pub begun : BegunAlong tells trace rules s bytes t
  pub why : WriterStopped s.log.writes t.log.writes e

-- at Ok they accepted these bytes, at an Err a beginning of them
abbrev pub FrontAlong : {S P A E : Type 0} → (S → StreamLog) → (S → S → Type 0) → WriteRules P → Buffered S P → List ℕ
    → Result A E → Buffered S P → Type 0
FrontAlong tells trace rules s bytes answer t = MatchResult answer
    (λ _. WritesAlong tells trace rules s bytes t) (λ _. BegunAlong tells trace rules s bytes t)

-- at Ok calls accepted these bytes, at an Err a beginning of them, and the error is the inner writer's
abbrev pub AllAlong : {S P A : Type 0} → (S → StreamLog) → (S → S → Type 0) → WriteRules P → Buffered S P → List ℕ
    → Result A Error → Buffered S P → Type 0
AllAlong tells trace rules s bytes answer t = MatchResult answer
    (λ _. WritesAlong tells trace rules s bytes t) (λ e. StoppedAlong tells trace rules s bytes e t)

-- at Ok the last was an Ok flush too
abbrev pub AllFlushed : {S P A : Type 0} → (S → StreamLog) → (S → S → Type 0) → WriteRules P → Buffered S P → List ℕ
    → Result A Error → Buffered S P → Type 0
AllFlushed tells trace rules s bytes answer t = MatchResult answer
    (λ _. FlushedAlong tells trace rules s bytes t) (λ e. StoppedAlong tells trace rules s bytes e t)

-- what `seek(to)` does: a flush, whose error it returns, and then one seek of the inner writer to the same place
pub record WasSought {S P : Type 0} (tells : S → StreamLog) (trace : S → S → Type 0) (readies : Readies)
    (s : Buffered S P) (to : SeekFrom) (answer : Result ℕ Error) (t : Buffered S P) : Type 0 where
  pub flushing : Result (Unit {0}) Error
  pub left : Buffered S P
  pub flushed : WasFlushed tells trace s flushing left
  pub ended : MatchResult flushing
      (λ _. SeekTells readies left.log to answer t.log) (λ e. (answer ≡ Err e) × (t ≡ left))
  pub policy : t.policy ≡ s.policy
  pub block : t.block ≡ left.block
  pub told : t.log ≡ tells t.inner
  pub noted : t.own_calls ≡ s.own_calls
  pub in_order : WritesInOrder s [] t
  pub grows : WriteLogGrows s.log.writes t.log.writes
  -- all is flushed, and the inner writer was asked once to seek, and gave this answer; or an error is that of the flush, and
  -- it was not asked
  pub asked : (IsFlushed s t × (t.log.seeks.calls ≡ s.log.seeks.calls ++ (to, answer) ∷ []))
      ⊎ IsErrAnd answer (λ e. SendErrorCaused s.log.writes t.log.writes e × (t.log.seeks.calls ≡ s.log.seeks.calls))
  pub capacity : t.block.capacity ≡ s.block.capacity
  pub whole : IsBlock t.block
