-- What a write of all bytes promises: a write after another, of what is left, where one was short or interrupted.
use Rattle.std.specs.Prelude.{◌≡◌, ℕ, ◌+◌, ◌<◌, ◌≤◌, ◌⊎◌, List, length, take, drop, Result, Ok, MatchResult, IfErr, true, zero, suc}
use Rattle.std.specs.Io.{WritesAtMost}
use Rattle.std.specs.IoError.{error_kind}
use Rattle.std.specs.declared.io.Error.{Error}
use Rattle.std.specs.declared.io.ErrorKind.TheVariants.{WriteZero}
use Rattle.redux_buffer.specs.Block.{IsBlock}
use Rattle.redux_buffer.specs.Retried.{Retried}
use Rattle.redux_buffer.specs.StreamLog.{StreamLog}
use Rattle.buffer_redux.specs.declared.policy.FlushAmt.{FlushAmt}
use Rattle.buffer_redux.specs.Policy.{WriteRules, BeforeWrite}
use Rattle.buffer_redux.specs.AllBytes.{EndsBy}
use Rattle.buffer_redux.specs.Buffered.{Buffered, InnerWent}
use Rattle.buffer_redux.specs.BufWriter.{WritesInOrder, WriteRows, Writes, Wrote, WriterKeeps, WriteRefused, NoSpace, WriterStopped}

-- one write of these bytes, with what `write` promises, of which the rest follows
pub record OneWrite {S P : Type 0} (tells : S → StreamLog) (trace : S → S → Type 0) (rules : WriteRules P) (bs : List ℕ)
    (s : Buffered S P) (answer : Result ℕ Error) (t : Buffered S P) : Type 0 where
  pub bound : WritesAtMost answer bs
  pub steps : Writes rules s bs answer t
  pub rows : WriteRows tells trace rules s bs answer t
  pub whole : IsBlock s.block × IsBlock t.block
  pub went : InnerWent tells trace s t

-- this many turns, one after another, took the first `count` bytes in: each a write of what was left, made again where it was
-- interrupted, that took some
abbrev pub WriteTurns : {S P : Type 0} → (S → StreamLog) → (S → S → Type 0) → WriteRules P → List ℕ → ℕ → ℕ → Buffered S P
    → Buffered S P → Type 0
WriteTurns tells trace rules bs zero count s t = (count ≡ 0) × (s ≡ t)
WriteTurns {S} {P} tells trace rules bs (suc k) count s t =
    (before : ℕ) × (m : Buffered S P) × WriteTurns tells trace rules bs k before s m × record {
      fewer : before < length bs;
      further : ℕ;
      some : 0 < further;
      row : Retried (OneWrite tells trace rules (drop before bs)) m (Ok further) t;
      adds : count ≡ before + further;
    }

-- just these bytes were taken in, and none was lost or changed place
pub record TookFront {S P : Type 0} (tells : S → StreamLog) (trace : S → S → Type 0) (rules : WriteRules P)
    (s : Buffered S P) (front : List ℕ) (t : Buffered S P) : Type 0 where
  pub in_order : WritesInOrder s front t
  pub keeps : WriterKeeps tells trace rules s t

-- some first bytes were taken in
pub record TookBeginning {S P : Type 0} (bs : List ℕ) (s t : Buffered S P) : Type 0 where
  pub count : ℕ
  pub within : count ≤ length bs
  pub in_order : WritesInOrder s (take count bs) t

-- a write of the bytes that were left, which were some, made again where it was interrupted, ended it
abbrev pub LastTurnFailed : {S P : Type 0} → (S → StreamLog) → (S → S → Type 0) → WriteRules P → List ℕ → Error
    → Buffered S P → Buffered S P → Type 0
LastTurnFailed tells trace rules rest e m t = record {
  some : 0 < length rest;
  answer : Result ℕ Error;
  ends : EndsBy WriteZero answer e;
  row : Retried (OneWrite tells trace rules rest) m answer t;
}

-- a write of these bytes found no space, and the policy's answer made none
abbrev pub FoundNoSpace : {S P : Type 0} → WriteRules P → Buffered S P → List ℕ → Error → Buffered S P → Type 0
FoundNoSpace rules m rest e t =
    (error_kind e ≡ WriteZero) × (wrote : Wrote rules m rest 0 t) × NoSpace m (length rest) wrote.before

-- why a write of all bytes failed: the inner writer's error ended it; or, where just some first bytes had been taken in, the
-- policy refused the write of those that were left, or that found no space, and the policy's answer made none
abbrev pub WriteAllErrorCaused : {S P : Type 0} → (S → StreamLog) → (S → S → Type 0) → WriteRules P → Buffered S P → List ℕ
    → Error → Buffered S P → Type 0
WriteAllErrorCaused {S} {P} tells trace rules s bs e t = WriterStopped s.log.writes t.log.writes e ⊎ record {
  count : ℕ;
  fewer : count < length bs;
  before : Buffered S P;
  begun : TookFront tells trace rules s (take count bs) before;
  why : WriteRefused rules before (drop count bs) e t ⊎ FoundNoSpace rules before (drop count bs) e t;
}

-- what `write_all(bs)` does: turns took the first `count` bytes in. At `Ok` these are all; at `Err` one more ended it, which
-- took nothing in
pub record WritesAll {S P : Type 0} (tells : S → StreamLog) (trace : S → S → Type 0) (rules : WriteRules P)
    (s : Buffered S P) (bs : List ℕ) (answer : Result (Unit {0}) Error) (t : Buffered S P) : Type 0 where
  pub turns : ℕ
  pub count : ℕ
  pub within : count ≤ length bs
  pub last : Buffered S P
  pub run : WriteTurns tells trace rules bs turns count s last
  pub first : TookFront tells trace rules s (take count bs) last
  pub front : TookFront tells trace rules s (take count bs) t
  pub ended : MatchResult answer (λ _. (count ≡ length bs) × (t ≡ last))
      (λ e. LastTurnFailed tells trace rules (drop count bs) e last t)
  pub caused : IfErr answer (λ e. WriteAllErrorCaused tells trace rules s bs e t)
  -- under a steady policy it is the inner writer's
  pub steadily : (rules.claims s.policy).steady ≡ true → IfErr answer (WriterStopped s.log.writes t.log.writes)

-- the policy was asked before so many incoming bytes and answered this amount, and nothing else was done
pub record AskedFirst {S P : Type 0} (tells : S → StreamLog) (rules : WriteRules P) (incoming amount : ℕ)
    (s m : Buffered S P) : Type 0 where
  pub answer : FlushAmt
  pub is : answer.0 ≡ amount
  pub asked : BeforeWrite rules s.policy s.block incoming (Ok answer) m.policy m.block
  pub whole : IsBlock s.block
  pub inner : m.inner ≡ s.inner
  pub told_before : s.log ≡ tells s.inner
  pub told : m.log ≡ s.log
  pub noted : m.own_calls ≡ s.own_calls
