-- What a buffered writer tells of its own calls, and what any of them, one after another, may do to it.
use Rattle.std.specs.Prelude.{◌≡◌, ℕ, ◌+◌, ◌≤◌, ◌⊎◌, List, [], ◌∷◌, ◌++◌, length, true, Result, Ok, Err}
use Rattle.std.proofs.Common.{refl, ap, ◌∙◌, arith, le_refl, le_trans}
use Rattle.std.specs.declared.io.Error.{Error}
use Rattle.std.specs.declared.io.ErrorKind.TheVariants.{WriteZero}
use Rattle.redux_buffer.specs.Block.{IsBlock}
use Rattle.redux_buffer.specs.Faults.{MetInterrupts, MetInterrupts-joins, MetInterrupts-none, MetInterrupts-parts, TookNothing, SendErrorCaused}
use Rattle.redux_buffer.specs.StreamLog.{StreamLog, WriteLog, Readies, after_write, after_flush}
use Rattle.redux_buffer.specs.LogGrows.{WriteLogGrows, WriteLogGrows-none, WriteLogGrows-joins, WritesGoOn, WritesGoOn-of}
use Rattle.buffer_redux.specs.Policy.{WriteRules, std_write_rules}
use Rattle.buffer_redux.specs.Buffered.{Buffered, with_calls}
use Rattle.buffer_redux.specs.BufWriter.{LeavesCapacity, WasFlushed, WriteRows, Writes}
use Rattle.buffer_redux.specs.WriterLaws.{FlushesNothingAfter}

-- a buffered writer tells that it received what the inner writer did, and then what is buffered, and flushed what the inner
-- writer did; the rest was noted call by call
abbrev pub writer_log : {S P : Type 0} → Buffered S P → StreamLog
writer_log b = record b.own_calls {
  writes = record b.own_calls.writes {
    received = b.log.writes.received ++ b.block.bytes;
    flushed = b.log.writes.flushed;
  };
}

-- a seek flushes all that was received, and a failed one that or nothing
abbrev pub flushes_received : Readies
flushes_received before (Ok n) after =
    after ≡ record before { writes = record before.writes { flushed = before.writes.received } }
flushes_received before (Err e) after =
    (after ≡ before) ⊎ (after ≡ record before { writes = record before.writes { flushed = before.writes.received } })

-- the faults, and the writes that took nothing of something
abbrev pub failures : WriteLog → ℕ
failures log = length log.faults + log.zero_writes

-- a policy under which no failure is kept back: it is steady, and has nothing flushed after a write
abbrev pub TellsFailures : {P : Type 0} → WriteRules P → P → Type 0
TellsFailures rules p = ((rules.claims p).steady ≡ true) × FlushesNothingAfter rules

-- the lists and counts only go on, its own and the inner writer's, which was flushed no more often than it was itself; no more
-- bytes were consumed than that received. The buffer grew only where the policy may change its capacity. Under a steady policy
-- it failed no more often than the inner writer; and where no failure is kept back, the inner writer was at most interrupted
-- where it was so itself
pub record WriterWent {S P : Type 0} (trace : S → S → Type 0) (rules : WriteRules P) (s t : Buffered S P)
    : Type 0 where
  pub inner : trace s.inner t.inner
  pub grows : WriteLogGrows s.log.writes t.log.writes
  pub own_grows : WriteLogGrows (writer_log s).writes (writer_log t).writes
  pub consumed : t.block.consumed + length s.log.writes.received ≤ s.block.consumed + length t.log.writes.received
  pub capacity : s.block.capacity ≤ t.block.capacity
  pub same_capacity : LeavesCapacity rules → t.block.capacity ≡ s.block.capacity
  pub kind : t.block.kind ≡ s.block.kind
  pub claims : rules.claims t.policy ≡ rules.claims s.policy
  pub flushes : t.log.writes.flushes + s.own_calls.writes.flushes ≤ s.log.writes.flushes + t.own_calls.writes.flushes
  pub fails : (rules.claims s.policy).steady ≡ true
      → failures t.own_calls.writes + failures s.log.writes ≤ failures s.own_calls.writes + failures t.log.writes
  pub met : TellsFailures rules s.policy → MetInterrupts s.own_calls.writes t.own_calls.writes
      → MetInterrupts s.log.writes t.log.writes

-- one call, a write or a flush, step after step, and the row in which a send of it failed. Under a steady policy an error that
-- it returned is the one that the inner writer returned last, or came of a write that took nothing of something; and so did an
-- answer that took nothing of something. Before that came interrupted writes alone
pub record WriterCalled {S P : Type 0} (tells : S → StreamLog) (trace : S → S → Type 0) (rules : WriteRules P)
    (s t : Buffered S P) : Type 0 where
  pub steps : ((bytes : List ℕ) × (answer : Result ℕ Error)
      × Writes rules s bytes answer t × (t.own_calls ≡ after_write s.own_calls bytes answer)
      × WriteRows tells trace rules s bytes answer (with_calls t s.own_calls))
      ⊎ ((answer : Result (Unit {0}) Error) × WasFlushed tells trace s answer (with_calls t s.own_calls)
      × (t.own_calls ≡ after_flush s.own_calls answer))
  pub fault : (rules.claims s.policy).steady ≡ true → (e : Error)
      → t.own_calls.writes.faults ≡ s.own_calls.writes.faults ++ e ∷ []
      → SendErrorCaused s.log.writes t.log.writes e
  pub nothing : (rules.claims s.policy).steady ≡ true
      → t.own_calls.writes.zero_writes ≡ s.own_calls.writes.zero_writes + 1
      → (interrupts : List Error) × TookNothing interrupts s.log.writes t.log.writes WriteZero
  pub whole : IsBlock t.block

pub LeavesCapacity-std : {P : Type 0} → LeavesCapacity (std_write_rules {P = P})
LeavesCapacity-std p b incoming (Ok a) p' b' allowed = ap (λ x. x.capacity) allowed.1
LeavesCapacity-std p b incoming (Err e) p' b' allowed = absurd allowed

module _ {S P : Type 0} (trace : S → S → Type 0) (rules : WriteRules P) where
  -- the interrupted calls of a trace are those of its parts
  parts_of : (a b c : Buffered S P) → WriteLogGrows (writer_log a).writes (writer_log b).writes
      → WriteLogGrows (writer_log b).writes (writer_log c).writes → MetInterrupts a.own_calls.writes c.own_calls.writes
      → MetInterrupts a.own_calls.writes b.own_calls.writes × MetInterrupts b.own_calls.writes c.own_calls.writes
  parts_of a b c p q met =
      let parts = MetInterrupts-parts (writer_log a).writes (writer_log b).writes (writer_log c).writes p q
      (record {
        interrupts = met.interrupts;
        only = record {
          interrupted = met.only.interrupted;
          faults = met.only.faults;
          zero_writes = met.only.zero_writes;
        };
      }) in (
        record {
          interrupts = parts.0.interrupts;
          only = record {
            interrupted = parts.0.only.interrupted;
            faults = parts.0.only.faults;
            zero_writes = parts.0.only.zero_writes;
          };
        },
        record {
          interrupts = parts.1.interrupts;
          only = record {
            interrupted = parts.1.only.interrupted;
            faults = parts.1.only.faults;
            zero_writes = parts.1.only.zero_writes;
          };
        },
      )

  pub WriterWent-none : ((w : S) → trace w w) → (s : Buffered S P) → WriterWent trace rules s s
  WriterWent-none none s = record {
    inner = none s.inner;
    grows = WriteLogGrows-none s.log.writes;
    own_grows = WriteLogGrows-none (writer_log s).writes;
    consumed = le_refl _;
    capacity = le_refl _;
    same_capacity = λ leaves. refl;
    kind = refl;
    claims = refl;
    flushes = le_refl _;
    fails = λ steady. le_refl _;
    met = λ tells only. MetInterrupts-none s.log.writes;
  }

  pub WriterWent-joins : ((u v w : S) → trace u v → trace v w → trace u w) → (a b c : Buffered S P)
      → WriterWent trace rules a b → WriterWent trace rules b c → WriterWent trace rules a c
  WriterWent-joins joins a b c p q =
      let still : TellsFailures rules a.policy → TellsFailures rules b.policy =
      λ tells. (ap (λ x. x.steady) p.claims ∙ tells.0, tells.1) in
      let parts : MetInterrupts a.own_calls.writes c.own_calls.writes
      → MetInterrupts a.own_calls.writes b.own_calls.writes × MetInterrupts b.own_calls.writes c.own_calls.writes =
      parts_of a b c p.own_grows q.own_grows in
      record {
        inner = joins a.inner b.inner c.inner p.inner q.inner;
        grows = WriteLogGrows-joins a.log.writes b.log.writes c.log.writes p.grows q.grows;
        own_grows =
            WriteLogGrows-joins (writer_log a).writes (writer_log b).writes (writer_log c).writes p.own_grows q.own_grows;
        consumed = omega (arith, p.consumed, q.consumed);
        capacity = le_trans p.capacity q.capacity;
        same_capacity = λ leaves. q.same_capacity leaves ∙ p.same_capacity leaves;
        kind = q.kind ∙ p.kind;
        claims = q.claims ∙ p.claims;
        flushes = omega (arith, p.flushes, q.flushes);
        fails = λ steady. omega (
          arith,
          p.fails steady,
          q.fails (ap (λ x. x.steady) p.claims ∙ steady),
        );
        met = λ tells only. MetInterrupts-joins a.log.writes b.log.writes c.log.writes
            (p.met tells (parts only).0) (q.met (still tells) (parts only).1);
      }

  pub WriterWent-grows : (s t : Buffered S P) → WriterWent trace rules s t
      → WritesGoOn (writer_log s) (writer_log t)
  WriterWent-grows s t went = WritesGoOn-of (writer_log s) (writer_log t) went.own_grows
