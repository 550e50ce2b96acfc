-- Laws of a buffered writer, for the proofs of those who call one.
use Rattle.std.specs.Prelude.{◌≡◌, ℕ, zero, suc, ◌+◌, ◌-◌, ◌<◌, ◌≤◌, ◌⊎◌, List, [], ◌∷◌, ◌++◌, length, take, drop, Result, Ok, Err}
use Rattle.std.proofs.Common.{sym, ap, subst, refl, ◌∙◌, arith, inl, inr, append_assoc, append-nil}
use Rattle.std.proofs.Math.Seq.{take-add}
use Rattle.std.proofs.lemmas.Slice.{between_to_end}
use Rattle.std.proofs.lemmas.Bool.{cases_lt}
use Rattle.std.proofs.lemmas.List.{length-append, length-take, take-append-drop}
use Rattle.std.proofs.lemmas.List.Elements.{All-nil}
use Rattle.std.specs.declared.io.Error.{Error}
use Rattle.std.specs.declared.io.ErrorKind.TheVariants.{WriteZero}
use Rattle.redux_buffer.specs.Block.{Block}
use Rattle.redux_buffer.specs.Transfer.{Sends}
use Rattle.redux_buffer.specs.Faults.{OnlyInterrupted, OnlyInterrupted-none, FaultedAfter-after, IsInterrupt, MetInterrupts, MetInterrupts-none, MetInterrupts-joins, MetInterrupts-err, TookNothing, SendErrorCaused}
use Rattle.redux_buffer.specs.Retried.{InterruptedSteps-before, Retried}
use Rattle.redux_buffer.specs.StreamLog.{StreamLog, WriteLog, after_write, with_zero, zero_of_some, zero_of_none}
use Rattle.buffer_redux.specs.declared.policy.FlushAmt.{FlushAmt}
use Rattle.buffer_redux.specs.Policy.{WriteRules}
use Rattle.buffer_redux.specs.Buffered.{Buffered, GoesPast, StaysInside, InnerWent}
use Rattle.buffer_redux.specs.BufWriter.{WritesInOrder, FlushesAmount, TakesIn, Wrote, Writes, WriteErrorCaused}
use Rattle.buffer_redux.specs.WriteAll.{OneWrite, WriteTurns, WritesAll}

-- no call accepts nothing, and two traces of calls join
pub WritesInOrder-none : {S P : Type 0} (s : Buffered S P) → WritesInOrder s [] s
WritesInOrder-none s = record {
  sent = [];
  received = sym (append-nil s.log.writes.received);
  equal = sym (append-nil s.block.bytes);
  consumed = omega arith;
}

pub WritesInOrder-joins : {S P : Type 0} (s m t : Buffered S P) (a b : List ℕ)
    → WritesInOrder s a m → WritesInOrder m b t → WritesInOrder s (a ++ b) t
WritesInOrder-joins s m t a b p q = record {
  sent = p.sent ++ q.sent;
  received = q.received ∙ ap (λ l. l ++ q.sent) p.received ∙ append_assoc s.log.writes.received p.sent q.sent;
  equal =
      append_assoc p.sent q.sent t.block.bytes ∙ ap (λ l. p.sent ++ l) q.equal
      ∙ sym (append_assoc p.sent m.block.bytes b)
      ∙ ap (λ l. l ++ b) p.equal ∙ append_assoc s.block.bytes a b;
  consumed = omega (arith, p.consumed, q.consumed, length-append p.sent q.sent);
}

-- a call that accepts nothing more
pub WritesInOrder-then : {S P : Type 0} (s m t : Buffered S P) (a : List ℕ)
    → WritesInOrder s a m → WritesInOrder m [] t → WritesInOrder s a t
WritesInOrder-then s m t a p q = subst (λ l. WritesInOrder s l t) (append-nil a) (WritesInOrder-joins s m t a [] p q)

-- sending accepts nothing, and loses nothing
pub WritesInOrder-sends : {S P : Type 0} (s t : Buffered S P) (amount : ℕ) (answer : Result (Unit {0}) Error)
    → Sends amount s.block s.log answer t.block t.log → WritesInOrder s [] t
WritesInOrder-sends s t amount answer f = record {
  sent = take f.count s.block.bytes;
  received = f.sent.received;
  equal =
      ap (λ l. take f.count s.block.bytes ++ l) f.sent.dropped.bytes
      ∙ take-append-drop f.count s.block.bytes ∙ sym (append-nil s.block.bytes);
  consumed = omega (arith, f.sent.dropped.consumed, length-take f.count s.block.bytes);
}

-- the same as one equation: what the writer holds gained the accepted bytes
pub WritesInOrder-contents : {S P : Type 0} (s t : Buffered S P) (accepted : List ℕ) → WritesInOrder s accepted t
    → t.log.writes.received ++ t.block.bytes ≡ (s.log.writes.received ++ s.block.bytes) ++ accepted
WritesInOrder-contents s t accepted p =
    ap (λ l. l ++ t.block.bytes) p.received ∙ append_assoc s.log.writes.received p.sent t.block.bytes
    ∙ ap (λ l. s.log.writes.received ++ l) p.equal ∙ sym (append_assoc s.log.writes.received s.block.bytes accepted)

-- from an empty buffer on, what was received, then what is buffered, is what was accepted
pub WritesInOrder-fresh : {S P : Type 0} (s t : Buffered S P) (accepted : List ℕ) → s.block.bytes ≡ []
    → WritesInOrder s accepted t
    → t.log.writes.received ++ t.block.bytes ≡ s.log.writes.received ++ accepted
WritesInOrder-fresh s t accepted none p =
    WritesInOrder-contents s t accepted p ∙ ap (λ l. (s.log.writes.received ++ l) ++ accepted) none
    ∙ ap (λ l. l ++ accepted) (append-nil s.log.writes.received)

-- a turn of a loop that writes a slice piece by piece: behind the first `at` bytes, n more were accepted
pub WritesInOrder-piece : {S P : Type 0} (s m t : Buffered S P) (bytes : List ℕ) (at n : ℕ) → at ≤ length bytes
    → WritesInOrder s (take at bytes) m → WritesInOrder m (take n (take (length bytes - at) (drop at bytes))) t
    → WritesInOrder s (take (at + n) bytes) t
WritesInOrder-piece s m t bytes at n within before wrote =
    let rest : take (length bytes - at) (drop at bytes) ≡ drop at bytes =
    between_to_end bytes at (length bytes) (omega arith) in
    subst (λ l. WritesInOrder s l t) (sym (take-add at n bytes))
    (WritesInOrder-joins s m t (take at bytes) (take n (drop at bytes)) before
    (subst (λ l. WritesInOrder m (take n l) t) rest wrote))

-- two traces of calls of the stream inside join
pub InnerWent-joins : {S P : Type 0} (tells : S → StreamLog) (trace : S → S → Type 0)
    → ((u v w : S) → trace u v → trace v w → trace u w) → (a b c : Buffered S P)
    → InnerWent tells trace a b → InnerWent tells trace b c → InnerWent tells trace a c
InnerWent-joins tells trace joins a b c p q = record {
  calls = joins a.inner b.inner c.inner p.calls q.calls;
  told_before = p.told_before;
  told_after = q.told_after;
  noted = q.noted ∙ p.noted;
}

-- a flush of an amount does nothing, or sends; a write goes past the buffer, or into it
pub flush_ways : (amount len : ℕ) → ((amount ≡ 0) ⊎ (len < amount)) ⊎ ((0 < amount) × (amount ≤ len))
flush_ways amount len = elim (cases_lt 0 amount) [
  | inl some ↦ elim (cases_lt len amount) [ inl past ↦ inl (inr past) | inr fits ↦ inr (some, fits) ]
  | inr none ↦ inl (inl (omega (arith, none)))
]

pub ways_in : (b : Block) (incoming : ℕ) → GoesPast b incoming ⊎ StaysInside b incoming
ways_in b incoming = elim (cases_lt 0 (length b.bytes)) [
  | inl some ↦ inr (inl some)
  | inr none ↦ elim (cases_lt incoming b.capacity) [
    | inl inside ↦ inr (inr inside)
    | inr past ↦ inl (omega (arith, none), past)
  ]
]

-- what an Ok flush of an amount met: interrupted writes alone
pub FlushesAmount-met : {S P : Type 0} (s t : Buffered S P) (amount : ℕ) → FlushesAmount amount s (Ok tt) t
    → MetInterrupts s.log.writes t.log.writes
FlushesAmount-met s t amount f = elim (flush_ways amount (length s.block.bytes)) [
  | inl none ↦ record {
    interrupts = [];
    only = subst (λ l. OnlyInterrupted [] s.log.writes l.writes) (sym (f.idle none).told) (OnlyInterrupted-none s.log.writes);
  }
  | inr some ↦ (let sends = f.sends some.0 some.1 in record { interrupts = sends.interrupts; only = sends.ok })
]

-- the rules have nothing flushed after a write, as those of `StdPolicy` have
abbrev pub FlushesNothingAfter : {P : Type 0} → WriteRules P → Type 0
FlushesNothingAfter {P} rules =
    (p : P) (b : Block) (a : FlushAmt) (p' : P) → rules.after_write p b a p' → a.0 ≡ 0

-- a call of the writer inside that took n of bs
direct_met : (es : List Error) (n : ℕ) (bs : List ℕ) (a b c : WriteLog) → OnlyInterrupted es a b → c.faults ≡ b.faults
    → c.zero_writes ≡ with_zero b.zero_writes bs (Ok n)
    → OnlyInterrupted es a c ⊎ ((n ≡ 0) × (0 < length bs) × TookNothing es a c WriteZero)
direct_met es n bs a b c only faults counted = elim (cases_lt 0 n) [
  | inl some ↦ inl (record {
    interrupted = only.interrupted;
    faults = faults ∙ only.faults;
    zero_writes = counted
        ∙ zero_of_some n bs b.zero_writes (inl some) ∙ only.zero_writes;
  })
  | inr none ↦ elim (cases_lt 0 (length bs)) [
    | inl room ↦ inr (
      omega (arith, none),
      room,
      record {
        is_write_zero = refl;
        interrupted = only.interrupted;
        faults = faults ∙ only.faults;
        zero_writes = counted ∙ zero_of_none n bs b.zero_writes (omega (arith, none)) room
            ∙ ap (λ z. z + 1) only.zero_writes;
      },
    )
    | inr empty ↦ inl (record {
      interrupted = only.interrupted;
      faults = faults ∙ only.faults;
      zero_writes = counted
          ∙ zero_of_some n bs b.zero_writes (inr (omega (arith, empty))) ∙ only.zero_writes;
    })
  ]
]

-- what an Ok write met where nothing is flushed after it: interrupted writes, and then perhaps one that took nothing of
-- something, where that is what it returns
pub Wrote-met : {S P : Type 0} (rules : WriteRules P) (s : Buffered S P) (bs : List ℕ) (n : ℕ) (t : Buffered S P)
    → FlushesNothingAfter rules → Wrote rules s bs n t
    → (interrupts : List Error) × (OnlyInterrupted interrupts s.log.writes t.log.writes
    ⊎ ((n ≡ 0) × (0 < length bs) × TookNothing interrupts s.log.writes t.log.writes WriteZero))
Wrote-met rules s bs n t nothing_after wrote =
    let p = wrote.prepared in
    let first = FlushesAmount-met p.seen wrote.before (p.amount.0) p.flush in
    let still : t.log ≡ wrote.after.log = (wrote.finished.flush.idle
    (inl (nothing_after _ _ wrote.finished.amount _ wrote.finished.asked.allowed))).told in
    let only : OnlyInterrupted first.interrupts s.log.writes wrote.before.log.writes =
    subst (λ l. OnlyInterrupted first.interrupts l.writes wrote.before.log.writes) p.told first.only in
    let last : OnlyInterrupted first.interrupts s.log.writes wrote.after.log.writes
    ⊎ ((n ≡ 0) × (0 < length bs) × TookNothing first.interrupts s.log.writes wrote.after.log.writes WriteZero) =
    elim (ways_in wrote.before.block (length bs)) [
      | inl past ↦ (
          let told = (wrote.took_in.past past).told in
          direct_met first.interrupts n bs s.log.writes wrote.before.log.writes wrote.after.log.writes only
          (ap (λ l. l.writes.faults) told) (ap (λ l. l.writes.zero_writes) told)
          )
      | inr inside ↦ inl
          (subst (λ l. OnlyInterrupted first.interrupts s.log.writes l.writes) (sym (wrote.took_in.inside inside).told) only)
    ] in (
      first.interrupts,
      subst (λ l. OnlyInterrupted first.interrupts s.log.writes l.writes
          ⊎ ((n ≡ 0) × (0 < length bs) × TookNothing first.interrupts s.log.writes l.writes WriteZero)) (sym still) last,
    )

module _ {S P : Type 0} (rules : WriteRules P) where
  flush_caused : (s t : Buffered S P) (amount : ℕ) (e : Error)
      → FlushesAmount amount s (Err e) t → SendErrorCaused s.log.writes t.log.writes e
  flush_caused s t amount e f = elim (flush_ways amount (length s.block.bytes)) [
    | inl none ↦ (let odd = (f.idle none).answered in cc)
    | inr some ↦ (
        let sends = f.sends some.0 some.1 in
        record { interrupts = sends.interrupts; cause = sends.failed.cause }
        )
  ]

  direct_fault : (bs : List ℕ) (m t : Buffered S P) (e : Error) → TakesIn bs m (Err e) t
      → t.log ≡ after_write m.log bs (Err e)
  direct_fault bs m t e f = elim (ways_in m.block (length bs)) [
    | inl past ↦ (f.past past).told
    | inr inside ↦ (let odd = (f.inside inside).answered in cc)
  ]

  -- an error that the inner writer caused after the policy was asked
  after_asked : (s m t : Buffered S P) (e : Error) → m.log ≡ s.log
      → SendErrorCaused m.log.writes t.log.writes e → SendErrorCaused s.log.writes t.log.writes e
  after_asked s m t e told caused = subst (λ l. SendErrorCaused l.writes t.log.writes e) told caused

  -- why a write failed
  pub Writes-caused : (s : Buffered S P) (bs : List ℕ) (answer : Result ℕ Error) (t : Buffered S P)
      → Writes rules s bs answer t → WriteErrorCaused rules s bs answer t
  Writes-caused s bs (Ok n) t wrote = tt
  Writes-caused s bs (Err e) t (inl refused) = inl refused
  Writes-caused s bs (Err e) t (inr (inl p)) =
      inr (after_asked s p.seen t e p.told (flush_caused p.seen t (p.amount.0) e p.flush))
  Writes-caused s bs (Err e) t (inr (inr faulted)) =
      let p = faulted.prepared in
      let m = faulted.before in
      let only = FlushesAmount-met p.seen m (p.amount.0) p.flush in
      let told = direct_fault bs m t e faulted.took_in in
      inr (after_asked s p.seen t e p.told (record {
        interrupts = only.interrupts ++ [];
        cause = inr (FaultedAfter-after only.interrupts [] p.seen.log.writes m.log.writes t.log.writes
            e only.only (record {
              interrupted = All-nil IsInterrupt;
              faults = ap (λ l. l.writes.faults) told
                  ∙ ap (λ l. l ++ e ∷ []) (sym (append-nil m.log.writes.faults));
              zero_writes = ap (λ l. l.writes.zero_writes) told;
            }));
      }))

  module _ (nothing_after : FlushesNothingAfter rules) where
    -- a write that was interrupted, one that took some bytes, and such a one behind others
    interrupted_met : (s : Buffered S P) (bs : List ℕ) (e : Error) (t : Buffered S P) → IsInterrupt e
        → Writes rules s bs (Err e) t → MetInterrupts s.log.writes t.log.writes
    interrupted_met s bs e t is failed = elim (Writes-caused s bs (Err e) t failed) [
      | inl refused ↦ subst (λ l. MetInterrupts s.log.writes l.writes) (sym refused.told) (MetInterrupts-none s.log.writes)
      | inr caused ↦ MetInterrupts-err s.log.writes t.log.writes e is caused
    ]

    took_met : (s : Buffered S P) (bs : List ℕ) (n : ℕ) (t : Buffered S P) → 0 < n → Wrote rules s bs n t
        → MetInterrupts s.log.writes t.log.writes
    took_met s bs n t some wrote =
        let met = Wrote-met rules s bs n t nothing_after wrote in
        elim met.1 [
          | inl only ↦ record { interrupts = met.0; only = only }
          | inr nothing ↦ absurd (omega (arith, some, nothing.0))
        ]

    module _ (tells : S → StreamLog) (trace : S → S → Type 0) where
      row_met : (s : Buffered S P) (bs : List ℕ) (n : ℕ) (t : Buffered S P) → 0 < n
          → Retried (OneWrite tells trace rules bs) s (Ok n) t → MetInterrupts s.log.writes t.log.writes
      row_met s bs n t some row =
          InterruptedSteps-before (OneWrite tells trace rules bs) (λ u. MetInterrupts u.log.writes t.log.writes)
          (λ u e m is one met. MetInterrupts-joins u.log.writes m.log.writes t.log.writes
          (interrupted_met u bs e m is one.steps) met)
          row.count s row.last row.interrupted (took_met row.last bs n t some row.went.steps)

      turns_met : (bs : List ℕ) (turns count : ℕ) (s t : Buffered S P)
          → WriteTurns tells trace rules bs turns count s t → MetInterrupts s.log.writes t.log.writes
      turns_met bs zero count s t run =
          subst (λ x. MetInterrupts s.log.writes x.log.writes) run.1 (MetInterrupts-none s.log.writes)
      turns_met bs (suc turns) count s t (before, m, run, turn) =
          MetInterrupts-joins s.log.writes m.log.writes t.log.writes (turns_met bs turns before s m run)
          (row_met m (drop before bs) turn.further t turn.some turn.row)

      -- an Ok write of all bytes met interrupted writes alone
      pub WritesAll-met : (s : Buffered S P) (bs : List ℕ) (t : Buffered S P)
          → WritesAll tells trace rules s bs (Ok tt) t → MetInterrupts s.log.writes t.log.writes
      WritesAll-met s bs t all = subst (λ x. MetInterrupts s.log.writes x.log.writes) (sym all.ended.1)
          (turns_met bs all.turns all.count s all.last all.run)
