-- What every Ok write returned and left, for the proofs of those who call one.
use Rattle.std.specs.Prelude.{◌≡◌, ℕ, ◌-◌, ◌<◌, ◌≤◌, List, [], ◌∷◌, ◌++◌, length, take, drop, min, nat_lt, if◌then◌else◌, Result, Ok, Err, OnOk, IfOk, IfErr}
use Rattle.std.proofs.Common.{refl, sym, ap, subst, ◌∙◌, arith, rules, inl, inr, length-append}
use Rattle.std.proofs.lemmas.Bool.{cases_lt, lt-ltb, le-ltb}
use Rattle.std.specs.declared.io.Error.{Error}
use Rattle.redux_buffer.specs.Block.{usable}
use Rattle.redux_buffer.specs.Faults.{SendErrorCaused}
use Rattle.redux_buffer.specs.LogGrows.{zero_rises}
use Rattle.redux_buffer.specs.StreamLog.{WriteLog, after_write}
use Rattle.buffer_redux.specs.Policy.{WriteRules}
use Rattle.buffer_redux.specs.Buffered.{Buffered, GoesPast, StaysInside, with_policy}
use Rattle.buffer_redux.specs.BufWriter.{FlushesAmount, CopiesIn, Wrote, Writes}
use Rattle.buffer_redux.specs.WriterLaws.{flush_ways, ways_in, FlushesAmount-met}

-- what the flush of an amount leaves: the bytes behind the first amount, or all of them where there are fewer; where it
-- failed, the bytes that the writer took are gone, and no more
pub record FlushLeaves {S P : Type 0} (amount : ℕ)
    (s : Buffered S P) (answer : Result (Unit {0}) Error) (t : Buffered S P) : Type 0 where
  pub enough : OnOk answer (amount ≤ length s.block.bytes → t.block.bytes ≡ drop amount s.block.bytes)
  pub fewer : OnOk answer (length s.block.bytes < amount → t.block.bytes ≡ s.block.bytes)
  pub failed : IfErr answer (λ e. (count : ℕ) × (count ≤ amount)
      × (t.log.writes.received ≡ s.log.writes.received ++ take count s.block.bytes)
      × (t.block.bytes ≡ drop count s.block.bytes) × SendErrorCaused s.log.writes t.log.writes e)

-- what an Ok write returned: as many of the bytes as one call of the inner writer took, exactly where the first flush
-- left nothing and they fill the capacity; else the smaller of their number and the space that the copy found: what could be
-- written behind the bytes, or all that was free where nothing could
pub record WriteReturns {S P : Type 0} (bs : List ℕ) (n : ℕ) (before after : Buffered S P) : Type 0 where
  pub direct : GoesPast before.block (length bs) → (n ≤ length bs) × (after.log ≡ after_write before.log bs (Ok n))
  pub copied : StaysInside before.block (length bs)
      → (n ≡ min (if nat_lt 0 (usable before.block) then usable before.block
      else before.block.capacity - length before.block.bytes) (length bs)) × (after.log ≡ before.log)

-- what an Ok write did: its steps, what it returned, and what its last flush left of what was buffered then
pub record WroteExactly {S P : Type 0} (rules : WriteRules P) (s : Buffered S P) (bs : List ℕ) (n : ℕ)
    (t : Buffered S P) : Type 0 where
  pub steps : Wrote rules s bs n t
  pub returned : WriteReturns bs n steps.before steps.after
  pub left : FlushLeaves (steps.finished.amount.0) steps.after steps.finished.flushed t

-- each write of the inner writer took something: none failed, and none took nothing of something
pub record EachTook (old new : WriteLog) : Type 0 where
  pub zero_writes : new.zero_writes ≡ old.zero_writes
  pub faults : new.faults ≡ old.faults

module _ {S P : Type 0} (amount : ℕ) where
  pub FlushesAmount-leaves : (s t : Buffered S P) (answer : Result (Unit {0}) Error) → FlushesAmount amount s answer t
      → FlushLeaves amount s answer t
  FlushesAmount-leaves s t (Ok u) f = elim (flush_ways amount (length s.block.bytes)) [
    | inl none ↦ (
        let same = ap (λ b. b.bytes) (f.idle none).buffer in record {
          enough = λ many. elim none [
            | inl zero ↦ same ∙ sym (ap (λ k. drop k s.block.bytes) zero)
            | inr past ↦ absurd (omega (arith, past, many))
          ];
          fewer = λ few. same;
          failed = tt;
        }
        )
    | inr some ↦ (
        let sends = f.sends some.0 some.1 in
        let all : sends.count ≡ amount = omega (arith, sends.whole, some.1) in
        record {
          enough = λ many. sends.sent.dropped.bytes ∙ ap (λ k. drop k s.block.bytes) all;
          fewer = λ few. absurd (omega (arith, few, some.1));
          failed = tt;
        }
        )
  ]
  FlushesAmount-leaves s t (Err e) f = elim (flush_ways amount (length s.block.bytes)) [
    | inl none ↦ (let odd = (f.idle none).answered in cc)
    | inr some ↦ (
        let sends = f.sends some.0 some.1 in record {
          enough = tt;
          fewer = tt;
          failed = (
            sends.count,
            sends.most,
            sends.sent.received,
            sends.sent.dropped.bytes,
            record { interrupts = sends.interrupts; cause = sends.failed.cause },
          );
        }
        )
  ]

  -- the policy doesn't matter
  of_any_policy : (s t : Buffered S P) (p : P) (answer : Result (Unit {0}) Error)
      → FlushLeaves amount (with_policy s p) answer t → FlushLeaves amount s answer t
  of_any_policy s t p answer f = record { enough = f.enough; fewer = f.fewer; failed = f.failed }

  -- where no fault came and no write took nothing, it didn't fail
  met_nothing : (s t : Buffered S P) (answer : Result (Unit {0}) Error)
      → t.log.writes.zero_writes ≤ s.log.writes.zero_writes → length t.log.writes.faults ≤ length s.log.writes.faults
      → FlushesAmount amount s answer t → answer ≡ Ok tt
  met_nothing s t (Ok u) zero faults f = refl
  met_nothing s t (Err e) zero faults f =
      let caused = (FlushesAmount-leaves s t (Err e) f).failed.4 in
      elim caused.cause [
        | inl nothing ↦ absurd (omega (arith, nothing.zero_writes, zero))
        | inr fault ↦ absurd (omega (
          arith,
          faults,
          ap length fault.faults,
          length-append (s.log.writes.faults ++ caused.interrupts) (e ∷ []),
          length-append s.log.writes.faults caused.interrupts,
        ))
      ]

copied_space : {S P : Type 0} (bs : List ℕ) (n : ℕ) (s t : Buffered S P) → CopiesIn bs s (Ok n) t
    → n ≡ min (if nat_lt 0 (usable s.block) then usable s.block else s.block.capacity - length s.block.bytes) (length bs)
copied_space bs n s t copied =
    let same : n ≡ min (usable copied.settled) (length bs) = (let e = copied.answered in cc) in
    elim (cases_lt 0 (usable s.block)) [
      | inl some ↦ rw (lt-ltb 0 (usable s.block) some) (same ∙ ap (λ b. min (usable b) (length bs)) (copied.roomy some))
      | inr none ↦ rw (le-ltb 0 (usable s.block) none)
          (same ∙ ap (λ k. min k (length bs)) (copied.tight (omega (arith, none))).usable)
    ]

module _ {S P : Type 0} (rules : WriteRules P) (s : Buffered S P) (bs : List ℕ) (n : ℕ) (t : Buffered S P)
    (wrote : Wrote rules s bs n t) where
  pub Wrote-returns : WriteReturns bs n wrote.before wrote.after
  Wrote-returns = record {
    direct = λ past. ((wrote.took_in.past past).bound, (wrote.took_in.past past).told);
    copied = λ inside. let copied = wrote.took_in.inside inside in
        (copied_space bs n wrote.before wrote.after copied, copied.told);
  }

  -- what the last flush leaves of what was buffered once the bytes were taken in
  pub Wrote-leaves : FlushLeaves (wrote.finished.amount.0) wrote.after wrote.finished.flushed t
  Wrote-leaves =
      of_any_policy (wrote.finished.amount.0) wrote.after t t.policy wrote.finished.flushed
      (FlushesAmount-leaves (wrote.finished.amount.0) (with_policy wrote.after t.policy) t wrote.finished.flushed
      wrote.finished.flush)

  pub Wrote-exactly : WroteExactly rules s bs n t
  Wrote-exactly = record { steps = wrote; returned = Wrote-returns; left = Wrote-leaves }

  module _ (took : EachTook s.log.writes t.log.writes) where
    -- before the last flush no fault and no write that took nothing is forgotten
    first_counts : (s.log.writes.zero_writes ≤ wrote.after.log.writes.zero_writes)
        × (length s.log.writes.faults ≤ length wrote.after.log.writes.faults)
    first_counts =
        let p = wrote.prepared in
        let met = FlushesAmount-met p.seen wrote.before (p.amount.0) p.flush in
        let zeros : s.log.writes.zero_writes ≤ wrote.before.log.writes.zero_writes =
        omega (arith, met.only.zero_writes, ap (λ l. l.writes.zero_writes) p.told) in
        let faults : length s.log.writes.faults ≤ length wrote.before.log.writes.faults =
        omega (
          arith,
          ap length met.only.faults,
          length-append p.seen.log.writes.faults met.interrupts,
          ap (λ l. length l.writes.faults) p.told,
        ) in
        elim (ways_in wrote.before.block (length bs)) [
          | inl past ↦ (
              let told = (wrote.took_in.past past).told in (
                omega (
                  arith,
                  zeros,
                  ap (λ l. l.writes.zero_writes) told,
                  zero_rises (Ok n) bs wrote.before.log.writes.zero_writes,
                ),
                omega (arith, faults, ap (λ l. length l.writes.faults) told),
              )
              )
          | inr inside ↦ (
              let told = (wrote.took_in.inside inside).told in (
                omega (arith, zeros, ap (λ l. l.writes.zero_writes) told),
                omega (arith, faults, ap (λ l. length l.writes.faults) told),
              )
              )
        ]

    -- the last flush didn't fail
    pub Wrote-took : wrote.finished.flushed ≡ Ok tt
    Wrote-took =
        met_nothing (wrote.finished.amount.0) (with_policy wrote.after t.policy) t wrote.finished.flushed
        (omega (arith, first_counts.0, took.zero_writes)) (omega (arith, first_counts.1, ap length took.faults))
        wrote.finished.flush

    pub Wrote-left : FlushLeaves (wrote.finished.amount.0) wrote.after (Ok tt) t
    Wrote-left =
        of_any_policy (wrote.finished.amount.0) wrote.after t t.policy (Ok tt)
        (FlushesAmount-leaves (wrote.finished.amount.0) (with_policy wrote.after t.policy) t (Ok tt)
        (subst (λ a. FlushesAmount (wrote.finished.amount.0) (with_policy wrote.after t.policy) a t) Wrote-took
        wrote.finished.flush))

-- what a write did, where it returned Ok
pub Writes-exactly : {S P : Type 0} (rules : WriteRules P) (s : Buffered S P) (bs : List ℕ) (answer : Result ℕ Error)
    (t : Buffered S P) → Writes rules s bs answer t → IfOk answer (λ n. WroteExactly rules s bs n t)
Writes-exactly rules s bs (Ok n) t wrote = Wrote-exactly rules s bs n t wrote
Writes-exactly rules s bs (Err e) t failed = tt
