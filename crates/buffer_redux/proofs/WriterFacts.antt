-- What follows from a whole write: what it keeps, why it failed, and why it took nothing.
use Rattle.std.proofs.Common.{◌≡◌, ℕ, zero, suc, ◌+◌, ◌<◌, List, [], ◌++◌, true, length, take, Result, Ok, Err, refl, sym, ap, ◌∙◌, arith, inl, inr, length-drop, min, IsOkAnd}
use Rattle.std.proofs.lemmas.Bool.{cases_lt, MatchBool-at_true}
use Rattle.std.specs.declared.io.Error.{Error}
use Rattle.std.specs.declared.io.ErrorKind.TheVariants.{WriteZero}
use Rattle.redux_buffer.specs.Block.{Block, usable}
use Rattle.redux_buffer.specs.Faults.{TookNothing, SendErrorCaused}
use Rattle.redux_buffer.specs.StreamLog.{portion}
use Rattle.buffer_redux.specs.Policy.{WriteRules, BeforeWrite}
use Rattle.buffer_redux.specs.declared.policy.FlushAmt.{FlushAmt}
use Rattle.buffer_redux.specs.Buffered.{Buffered, GoesPast, StaysInside}
use Rattle.buffer_redux.specs.BufWriter.{Prepared, Wrote, Writes, WriteErrorCaused, WritesSteadily, NoSpace, EmptyWriteCaused}
use Rattle.buffer_redux.specs.WriterLaws.{flush_ways, ways_in, FlushesAmount-met, Writes-caused}
use Rattle.buffer_redux.proofs.WriteSteps.{StepKeeps, StepKeeps-asked, StepKeeps-joins, StepKeeps-then, capacity_stays, bytes_stay, StepKeeps-takes, StepKeeps-prepared, StepKeeps-finished}

module _ {S P : Type 0} (rules : WriteRules P) (s : Buffered S P) (bs : List ℕ) (n : ℕ) (t : Buffered S P)
    (wrote : Wrote rules s bs n t) where
  wrote_keeps : StepKeeps rules s (take n bs) t
  wrote_keeps = StepKeeps-then rules s wrote.after t (take n bs)
      (StepKeeps-joins rules s wrote.before wrote.after [] (take n bs)
      (StepKeeps-prepared rules (length bs) s wrote.before (Ok tt) wrote.prepared)
      (StepKeeps-takes rules wrote.before wrote.after bs (Ok n) wrote.took_in))
      (StepKeeps-finished rules wrote.after t wrote.finished)

  -- after a write past the buffer nothing is there to flush
  still_past : GoesPast wrote.before.block (length bs) → t.log ≡ wrote.after.log
  still_past past =
      let direct = wrote.took_in.past past in
      let empty : length wrote.after.block.bytes ≡ 0 = ap (λ b. length b.bytes) direct.block ∙ past.0 in
      elim (cases_lt 0 (wrote.finished.amount.0)) [
        | inl some_more ↦ (wrote.finished.flush.idle (inr (omega (arith, empty, some_more)))).told
        | inr no_more ↦ (wrote.finished.flush.idle (inl (omega (arith, no_more)))).told
      ]

  met_nothing : n ≡ 0 → 0 < length bs → GoesPast wrote.before.block (length bs)
      → (interrupts : List Error) × TookNothing interrupts s.log.writes t.log.writes WriteZero
  met_nothing none some past =
      let p = wrote.prepared in
      let first = FlushesAmount-met p.seen wrote.before (p.amount.0) p.flush in
      let direct = wrote.took_in.past past in
      let rose : wrote.after.log.writes.zero_writes ≡ wrote.before.log.writes.zero_writes + 1 =
      ap (λ l. l.writes.zero_writes) direct.told ∙ grind arith in
      let still = still_past past in (
        first.interrupts,
        record {
          is_write_zero = refl;
          interrupted = first.only.interrupted;
          faults = ap (λ l. l.writes.faults) (still ∙ direct.told) ∙ first.only.faults
              ∙ ap (λ l. l.writes.faults ++ first.interrupts) p.told;
          zero_writes = omega (
            arith,
            rose,
            first.only.zero_writes,
            ap (λ l. l.writes.zero_writes) p.told,
            ap (λ l. l.writes.zero_writes) still,
          );
        },
      )

  took_nothing : n ≡ 0 → 0 < length bs → GoesPast wrote.before.block (length bs)
      → GoesPast wrote.before.block (length bs) × (t.log.writes.zero_writes ≡ s.log.writes.zero_writes + 1)
  took_nothing none some past = (past, (met_nothing none some past).1.zero_writes)

  no_space : n ≡ 0 → 0 < length bs → StaysInside wrote.before.block (length bs)
      → NoSpace s (length bs) wrote.before
  no_space none some inside =
      let p = wrote.prepared in
      let copied = wrote.took_in.inside inside in
      let same : n ≡ min (usable copied.settled) (length bs) = (let e = copied.answered in cc) in
      let full : usable copied.settled ≡ 0 = omega (arith, same, none, some) in
      let tight : usable wrote.before.block ≡ 0 = elim (cases_lt 0 (usable wrote.before.block)) [
        | inl roomy ↦ absurd (omega (arith, roomy, full, ap usable (copied.roomy roomy)))
        | inr few ↦ omega (arith, few)
      ] in
      let settled = copied.tight tight in
      let capacity = capacity_stays p.seen wrote.before (p.amount.0) (Ok tt) p.flush in
      let law = p.asked.law in
      let kept : wrote.before.block.bytes ≡ s.block.bytes =
      bytes_stay p.seen wrote.before (p.amount.0) (Ok tt) p.flush
      (omega (arith, settled.usable, full, capacity, p.whole.fits)) ∙ law.bytes in
      record {
        full = omega (arith, ap length kept, settled.usable, full, capacity, law.capacity);
        room = omega (arith, settled.usable, full);
        kept = kept;
        inside = inside;
      }

-- why a write took nothing of something
pub wrote_nothing : {S P : Type 0} (rules : WriteRules P) (s : Buffered S P) (bs : List ℕ) (t : Buffered S P)
    → Wrote rules s bs 0 t → 0 < length bs → EmptyWriteCaused rules s bs t
wrote_nothing rules s bs t wrote some = record {
  steps = wrote;
  why = elim (ways_in wrote.before.block (length bs)) [
    | inl past ↦ inl (took_nothing rules s bs 0 t wrote refl some past)
    | inr inside ↦ inr (no_space rules s bs 0 t wrote refl some inside)
  ];
}

-- what every write keeps: the joined lists, a log that goes on, at least the capacity, the kind and the policy's claims
pub writes_keep : {S P : Type 0} (rules : WriteRules P) (s : Buffered S P) (bs : List ℕ)
    (answer : Result ℕ Error) (t : Buffered S P)
    → Writes rules s bs answer t → StepKeeps rules s (portion bs answer) t
writes_keep rules s bs (Ok n) t wrote = wrote_keeps rules s bs n t wrote
writes_keep rules s bs (Err e) t (inl refused) = StepKeeps-asked rules (length bs) (Err e) s t refused.asked refused.told
writes_keep rules s bs (Err e) t (inr (inl prepared)) =
    StepKeeps-prepared rules (length bs) s t (Err e) prepared
writes_keep rules s bs (Err e) t (inr (inr faulted)) =
    StepKeeps-joins rules s faulted.before t [] []
    (StepKeeps-prepared rules (length bs) s faulted.before (Ok tt) faulted.prepared)
    (StepKeeps-takes rules faulted.before t bs (Err e) faulted.took_in)

-- the claim to be steady, of one call
asks_steadily : {P : Type 0} (rules : WriteRules P) (p : P) (b : Block) (incoming : ℕ)
    (answer : Result FlushAmt Error) (p' : P) (b' : Block)
    → (rules.claims p).steady ≡ true → BeforeWrite rules p b incoming answer p' b'
    → IsOkAnd answer (λ a. usable b' < incoming → a.0 ≡ length b'.bytes)
asks_steadily rules p b incoming answer p' b' steady asked =
    MatchBool-at_true _ _ steady asked.steady

module _ {S P : Type 0} (rules : WriteRules P) where
  -- a steady policy flushes all before a write that doesn't fit, so there is space where the write stays inside
  steady_space : (s before : Buffered S P) (incoming : ℕ) → (rules.claims s.policy).steady ≡ true → 0 < incoming
      → Prepared rules incoming s (Ok tt) before → NoSpace s incoming before → ⊥
  steady_space s before incoming steady some p space =
      let same = capacity_stays p.seen before (p.amount.0) (Ok tt) p.flush in
      let long : length before.block.bytes ≡ length p.seen.block.bytes =
      ap length space.kept ∙ sym (ap length p.asked.law.bytes) in
      let tight : usable p.seen.block ≡ 0 = omega (arith, p.whole.fits, space.room, same, long) in
      let all : p.amount.0 ≡ length p.seen.block.bytes =
      asks_steadily rules s.policy s.block incoming (Ok p.amount) p.seen.policy p.seen.block steady p.asked
      (omega (arith, tight, some)) in
      elim (flush_ways (p.amount.0) (length p.seen.block.bytes)) [
        | inl none ↦ (
            let empty : length p.seen.block.bytes ≡ 0 =
            elim none [ inl zero' ↦ omega (arith, zero', all) | inr past ↦ omega (arith, past, all) ] in
            elim space.inside [
              | inl held ↦ omega (arith, held, long, empty)
              | inr small ↦ omega (arith, small, space.room, empty, long)
            ]
            )
        | inr amount ↦ (
            let sends = p.flush.sends amount.0 amount.1 in
            let left = ap length sends.sent.dropped.bytes ∙ length-drop sends.count p.seen.block.bytes in
            omega (arith, sends.whole, all, left, long, amount.0)
            )
      ]

  pub steady_caused : (s t : Buffered S P) (bs : List ℕ) (e : Error) → (rules.claims s.policy).steady ≡ true
      → WriteErrorCaused rules s bs (Err e) t → SendErrorCaused s.log.writes t.log.writes e
  steady_caused s t bs e steady (inl refused) =
      absurd (asks_steadily rules s.policy s.block (length bs) (Err e) t.policy t.block steady refused.asked)
  steady_caused s t bs e steady (inr caused) = caused

  -- what took nothing of something under such a policy, a write of the inner writer did
  steady_nothing : (s : Buffered S P) (bs : List ℕ) (t : Buffered S P) → (rules.claims s.policy).steady ≡ true
      → 0 < length bs → EmptyWriteCaused rules s bs t → s.log.writes.zero_writes < t.log.writes.zero_writes
  steady_nothing s bs t steady some caused = elim caused.why [
    | inl nothing ↦ omega (arith, nothing.1)
    | inr space ↦ absurd (steady_space s caused.steps.before (length bs) steady some caused.steps.prepared space)
  ]

  pub steady_met_nothing : (s : Buffered S P) (bs : List ℕ) (n : ℕ) (t : Buffered S P)
      → (rules.claims s.policy).steady ≡ true → Wrote rules s bs n t → n ≡ 0 → 0 < length bs
      → (interrupts : List Error) × TookNothing interrupts s.log.writes t.log.writes WriteZero
  steady_met_nothing s bs n t steady wrote none some = elim (ways_in wrote.before.block (length bs)) [
    | inl past ↦ met_nothing rules s bs n t wrote none some past
    | inr inside ↦ absurd (steady_space s wrote.before (length bs) steady some wrote.prepared
        (no_space rules s bs n t wrote none some inside))
  ]

  pub writes_nothing : (s : Buffered S P) (bs : List ℕ) (answer : Result ℕ Error) (t : Buffered S P)
      → Writes rules s bs answer t → answer ≡ Ok 0 → 0 < length bs → EmptyWriteCaused rules s bs t
  writes_nothing s bs (Ok zero) t w is some = wrote_nothing rules s bs t w some
  writes_nothing s bs (Ok (suc n)) t w is some = absurd (cc)
  writes_nothing s bs (Err e) t w is some = absurd (cc)

  pub writes_steadily : (s : Buffered S P) (bs : List ℕ) (answer : Result ℕ Error) (t : Buffered S P)
      → Writes rules s bs answer t → WritesSteadily rules s (length bs) answer t
  writes_steadily s bs (Ok n) t wrote steady =
      (tt, λ is some. steady_nothing s bs t steady some (writes_nothing s bs (Ok n) t wrote is some))
  writes_steadily s bs (Err e) t failed steady =
      (steady_caused s t bs e steady (Writes-caused rules s bs (Err e) t failed), λ is. cc)
