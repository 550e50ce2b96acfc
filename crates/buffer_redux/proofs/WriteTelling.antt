-- How what was noted of a write or a flush fits what it did.
use Rattle.std.proofs.Common.{◌≡◌, ◌∙◌, ℕ, ◌+◌, ◌≤◌, List, [], ◌∷◌, ◌++◌, length, Result, Ok, Err, IfErr, true, inl, inr, refl, sym, ap, subst, length-append, arith, OnOk, ◌<◌}
use Rattle.std.proofs.lemmas.Bool.{cases_lt}
use Rattle.std.proofs.lemmas.List.{append_cancel_left}
use Rattle.std.proofs.lemmas.List.Elements.{All-head}
use Rattle.std.specs.List.{All}
use Rattle.std.specs.declared.io.Error.{Error}
use Rattle.std.specs.declared.io.ErrorKind.TheVariants.{WriteZero}
use Rattle.redux_buffer.specs.StreamLog.{StreamLog, WriteLog, zero_of_some, zero_of_none, after_write, after_flush}
use Rattle.redux_buffer.specs.LogGrows.{WriteLogGrows}
use Rattle.redux_buffer.specs.Faults.{IsInterrupt, MetInterrupts, MetInterrupts-err, TookNothing, SendErrorCaused}
use Rattle.buffer_redux.specs.Policy.{WriteRules}
use Rattle.buffer_redux.specs.Buffered.{Buffered, with_calls, with_policy}
use Rattle.buffer_redux.specs.BufWriter.{LeavesCapacity, Writes, WriteErrorCaused, IsFlushed, FlushesAmount, TakesIn, WritesInOrder}
use Rattle.buffer_redux.specs.WriterLaws.{Wrote-met}
use Rattle.buffer_redux.proofs.WriterFacts.{steady_caused, steady_met_nothing}
use Rattle.buffer_redux.specs.WriterTells.{writer_log, failures, TellsFailures, WriterWent}

-- noting a call changes nothing of what a write or a flush did
module _ {S P : Type 0} (t : Buffered S P) (calls : StreamLog) where
  amount_noted : (amount : ℕ) (s : Buffered S P) (answer : Result (Unit {0}) Error)
      → FlushesAmount amount s answer t → FlushesAmount amount s answer (with_calls t calls)
  amount_noted amount s answer f = record { policy = f.policy; idle = f.idle; sends = f.sends }

  takes_noted : (bs : List ℕ) (s : Buffered S P) (answer : Result ℕ Error)
      → TakesIn bs s answer t → TakesIn bs s answer (with_calls t calls)
  takes_noted bs s answer f = record {
    past = λ past. (
        let direct = f.past past in
        record { policy = direct.policy; block = direct.block; bound = direct.bound; told = direct.told }
        );
    inside = λ inside. (
        let copies = f.inside inside in
        record {
          policy = copies.policy;
          settled = copies.settled;
          roomy = copies.roomy;
          tight = copies.tight;
          answered = copies.answered;
          added = copies.added;
          told = copies.told;
        }
        );
  }

  pub writes_noted : (rules : WriteRules P) (s : Buffered S P) (bs : List ℕ) (answer : Result ℕ Error)
      → Writes rules s bs answer t → Writes rules s bs answer (with_calls t calls)
  writes_noted rules s bs (Ok n) f = record {
    before = f.before;
    after = f.after;
    prepared = f.prepared;
    took_in = f.took_in;
    finished = record {
      amount = f.finished.amount;
      flushed = f.finished.flushed;
      asked = f.finished.asked;
      flush = amount_noted (f.finished.amount.0) (with_policy f.after t.policy) f.finished.flushed f.finished.flush;
    };
  }
  writes_noted rules s bs (Err e) (inl f) = inl (record { asked = f.asked; told = f.told })
  writes_noted rules s bs (Err e) (inr (inl f)) = inr (inl (record {
    seen = f.seen;
    amount = f.amount;
    asked = f.asked;
    whole = f.whole;
    told = f.told;
    flush = amount_noted (f.amount.0) f.seen (Err e) f.flush;
  }))
  writes_noted rules s bs (Err e) (inr (inr f)) = inr (inr (record {
    before = f.before;
    prepared = f.prepared;
    took_in = takes_noted bs f.before (Err e) f.took_in;
  }))

-- a writer fails no less often as its log goes on, and more often where it failed
failures_kept : (old new : WriteLog) → WriteLogGrows old new → failures old ≤ failures new
failures_kept old new on =
    omega (arith, on.zero_writes, ap length on.faults.equal, length-append old.faults on.faults.more)

failures_rise : (old new : WriteLog) (e : Error) → SendErrorCaused old new e → failures old + 1 ≤ failures new
failures_rise old new e caused =
    let joined = length-append old.faults caused.interrupts in
    elim caused.cause [
      | inl nothing ↦ omega (arith, nothing.zero_writes, ap length nothing.faults, joined)
      | inr fault ↦ omega (
        arith,
        fault.zero_writes,
        ap length fault.faults,
        length-append (old.faults ++ caused.interrupts) (e ∷ []),
        joined,
      )
    ]

-- under a steady policy a failed write, or one that took nothing of something, is a failure of the inner writer's
pub write_fails : {S P : Type 0} (s t : Buffered S P) (bs : List ℕ) (answer : Result ℕ Error)
    → WriteLogGrows s.log.writes t.log.writes
    → IfErr answer (SendErrorCaused s.log.writes t.log.writes)
    × (answer ≡ Ok 0 → 0 < length bs → s.log.writes.zero_writes < t.log.writes.zero_writes)
    → failures (after_write s.own_calls bs answer).writes + failures s.log.writes
    ≤ failures s.own_calls.writes + failures t.log.writes
write_fails s t bs (Err e) on steadily =
    omega (
      arith,
      failures_rise s.log.writes t.log.writes e steadily.0,
      length-append s.own_calls.writes.faults (e ∷ []),
    )
write_fails s t bs (Ok n) on steadily = elim (cases_lt 0 n) [
  | inl some ↦
      omega (
        arith,
        zero_of_some n bs s.own_calls.writes.zero_writes (inl some),
        failures_kept s.log.writes t.log.writes on,
      )
  | inr none ↦ elim (cases_lt 0 (length bs)) [
    | inl given ↦ (
        let zero : n ≡ 0 = omega (arith, none) in
        let nothing = steadily.1 (ap Ok zero) given in
        omega (
          arith,
          zero_of_none n bs s.own_calls.writes.zero_writes zero given,
          nothing,
          ap length on.faults.equal,
          length-append s.log.writes.faults on.faults.more,
        )
        )
    | inr empty ↦
        omega (
          arith,
          zero_of_some n bs s.own_calls.writes.zero_writes (inr (omega (arith, empty))),
          failures_kept s.log.writes t.log.writes on,
        )
  ]
]

-- a failed flush is a failure of the inner writer's
pub flush_fails : {S P : Type 0} (s t : Buffered S P) (answer : Result (Unit {0}) Error)
    → WriteLogGrows s.log.writes t.log.writes → IfErr answer (λ e. SendErrorCaused s.log.writes t.log.writes e)
    → failures (after_flush s.own_calls answer).writes + failures s.log.writes
    ≤ failures s.own_calls.writes + failures t.log.writes
flush_fails s t (Ok a) on caused = omega (arith, failures_kept s.log.writes t.log.writes on)
flush_fails s t (Err e) on caused = omega (
  arith,
  failures_rise s.log.writes t.log.writes e caused,
  length-append s.own_calls.writes.faults (e ∷ []),
)

-- a call of a writer that was noted
pub call_went : {S P : Type 0} (trace : S → S → Type 0) (rules : WriteRules P) (s m t : Buffered S P)
    (calls noted : StreamLog) → t ≡ m → calls ≡ noted → trace s.inner m.inner
    → WriteLogGrows s.log.writes m.log.writes
    → WriteLogGrows (writer_log s).writes (writer_log (with_calls t calls)).writes
    → (accepted : List ℕ) → WritesInOrder s accepted m → s.block.capacity ≤ m.block.capacity → m.block.kind ≡ s.block.kind
    → (LeavesCapacity rules → m.block.capacity ≡ s.block.capacity)
    → rules.claims m.policy ≡ rules.claims s.policy
    → m.log.writes.flushes + s.own_calls.writes.flushes ≤ s.log.writes.flushes + noted.writes.flushes
    → ((rules.claims s.policy).steady ≡ true
    → failures noted.writes + failures s.log.writes ≤ failures s.own_calls.writes + failures m.log.writes)
    → (TellsFailures rules s.policy → MetInterrupts s.own_calls.writes noted.writes
    → MetInterrupts s.log.writes m.log.writes)
    → WriterWent trace rules s (with_calls t calls)
call_went trace rules s m t calls noted is told went grows own accepted order capacity kind same claims flushes fails met =
    rw (is, told) (record {
      inner = went;
      grows = grows;
      own_grows = rw (← is, ← told) own;
      consumed = omega (
        arith,
        order.consumed,
        ap length order.received,
        length-append s.log.writes.received order.sent,
      );
      capacity = capacity;
      same_capacity = same;
      kind = kind;
      claims = claims;
      flushes = flushes;
      fails = fails;
      met = met;
    })

-- of one call: its own fault, and that there is none
same_fault : (faults : List Error) (a b : Error) → faults ++ a ∷ [] ≡ faults ++ b ∷ [] → a ≡ b
same_fault faults a b same = let e = append_cancel_left faults (a ∷ []) (b ∷ []) same in cc

no_fault : (faults : List Error) (e : Error) → faults ≡ faults ++ e ∷ [] → ⊥
no_fault faults e odd = omega (arith, ap length odd, length-append faults (e ∷ []))

one_interrupt : (faults interrupts : List Error) (e : Error) → faults ++ e ∷ [] ≡ faults ++ interrupts
    → All IsInterrupt interrupts → IsInterrupt e
one_interrupt faults interrupts e same all =
    All-head IsInterrupt e [] (subst (All IsInterrupt) (sym (append_cancel_left faults (e ∷ []) interrupts same)) all)

-- a call that failed so, and was at most interrupted itself
err_met : (own own' inner inner' : WriteLog) (e : Error) → own'.faults ≡ own.faults ++ e ∷ []
    → SendErrorCaused inner inner' e → MetInterrupts own own' → MetInterrupts inner inner'
err_met own own' inner inner' e fault caused met =
    let is = one_interrupt own.faults met.interrupts e (sym fault ∙ met.only.faults) met.only.interrupted in
    MetInterrupts-err inner inner' e is caused

-- under a steady policy an error of a write is caused by the inner writer
pub write_fault : {S P : Type 0} (rules : WriteRules P) (s t : Buffered S P) (bs : List ℕ)
    → (rules.claims s.policy).steady ≡ true → (answer : Result ℕ Error) (f : Error)
    → WriteErrorCaused rules s bs answer t
    → (after_write s.own_calls bs answer).writes.faults ≡ s.own_calls.writes.faults ++ f ∷ []
    → SendErrorCaused s.log.writes t.log.writes f
write_fault rules s t bs steady (Ok n) f caused odd = absurd (no_fault s.own_calls.writes.faults f odd)
write_fault rules s t bs steady (Err e) f caused same =
    subst (SendErrorCaused s.log.writes t.log.writes)
    (same_fault s.own_calls.writes.faults e f same)
    (steady_caused rules s t bs e steady caused)

-- under a steady policy an answer that took nothing of something is caused by the inner writer
pub write_nothing : {S P : Type 0} (rules : WriteRules P) (s t : Buffered S P) (bs : List ℕ)
    → (rules.claims s.policy).steady ≡ true → (answer : Result ℕ Error) → Writes rules s bs answer t
    → (after_write s.own_calls bs answer).writes.zero_writes ≡ s.own_calls.writes.zero_writes + 1
    → (interrupts : List Error) × TookNothing interrupts s.log.writes t.log.writes WriteZero
write_nothing rules s t bs steady (Err e) failed odd = absurd (omega (arith, odd))
write_nothing rules s t bs steady (Ok n) wrote zero = elim (cases_lt 0 n) [
  | inl some ↦ absurd (omega (arith, zero, zero_of_some n bs s.own_calls.writes.zero_writes (inl some)))
  | inr none ↦ elim (cases_lt 0 (length bs)) [
    | inl given ↦ steady_met_nothing rules s bs n t steady wrote (omega (arith, none)) given
    | inr empty ↦
        absurd (omega (
          arith,
          zero,
          zero_of_some n bs s.own_calls.writes.zero_writes (inr (omega (arith, empty))),
        ))
  ]
]

module _ {S P : Type 0} (rules : WriteRules P) (s t : Buffered S P) (bs : List ℕ)
    (tells : TellsFailures rules s.policy) where
  pub write_met : (answer : Result ℕ Error)
      → Writes rules s bs answer t → WriteErrorCaused rules s bs answer t
      → MetInterrupts s.own_calls.writes (after_write s.own_calls bs answer).writes
      → MetInterrupts s.log.writes t.log.writes
  write_met (Ok n) wrote caused own = elim (Wrote-met rules s bs n t tells.1 wrote).1 [
    | inl only ↦ record { interrupts = _; only = only }
    | inr nothing ↦
        absurd (omega (
          arith,
          own.only.zero_writes,
          zero_of_none n bs s.own_calls.writes.zero_writes nothing.0 nothing.1,
        ))
  ]
  write_met (Err e) failed caused own = err_met s.own_calls.writes (after_write s.own_calls bs (Err e)).writes
      s.log.writes t.log.writes e refl
      (steady_caused rules s t bs e tells.0 caused) own

module _ {S P : Type 0} (s t : Buffered S P) where
  pub flush_met : (answer : Result (Unit {0}) Error) → OnOk answer (IsFlushed s t)
      → IfErr answer (λ e. SendErrorCaused s.log.writes t.log.writes e)
      → MetInterrupts s.own_calls.writes (after_flush s.own_calls answer).writes
      → MetInterrupts s.log.writes t.log.writes
  flush_met (Ok a) flushed caused own = flushed.met
  flush_met (Err e) flushed caused own = err_met s.own_calls.writes (after_flush s.own_calls (Err e)).writes
      s.log.writes t.log.writes e refl caused own

  pub flush_fault : (answer : Result (Unit {0}) Error) (f : Error)
      → IfErr answer (λ e. SendErrorCaused s.log.writes t.log.writes e)
      → (after_flush s.own_calls answer).writes.faults ≡ s.own_calls.writes.faults ++ f ∷ []
      → SendErrorCaused s.log.writes t.log.writes f
  flush_fault (Ok a) f caused odd = absurd (no_fault s.own_calls.writes.faults f odd)
  flush_fault (Err e) f caused same = subst (SendErrorCaused s.log.writes t.log.writes)
      (same_fault s.own_calls.writes.faults e f same) caused
