-- Steps that are made again where they were interrupted, fills among them.
use Rattle.std.proofs.Common.{◌≡◌, ℕ, ◌<◌, ◌≤◌, zero, suc, List, [], length, arith, Result, Ok, Err, Option, sym, ap, subst, ◌∙◌, inl, inr}
use Rattle.std.specs.declared.io.Error.{Error}
use Rattle.redux_buffer.specs.Block.{IsBlock}
use Rattle.redux_buffer.specs.Retried.{InterruptedSteps, Retried, Step}
use Rattle.redux_buffer.specs.Faults.{IsInterrupt, OnlyInterrupts, OnlyInterrupts-one, OnlyInterrupts-same, OnlyInterrupts-joins}
use Rattle.buffer_redux.specs.Policy.{ReadRules}
use Rattle.buffer_redux.specs.Buffered.{Buffered}
use Rattle.buffer_redux.specs.BufReader.{InnerGives, RanDry, ReadErrorCaused}
use Rattle.buffer_redux.specs.Fill.{Filled}
use Rattle.buffer_redux.specs.FillRetried.{FillRetried, OneFill}
use Rattle.buffer_redux.specs.ReadAll.{HandedFront}
use Rattle.buffer_redux.specs.ReaderLaws.{Fills-empty, WantsBytes}
use Rattle.buffer_redux.proofs.FillClaims.{filled_keeps, fills}
use Rattle.buffer_redux.proofs.FillFacts.{turns_facts}
use Rattle.buffer_redux.specs.ReadAllLaws.{HandedFront-joins}

module _ {S P : Type 0} (remaining : S → Option (List ℕ)) (rules : ReadRules P) where
  -- such a step hands out nothing, and meets no fault but interrupted reads: where it's Ok, and where it's interrupted
  pub record HandsNothing (step : Step (Buffered S P) (Unit {0})) : Type 0 where
    pub front : (s : Buffered S P) (answer : Result (Unit {0}) Error) (t : Buffered S P) → step s answer t
        → HandedFront remaining rules s [] t
    pub only : (s t : Buffered S P) → step s (Ok tt) t → OnlyInterrupts s.log.reads.faults t.log.reads.faults
    pub interrupt : (s : Buffered S P) (e : Error) (t : Buffered S P) → IsInterrupt e → step s (Err e) t
        → OnlyInterrupts s.log.reads.faults t.log.reads.faults

  module _ (step : Step (Buffered S P) (Unit {0})) (h : HandsNothing step) where
    after_interrupted : (k : ℕ) (s m t : Buffered S P) → InterruptedSteps step k s m
        → HandedFront remaining rules m [] t → HandedFront remaining rules s [] t
    after_interrupted zero s m t same f = subst (λ x. HandedFront remaining rules x [] t) (sym same) f
    after_interrupted (suc k) s m t i f = after_interrupted k s i.0 t i.1
        (HandedFront-joins remaining rules i.0 m t [] [] (h.front i.0 (Err i.2) m i.4) f)

    only_after : (k : ℕ) (s m t : Buffered S P) → InterruptedSteps step k s m
        → OnlyInterrupts m.log.reads.faults t.log.reads.faults → OnlyInterrupts s.log.reads.faults t.log.reads.faults
    only_after zero s m t same f = subst (λ x. OnlyInterrupts x.log.reads.faults t.log.reads.faults) (sym same) f
    only_after (suc k) s m t i f = only_after k s i.0 t i.1
        (OnlyInterrupts-joins i.0.log.reads.faults m.log.reads.faults t.log.reads.faults
        (h.interrupt i.0 i.2 m i.3 i.4) f)

    -- a retried step hands out nothing, and at Ok met no fault but `Interrupted`
    retried_front : (s : Buffered S P) (answer : Result (Unit {0}) Error) (t : Buffered S P)
        → Retried step s answer t → HandedFront remaining rules s [] t
    retried_front s answer t r = after_interrupted r.count s r.last t r.interrupted (h.front r.last answer t r.went)

    retried_only : (s t : Buffered S P) → Retried step s (Ok tt) t
        → OnlyInterrupts s.log.reads.faults t.log.reads.faults
    retried_only s t r = only_after r.count s r.last t r.interrupted (h.only r.last t r.went)

    pub retrying : HandsNothing (Retried step)
    retrying = record {
      front = retried_front;
      only = retried_only;
      interrupt = λ s e t is r. only_after r.count s r.last t r.interrupted (h.interrupt r.last e t is r.went);
    }

  pub one_fill : {A : Type 0} (s : Buffered S P) (answer : Result A Error) (t : Buffered S P) → Filled rules s answer t
      → InnerGives remaining s t → t.own_calls ≡ s.own_calls → IsBlock t.block → OneFill remaining rules s answer t
  one_fill s answer t filled known noted whole =
      record { fills = fills rules s answer t whole filled; known = known; noted = noted }

  fault_interrupt : (s : Buffered S P) (e : Error) (t : Buffered S P) → IsInterrupt e
      → ReadErrorCaused {A = Unit {0}} rules s (Err e) t → OnlyInterrupts s.log.reads.faults t.log.reads.faults
  fault_interrupt s e t is (inl came) = OnlyInterrupts-one s.log.reads.faults t.log.reads.faults e is came
  fault_interrupt s e t is (inr gave) = OnlyInterrupts-same s.log.reads.faults t.log.reads.faults
      (ap (λ l. l.reads.faults) gave.told ∙ (turns_facts rules gave.count s gave.last gave.turns).faults)

  pub filling : HandsNothing (OneFill remaining rules)
  filling = record {
    front = λ s answer t f. record {
      in_order = f.fills.in_order;
      keeps = filled_keeps remaining rules s answer t f.fills f.known f.noted;
    };
    only = λ s t f. OnlyInterrupts-same s.log.reads.faults t.log.reads.faults f.fills.caused;
    interrupt = λ s e t is f. fault_interrupt s e t is f.fills.caused;
  }

  pub refilling : HandsNothing (FillRetried remaining rules)
  refilling = retrying (OneFill remaining rules) filling

  still : (k : ℕ) (s m : Buffered S P) → InterruptedSteps {A = Unit {0}} (OneFill remaining rules) k s m
      → (s.block.capacity ≤ m.block.capacity) × (s.log.reads.zero_reads ≤ m.log.reads.zero_reads)
  still zero s m same = (
    omega (arith, ap (λ x. x.block.capacity) same),
    omega (arith, ap (λ x. x.log.reads.zero_reads) same),
  )
  still (suc k) s m h =
      let before = still k s h.0 h.1 in
      let fills = h.4.fills in
      (omega (arith, before.0, fills.capacity), omega (arith, before.1, fills.grows.zero_reads))

  -- under a policy that wants bytes, where there is capacity, a fill shows nothing only where the reader ran dry
  pub retried_dry : (s t : Buffered S P) → FillRetried remaining rules s (Ok tt) t → WantsBytes (rules.claims s.policy)
      → 0 < s.block.capacity → length t.block.bytes ≡ 0 → RanDry s t
  retried_dry s t f wants some none =
      let before = still f.count s f.last f.interrupted in
      let claims : rules.claims s.policy ≡ rules.claims f.last.policy =
      sym (refilling.front s (Ok tt) t f).keeps.claims ∙ f.went.fills.claims in
      let dry : RanDry f.last t =
      Fills-empty rules f.last tt t f.went.fills (subst WantsBytes claims wants) (omega (arith, some, before.0)) none in
      omega (arith, before.1, dry)
