-- How many reads of the reader inside fail in a read of a whole slice, and why that fails.
use Rattle.std.proofs.Common.{◌≡◌, ◌∙◌, ℕ, zero, suc, ◌+◌, ◌*◌, ◌<◌, ◌≤◌, List, [], ◌∷◌, ◌++◌, length, take, drop, Result, Ok, Err, Option, IfErr, sym, ap, subst, arith, inl, inr, true, append-nil, length-append, length-take}
use Rattle.std.specs.Prelude.{◌⊎◌}
use Rattle.std.proofs.lemmas.Bool.{MatchBool-at_true}
use Rattle.std.specs.IoError.{error_kind}
use Rattle.std.specs.declared.io.Error.{Error}
use Rattle.std.specs.declared.io.ErrorKind.TheVariants.{UnexpectedEof}
use Rattle.redux_buffer.specs.Faults.{IsInterrupt, failure_count, interrupt_limit}
use Rattle.redux_buffer.specs.Retried.{InterruptedSteps, InterruptedSteps-before, Retried}
use Rattle.buffer_redux.specs.Policy.{ReadRules}
use Rattle.buffer_redux.specs.AllBytes.{EndsBy}
use Rattle.buffer_redux.specs.Buffered.{Buffered}
use Rattle.buffer_redux.specs.BufReader.{ReadErrorCaused, EmptyReadCaused}
use Rattle.buffer_redux.specs.ReadAll.{FillsSlice, HandedFront, OneRead, ReadsExactly, ReadTurns, SliceRead, SliceStep}
use Rattle.buffer_redux.specs.ReadExact.{ReadExactErrorCaused}
use Rattle.buffer_redux.specs.ReadAllLaws.{HandedFront-joins, OneRead-tells}
use Rattle.buffer_redux.proofs.FillFacts.{turns_facts}

-- reads that meet a fault at most each, and only where they fail
module _ {T : Type 0} (reads : T → List ℕ → Result ℕ Error → List ℕ → T → Type 0) (handed : T → List ℕ → T → Type 0)
    (met : T → ℕ) (one : (s : T) (was : List ℕ) (answer : Result ℕ Error) (slice : List ℕ) (t : T) → reads s was answer slice t
    → met t ≤ met s + failure_count answer) where
  interrupted_few : (k : ℕ) (u v : T × List ℕ) → InterruptedSteps (SliceStep reads) k u v → met v.0 ≤ met u.0 + k
  interrupted_few zero u v same = omega (arith, ap (λ x. met x.0) same)
  interrupted_few (suc k) u v (m, first, e, is, last) =
      omega (arith, interrupted_few k u m first, one m.0 m.1 (Err e) v.1 v.0 last)

  row_few : (u : T × List ℕ) (answer : Result ℕ Error) (v : T × List ℕ) → Retried (SliceStep reads) u answer v
      → met v.0 ≤ met u.0 + interrupt_limit + failure_count answer
  row_few u answer v row = omega (
    arith,
    interrupted_few row.count u row.last row.interrupted,
    row.most,
    one row.last.0 row.last.1 answer v.1 v.0 row.went,
  )

  turns_few : (was : List ℕ) (k count : ℕ) (out : List ℕ) (s t : T) → ReadTurns reads was k count out s t
      → met t ≤ met s + interrupt_limit * count
  turns_few was zero count out s t (none, stands, same) = omega (arith, ap met same)
  turns_few was (suc k) count out s t (before, left, m, run, turn) = omega (
    arith,
    turns_few was k before left s m run,
    row_few (m, drop before left) (Ok turn.further) (t, turn.slice) turn.row,
    turn.some,
    turn.adds,
  )

  fails_once : (answer : Result ℕ Error) → failure_count answer ≤ 1
  fails_once (Ok n) = omega arith
  fails_once (Err e) = omega arith

  -- for each byte of the slice there is one row of reads at most
  pub all_few : (s : T) (was : List ℕ) (answer : Result (Unit {0}) Error) (out : List ℕ) (t : T)
      → FillsSlice reads handed s was answer out t → met t ≤ met s + interrupt_limit * length out + failure_count answer
  all_few s was (Ok _) out t r =
      omega (arith, turns_few was r.turns r.count r.left s r.last r.run, r.ended.0, ap met r.ended.2)
  all_few s was (Err e) out t r = omega (
    arith,
    turns_few was r.turns r.count r.left s r.last r.run,
    row_few (r.last, drop r.count r.left) r.ended.answer (t, r.ended.slice) r.ended.row,
    fails_once r.ended.answer,
    r.ended.fewer,
  )

  -- where each that is interrupted meets one, so many are before `Interrupted` is answered
  module _ (Tells : T → Type 0)
      (tells : (s : T) (was : List ℕ) (e : Error) (slice : List ℕ) (t : T) → Tells s → reads s was (Err e) slice t
      → (met s + 1 ≤ met t) × Tells t)
      (stays : (s : T) (bytes : List ℕ) (t : T) → Tells s → handed s bytes t → (met s ≤ met t) × Tells t) where
    interrupted_often : (k : ℕ) (u v : T × List ℕ) → Tells u.0 → InterruptedSteps (SliceStep reads) k u v
        → (met u.0 + k ≤ met v.0) × Tells v.0
    interrupted_often zero u v may same = (omega (arith, ap (λ x. met x.0) same), subst (λ x. Tells x.0) same may)
    interrupted_often (suc k) u v may (m, first, e, is, last) =
        let before = interrupted_often k u m may first in
        let after = tells m.0 m.1 e v.1 v.0 before.1 last in
        (omega (arith, before.0, after.0), after.1)

    pub all_often : (s : T) (was : List ℕ) (answer : Result (Unit {0}) Error) (out : List ℕ) (t : T)
        → FillsSlice reads handed s was answer out t → Tells s
        → IfErr answer (λ e. IsInterrupt e → met s + interrupt_limit + 1 ≤ met t)
    all_often s was (Ok x) out t r may = tt
    all_often s was (Err e) out t r may = of r.ended.answer r.ended.ends r.ended.row
      where
        of : (answer : Result ℕ Error) → EndsBy UnexpectedEof answer e
            → Retried (SliceStep reads) (r.last, drop r.count r.left) answer (t, r.ended.slice) → IsInterrupt e
            → met s + interrupt_limit + 1 ≤ met t
        of (Ok k) ends row is = (let odd = ends.1 in cc)
        of (Err x) ends row is =
            let first = stays s (take r.count out) r.last may r.first in
            let before = interrupted_often row.count (r.last, drop r.count r.left) row.last first.1 row.interrupted in
            let last = tells row.last.0 row.last.1 x r.ended.slice t before.1 row.went in
            omega (arith, first.0, before.0, last.0, row.often (subst IsInterrupt (sym ends) is))

-- where it failed, the last read had room for some, and hands nothing out, nor does one before it that was interrupted
module _ {T : Type 0} (reads : T → List ℕ → Result ℕ Error → List ℕ → T → Type 0) (handed : T → List ℕ → T → Type 0) where
  pub last_some : (s : T) (was out : List ℕ) (t : T) (e : Error) (r : FillsSlice reads handed s was (Err e) out t)
      → 0 < length r.ended.slice
  last_some s was out t e r = omega (
    arith,
    r.ended.fewer,
    ap length r.ended.stands,
    length-append (take r.count r.left) r.ended.slice,
    length-take r.count r.left,
  )

  pub last_begun : ((s m t : T) (a b : List ℕ) → handed s a m → handed m b t → handed s (a ++ b) t)
      → ((s : T) (was : List ℕ) (answer : Result ℕ Error) (slice : List ℕ) (t : T) → reads s was answer slice t
      → SliceRead handed s was answer slice t)
      → (s : T) (was out : List ℕ) (t : T) (e : Error) (r : FillsSlice reads handed s was (Err e) out t)
      → handed s (take r.count out) r.ended.row.last.0
  last_begun joins tells s was out t e r = InterruptedSteps-before (SliceStep reads)
      (λ u. handed s (take r.count out) u.0 → handed s (take r.count out) r.ended.row.last.0)
      (λ u x m is read later first. later (subst (λ l. handed s l m.0) (append-nil (take r.count out))
      (joins s u.0 m.0 (take r.count out) [] first (tells u.0 u.1 (Err x) m.1 m.0 read).front)))
      r.ended.row.count (r.last, drop r.count r.left) r.ended.row.last r.ended.row.interrupted (λ first. first) r.first

module _ {S P : Type 0} (remaining : S → Option (List ℕ)) (rules : ReadRules P) where
  abbrev met : Buffered S P → ℕ
  met s = length s.log.reads.faults

  abbrev Steady : Buffered S P → Type 0
  Steady s = (rules.claims s.policy).steady ≡ true

  -- the reader's fault is one more, and the policy's answer none
  one_met : (s : Buffered S P) (was : List ℕ) (answer : Result ℕ Error) (slice : List ℕ) (t : Buffered S P)
      → OneRead remaining rules s was answer slice t → met t ≤ met s + failure_count answer
  one_met s was (Ok n) slice t read = omega (arith, ap length read.caused)
  one_met s was (Err e) slice t read = elim read.caused [
    | inl fault ↦ omega (arith, ap length fault, length-append s.log.reads.faults (e ∷ []))
    | inr gave ↦ omega (
      arith,
      ap (λ l. length l.reads.faults) gave.told,
      ap length (turns_facts rules gave.count s gave.last gave.turns).faults,
    )
  ]

  -- under a steady policy it is the reader's
  steady_met : (s : Buffered S P) (was : List ℕ) (e : Error) (slice : List ℕ) (t : Buffered S P) → Steady s
      → OneRead remaining rules s was (Err e) slice t → (met s + 1 ≤ met t) × Steady t
  steady_met s was e slice t steady read =
      let still : Steady t = ap (λ c. c.steady) read.front.keeps.claims ∙ steady in
      elim read.caused [
        | inl fault ↦ (omega (arith, ap length fault, length-append s.log.reads.faults (e ∷ [])), still)
        | inr gave ↦ absurd (MatchBool-at_true _ _ (ap (λ c. c.steady) (sym gave.gave.claims) ∙ still) gave.gave.steady)
      ]

  steady_stays : (s : Buffered S P) (bytes : List ℕ) (t : Buffered S P) → Steady s → HandedFront remaining rules s bytes t
      → (met s ≤ met t) × Steady t
  steady_stays s bytes t steady front =
      let faults = front.keeps.grows.faults in (
        omega (arith, ap length faults.equal, length-append s.log.reads.faults faults.more),
        ap (λ c. c.steady) front.keeps.claims ∙ steady,
      )

  module _ (s : Buffered S P) (was out : List ℕ) (t : Buffered S P) (e : Error)
      (r : ReadsExactly remaining rules s was (Err e) out t) where
    abbrev last : Buffered S P
    last = r.ended.row.last.0

    failed : (answer : Result ℕ Error) → EndsBy UnexpectedEof answer e
        → OneRead remaining rules last r.ended.row.last.1 answer r.ended.slice t
        → ReadErrorCaused {A = ℕ} rules last (Err e) t ⊎ ((error_kind e ≡ UnexpectedEof) × EmptyReadCaused rules last t)
    failed (Ok k) ends read = inr (
      ends.1,
      read.empty (ap (λ n. Ok n) ends.0)
          (last_some (OneRead remaining rules) (HandedFront remaining rules) s was out t e r),
    )
    failed (Err x) ends read = inl (subst (λ y. ReadErrorCaused {A = ℕ} rules last (Err y) t) ends read.caused)

  -- why it failed, and how often
  pub exact_caused : (s : Buffered S P) (was : List ℕ) (answer : Result (Unit {0}) Error) (out : List ℕ) (t : Buffered S P)
      → ReadsExactly remaining rules s was answer out t
      → IfErr answer (λ e. ReadExactErrorCaused remaining rules s out e t)
  exact_caused s was (Ok x) out t r = tt
  exact_caused s was (Err e) out t r = record {
    count = r.count;
    fewer = r.ended.fewer;
    before = last s was out t e r;
    begun = last_begun (OneRead remaining rules) (HandedFront remaining rules) (HandedFront-joins remaining rules)
        (OneRead-tells remaining rules) s was out t e r;
    why = failed s was out t e r r.ended.answer r.ended.ends r.ended.row.went;
  }

  pub exact_few : (s : Buffered S P) (was : List ℕ) (answer : Result (Unit {0}) Error) (out : List ℕ) (t : Buffered S P)
      → ReadsExactly remaining rules s was answer out t
      → met t ≤ met s + interrupt_limit * length out + failure_count answer
  exact_few = all_few (OneRead remaining rules) (HandedFront remaining rules) met one_met

  pub exact_often : (s : Buffered S P) (was : List ℕ) (answer : Result (Unit {0}) Error) (out : List ℕ) (t : Buffered S P)
      → ReadsExactly remaining rules s was answer out t → Steady s
      → IfErr answer (λ e. IsInterrupt e → met s + interrupt_limit + 1 ≤ met t)
  exact_often = all_often (OneRead remaining rules) (HandedFront remaining rules) met one_met Steady steady_met steady_stays
