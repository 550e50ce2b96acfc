-- How often the reader inside gives nothing in one fill; where a read is ordered over an empty buffer alone, at its end.
use Rattle.std.proofs.Common.{◌≡◌, ℕ, zero, suc, ◌+◌, ◌<◌, ◌≤◌, ◌==◌, true, length, Result, Ok, Err, inl, inr, refl, sym, ap, ◌∙◌, arith, append-nil}
use Rattle.std.proofs.lemmas.Bool.Decides.{nat_tests}
use Rattle.std.specs.declared.io.Error.{Error}
use Rattle.redux_buffer.specs.Block.{Block}
use Rattle.buffer_redux.specs.declared.policy.DoRead.{DoRead}
use Rattle.buffer_redux.specs.Policy.{ReadRules, read_now, std_read_rules}
use Rattle.redux_buffer.specs.StreamLog.{zero_of_none}
use Rattle.buffer_redux.specs.Buffered.{Buffered}
use Rattle.buffer_redux.specs.Fill.{Ends, Filled, Ordered, Turns}
use Rattle.buffer_redux.specs.FillLaws.{Turns-gave}

-- the rules order a read over an empty buffer alone, as those of `StdPolicy` do
abbrev pub ReadsWhenEmpty : {P : Type 0} → ReadRules P → Type 0
ReadsWhenEmpty {P} rules = (p : P) (b : Block) (p' : P) (b' : Block) → rules.before_read p b read_now p' b' → length b.bytes ≡ 0

-- and leave the buffer as it is
pub record ReadsWhole {P : Type 0} (rules : ReadRules P) : Type 0 where
  pub orders : ReadsWhenEmpty rules
  pub before : (p : P) (b : Block) (answer : Result DoRead Error) (p' : P) (b' : Block)
      → rules.before_read p b answer p' b' → b' ≡ b
  pub after : (p : P) (b : Block) (n : ℕ) (p' : P) (b' : Block) → rules.after_consume p b n p' b' → b' ≡ b

none_of : (n : ℕ) → true ≡ (n == 0) → n ≡ 0
none_of n is = grind (arith, nat_tests)

pub ReadsWhenEmpty-std : {P : Type 0} → ReadsWhenEmpty (std_read_rules {P = P})
ReadsWhenEmpty-std p b p' b' allowed = none_of (length b.bytes) allowed.2

std_before : {P : Type 0} (p : P) (b : Block) (answer : Result DoRead Error) (p' : P) (b' : Block)
    → (std_read_rules {P = P}).before_read p b answer p' b' → b' ≡ b
std_before p b (Ok d) p' b' allowed = allowed.1
std_before p b (Err e) p' b' allowed = absurd allowed

pub ReadsWhole-std : {P : Type 0} → ReadsWhole (std_read_rules {P = P})
ReadsWhole-std = record {
  orders = ReadsWhenEmpty-std;
  before = std_before;
  after = λ p b n p' b' allowed. allowed.1;
}

-- one fill is answered with nothing once at most, under any policy
pub fill_once : {S P A : Type 0} (rules : ReadRules P) (s t : Buffered S P) (answer : Result A Error) → Filled rules s answer t
    → t.log.reads.zero_reads ≤ s.log.reads.zero_reads + 1
fill_once rules s t (Ok a) f =
    let gave = Turns-gave rules f.count s f.last f.turns in
    elim f.ends [
      | inl declined ↦ omega (arith, gave, ap (λ l. l.reads.zero_reads) declined.told)
      | inr (inl full) ↦ omega (arith, gave, ap (λ l. l.reads.zero_reads) full.1.told)
      | inr (inr end) ↦ omega (
        arith,
        gave,
        ap (λ l. l.reads.zero_reads) end.read.told,
        zero_of_none 0 end.read.out f.last.log.reads.zero_reads refl (omega (arith, end.read.offered, end.room)),
      )
    ]
fill_once rules s t (Err e) f =
    let gave = Turns-gave rules f.count s f.last f.turns in
    elim f.ends [
      | inl refused ↦ omega (arith, gave, ap (λ l. l.reads.zero_reads) refused.told)
      | inr faulted ↦ omega (arith, gave, ap (λ l. l.reads.zero_reads) faulted.read.told)
    ]

module _ {S P A : Type 0} (rules : ReadRules P) (orders : ReadsWhenEmpty rules) (s t : Buffered S P) where
  -- a fill that failed
  pub none_before_fault : (e : Error) → Filled {A = A} rules s (Err e) t → t.log.reads.zero_reads ≡ s.log.reads.zero_reads
  none_before_fault e f =
      let gave = Turns-gave rules f.count s f.last f.turns in
      elim f.ends [
        | inl refused ↦ ap (λ l. l.reads.zero_reads) refused.told ∙ gave
        | inr faulted ↦ ap (λ l. l.reads.zero_reads) faulted.read.told ∙ gave
      ]

  module _ (a : A) (f : Filled rules s (Ok a) t) where
    dry_shows_none : Ordered rules (Ok 0) f.last t → length t.block.bytes ≡ 0
    dry_shows_none end =
        let asked = end.asked in
        ap length (end.read.added.bytes ∙ append-nil end.seen.bytes ∙ asked.law.bytes)
        ∙ orders f.last.policy f.last.block t.policy end.seen asked.allowed

    -- one that shows bytes, and any
    pub none_where_shown : 0 < length t.block.bytes → t.log.reads.zero_reads ≡ s.log.reads.zero_reads
    none_where_shown some =
        let gave = Turns-gave rules f.count s f.last f.turns in
        elim f.ends [
          | inl declined ↦ ap (λ l. l.reads.zero_reads) declined.told ∙ gave
          | inr (inl full) ↦ ap (λ l. l.reads.zero_reads) full.1.told ∙ gave
          | inr (inr end) ↦ absurd (omega (arith, dry_shows_none end, some))
        ]

-- where the policy leaves the buffer, a fill leaves its capacity
module _ {S P : Type 0} (rules : ReadRules P) (leaves : ReadsWhole rules) where
  ordered_capacity : (answer : Result ℕ Error) (s t : Buffered S P) → Ordered rules answer s t
      → t.block.capacity ≡ s.block.capacity
  ordered_capacity answer s t a =
      a.read.added.capacity ∙ ap (λ b. b.capacity) (leaves.before _ _ _ _ _ a.asked.allowed)

  turns_capacity : (k : ℕ) (s t : Buffered S P) → Turns rules k s t → t.block.capacity ≡ s.block.capacity
  turns_capacity zero s t same = ap (λ x. x.block.capacity) (sym same)
  turns_capacity (suc k) s t (m, run, count, some, turn) = ordered_capacity (Ok count) m t turn ∙ turns_capacity k s m run

  ends_capacity : {A : Type 0} (answer : Result A Error) (s t : Buffered S P) → Ends rules s answer t
      → t.block.capacity ≡ s.block.capacity
  ends_capacity (Ok a) s t (inl declined) = ap (λ b. b.capacity) (leaves.before _ _ _ _ _ declined.asked.allowed)
  ends_capacity (Ok a) s t (inr (inl full)) = ap (λ b. b.capacity) (leaves.before _ _ _ _ _ full.1.asked.allowed)
  ends_capacity (Ok a) s t (inr (inr dry)) = ordered_capacity (Ok 0) s t dry
  ends_capacity (Err e) s t (inl refused) = ap (λ b. b.capacity) (leaves.before _ _ _ _ _ refused.asked.allowed)
  ends_capacity (Err e) s t (inr fault) = ordered_capacity (Err e) s t fault

  pub Filled-capacity : {A : Type 0} (s : Buffered S P) (answer : Result A Error) (t : Buffered S P)
      → Filled rules s answer t → t.block.capacity ≡ s.block.capacity
  Filled-capacity s answer t f = ends_capacity answer f.last t f.ends ∙ turns_capacity f.count s f.last f.turns
