-- A fill where the policy's minimum is there leaves the buffer as it was.
use Rattle.std.proofs.Common.{◌≡◌, ◌≤◌, ℕ, zero, suc, Result, Ok, Err, inl, inr, length, subst, sym, arith}
use Rattle.std.specs.declared.io.Error.{Error}
use Rattle.buffer_redux.specs.Block.{Block}
use Rattle.buffer_redux.specs.Buffered.{Buffered}
use Rattle.buffer_redux.specs.Fill.{Ends, Filled, Turns}
use Rattle.buffer_redux.specs.MinBuffered.{min_read_rules}
use Rattle.buffer_redux.specs.Policy.{BeforeRead, ReadRules, no_read, read_now}
use Rattle.buffer_redux.specs.declared.policy.MinBuffered.{MinBuffered}
use Rattle.uses.specs.OwnPolicy.{sixteen_rules}
use Rattle.uses.specs.declared.own_policy.HeaderFirst.{HeaderFirst}

module _ {S P : Type 0} (rules : ReadRules P) (s : Buffered S P)
    (never : (p : P) (b : Block) → ¬ (BeforeRead rules s.policy s.block read_now p b))
    (fails : (e : Error) (p : P) (b : Block) → ¬ (BeforeRead rules s.policy s.block (Err e) p b))
    (leaves : (p : P) (b : Block) → BeforeRead rules s.policy s.block no_read p b → b ≡ s.block) where
  no_turn : (k : ℕ) (t : Buffered S P) → ¬ (Turns rules (suc k) s t)
  no_turn zero t (m, same, count, some, turn) = never t.policy turn.seen
      (subst (λ x. BeforeRead rules x.policy x.block read_now t.policy turn.seen) (sym same) turn.asked)
  no_turn (suc k) t (m, run, count, some, turn) = no_turn k m run

  ends_still : {A : Type 0} (answer : Result A Error) (t : Buffered S P) → Ends rules s answer t → t.block ≡ s.block
  ends_still (Ok a) t ends = elim ends [
    | inl declined ↦ leaves t.policy t.block declined.asked
    | inr (inl full) ↦ absurd (never t.policy t.block full.1.asked)
    | inr (inr dry) ↦ absurd (never t.policy dry.seen dry.asked)
  ]
  ends_still (Err e) t ends = elim ends [
    | inl refused ↦ absurd (fails e t.policy t.block refused.asked)
    | inr fault ↦ absurd (never t.policy fault.seen fault.asked)
  ]

  fill_still : {A : Type 0} (answer : Result A Error) (t : Buffered S P) → Filled rules s answer t → t.block ≡ s.block
  fill_still answer t f = of f.count f.turns
    where
      of : (k : ℕ) → Turns rules k s f.last → t.block ≡ s.block
      of zero same = ends_still answer t (subst (λ m. Ends rules m answer t) (sym same) f.ends)
      of (suc k) run = absurd (no_turn k f.last run)

-- under a number of bytes that are there
pub min_still : {S A : Type 0} (s : Buffered S MinBuffered) (answer : Result A Error) (t : Buffered S MinBuffered)
    → s.policy.0 ≤ length s.block.bytes → Filled min_read_rules s answer t → t.block ≡ s.block
min_still s answer t many = fill_still min_read_rules s
    (λ p b asked. omega (arith, asked.minimum.ok.0, many))
    (λ e p b asked. omega (arith, asked.minimum.err, many))
    (λ p b asked. asked.allowed.1.1) answer t

pub sixteen_still : {S A : Type 0} (s : Buffered S HeaderFirst) (answer : Result A Error) (t : Buffered S HeaderFirst)
    → 16 ≤ length s.block.bytes → Filled sixteen_rules s answer t → t.block ≡ s.block
sixteen_still s answer t many = fill_still sixteen_rules s
    (λ p b asked. omega (arith, asked.minimum.ok.0, many))
    (λ e p b asked. omega (arith, asked.minimum.err, many))
    (λ p b asked. asked.allowed.1) answer t
