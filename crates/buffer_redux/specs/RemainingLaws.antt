-- Where what is ahead of a buffered reader is known, its policy wants bytes, and there is some capacity.
use Rattle.std.specs.Prelude.{◌≡◌, ℕ, ◌<◌, ◌==◌, ◌||◌, ◌⊎◌, not, nat_lt, Bool, Option, None, Some, true, false}
use Rattle.std.proofs.Common.{zero, suc, refl, arith, inl, inr}
use Rattle.std.proofs.lemmas.Bool.{not-false}
use Rattle.buffer_redux.specs.Policy.{ReadRules}
use Rattle.buffer_redux.specs.Buffered.{Buffered}
use Rattle.buffer_redux.specs.ReaderLaws.{WantsBytes}
use Rattle.buffer_redux.specs.Remaining.{may_stop}
use Rattle.std.specs.Option.{IsSomeAnd, unwrap_or}

or_is_false : (a b : Bool) → (a || b) ≡ false → (a ≡ false) × (b ≡ false)
or_is_false true b e = cc
or_is_false false b e = (refl, e)

wants_some_if : (m : Option ℕ) → nat_lt 0 (unwrap_or m 0) ≡ true → IsSomeAnd m (λ n. 0 < n)
wants_some_if None e = cc
wants_some_if (Some n) e = grind (arith, e)

wants_if : (st : Bool) (m : Option ℕ) → not (st || nat_lt 0 (unwrap_or m 0)) ≡ false
    → (st ≡ true) ⊎ IsSomeAnd m (λ n. 0 < n)
wants_if true m e = inl refl
wants_if false m e = inr (wants_some_if m (not-false (nat_lt 0 (unwrap_or m 0)) e))

has_room : (c : ℕ) → (c == 0) ≡ false → 0 < c
has_room zero e = cc
has_room (suc c) e = omega arith

pub may_stop-false : {S P : Type 0} (rules : ReadRules P) (s : Buffered S P) → may_stop rules s ≡ false
    → WantsBytes (rules.claims s.policy) × (0 < s.block.capacity)
may_stop-false rules s is =
    let both =
    or_is_false (not ((rules.claims s.policy).steady || nat_lt 0 (unwrap_or (rules.claims s.policy).minimum 0)))
    (s.block.capacity == 0) is in (
      wants_if (rules.claims s.policy).steady (rules.claims s.policy).minimum both.0,
      has_room s.block.capacity both.1,
    )
