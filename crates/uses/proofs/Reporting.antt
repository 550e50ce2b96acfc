-- The numbers rise that a callback is called with.
use Rattle.std.proofs.Common.{◌≡◌, ℕ, ◌+◌, ◌-◌, ◌^◌, ◌<◌, ◌⊎◌, arith, inl, inr}
use Rattle.std.proofs.lemmas.Bool.{cases_lt}
use Rattle.std.specs.Io.Iter.{u64_saturate}

pub rises : (n k : ℕ) → 0 < k → (u64_saturate n < u64_saturate (n + k))
    ⊎ ((u64_saturate n ≡ u64_saturate (n + k)) × (u64_saturate (n + k) ≡ 2 ^ 64 - 1))
rises n k some = elim (cases_lt n (2 ^ 64 - 1)) [
  | inl less ↦ inl (omega (arith, less, some))
  | inr much ↦ inr (omega (arith, much), omega (arith, much))
]
