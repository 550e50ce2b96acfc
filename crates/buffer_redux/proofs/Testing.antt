-- What a test of a number for zero says.
use Rattle.std.proofs.Common.{◌≡◌, ◌<◌, ◌==◌, ℕ, true, false, zero, suc, refl, arith}

pub zero_of : (n : ℕ) → (n == 0) ≡ true → n ≡ 0
zero_of zero is = refl
zero_of (suc n) is = grind (arith, is)

pub some_of : (n : ℕ) → (n == 0) ≡ false → 0 < n
some_of zero is = absurd (let odd = is in cc)
some_of (suc n) is = omega arith
