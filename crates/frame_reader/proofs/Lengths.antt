-- The length that a frame begins with.
use Rattle.std.proofs.Common.{◌≡◌, ℕ, zero, suc, ◌<◌, ◌≤◌, List, [], ◌∷◌, ◌++◌, length, get_or, refl, sym, ap, arith}
use Rattle.std.specs.Prelude.{slice_index}
use Rattle.std.specs.Int.{w16, from_be_bytes}
use Rattle.std.proofs.lemmas.Nat.{be_bytes_2}
use Rattle.frame_reader.specs.Frames.{BeginsWith}

small_2 : (a b : ℕ) (xs : List ℕ) → ((i : ℕ) → get_or (a ∷ b ∷ xs) i 0 < 256) → (i : ℕ) → get_or (a ∷ b ∷ []) i 0 < 256
small_2 a b xs small zero = small 0
small_2 a b xs small (suc zero) = small 1
small_2 a b xs small (suc (suc i)) = omega arith

pub BeginsWith-first : (bytes : List ℕ) (n : ℕ) → 2 ≤ length bytes → ((i : ℕ) → get_or bytes i 0 < 256)
    → n ≡ from_be_bytes w16 (slice_index bytes 0 ∷ slice_index bytes 1 ∷ []) → BeginsWith n bytes
BeginsWith-first [] n long small is = absurd (omega arith)
BeginsWith-first (a ∷ []) n long small is = absurd (omega arith)
BeginsWith-first (a ∷ b ∷ more) n long small is = record {
  word = omega (arith, small 0, small 1, is);
  more = more;
  equal = ap (λ l. l ++ more) (sym (be_bytes_2 (a ∷ b ∷ []) n refl (small_2 a b more small) is));
}
