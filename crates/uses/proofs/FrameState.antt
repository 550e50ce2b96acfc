-- Frames tell the records that they were made of.
use Rattle.std.proofs.Common.{◌≡◌, ℕ, ◌/◌, ◌%◌, List, [], ◌∷◌, ◌++◌, length, map, get_or, take, drop, vec_items, sym, ap, ◌∙◌, arith, refl}
use Rattle.std.proofs.Math.Seq.{take-append_seam, drop-append_seam}
use Rattle.std.proofs.lemmas.List.Elements.{All-head, All-tail}
use Rattle.std.specs.declared.vec.Vec.{Vec}
use Rattle.uses.specs.Records.{with_length, with_lengths, IsShort, AreShort}

same_front : (a b x y : List ℕ) → IsShort a → IsShort b → with_length a ++ x ≡ with_length b ++ y → (a ≡ b) × (x ≡ y)
same_front a b x y short_a short_b same =
    let high : length a / 256 % 256 ≡ length b / 256 % 256 = ap (λ l. get_or l 0 0) same in
    let low : length a % 256 ≡ length b % 256 = ap (λ l. get_or l 1 0) same in
    let long : length a ≡ length b = omega (arith, high, low, short_a, short_b) in
    let rest : a ++ x ≡ b ++ y = ap (drop 2) same in (
      sym (take-append_seam a x) ∙ (λ i. take (long i) (rest i)) ∙ take-append_seam b y,
      sym (drop-append_seam a x) ∙ (λ i. drop (long i) (rest i)) ∙ drop-append_seam b y,
    )

pub frames_same : {A : Type 0} (xs ys : List (Vec ℕ A)) → AreShort xs → AreShort ys → with_lengths xs ≡ with_lengths ys
    → map vec_items xs ≡ map vec_items ys
frames_same [] [] short_x short_y same = refl
frames_same [] (y ∷ ys) short_x short_y same = absurd (omega (arith, ap length same))
frames_same (x ∷ xs) [] short_x short_y same = absurd (omega (arith, ap length same))
frames_same {A} (x ∷ xs) (y ∷ ys) short_x short_y same =
    let P : Vec ℕ A → Type 0 = λ v. IsShort (vec_items v) in
    let both = same_front (vec_items x) (vec_items y) (with_lengths xs) (with_lengths ys)
    (All-head P x xs short_x) (All-head P y ys short_y) same in
    let rest = frames_same xs ys (All-tail P x xs short_x) (All-tail P y ys short_y) both.1 in
    λ i. both.0 i ∷ rest i
