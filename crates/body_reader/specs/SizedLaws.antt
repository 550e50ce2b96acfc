-- Laws of bodies that have so many bytes.
use Rattle.std.proofs.Common.{◌≡◌, ℕ, [], replicate, take, sym, ap, refl, ◌∙◌, arith, append-nil}
use Rattle.std.proofs.lemmas.List.{length-replicate, take_at}
use Rattle.body_reader.specs.Coding.{IsLawful}
use Rattle.body_reader.specs.Sized.{sized}

pub sized_lawful : (n : ℕ) → IsLawful (sized n)
sized_lawful n = record {
  some = omega arith;
  begins = tt;
  alive = λ p is. (replicate p 0, replicate p 0, (length-replicate {A = ℕ} p 0, refl));
  nothing = λ p payload is c. c.1;
  never = λ p shown why rest payload is wrong c agree. wrong;
  reason = λ p shown why other is wrong. absurd wrong;
  stays = λ p shown more why is wrong. wrong;
  sure = λ p count is c. omega (
    arith,
    c.carries (replicate count 0) [] (replicate count 0) (omega (arith, length-replicate {A = ℕ} count 0))
        (append-nil (replicate count 0)),
    length-replicate {A = ℕ} count 0,
  );
  one = λ a b x y xs ys p q same.
      let equal : a ≡ b = sym (take_at a xs n p.0) ∙ ap (take n) same ∙ take_at b ys n q.0 in
      (equal, p.1 ∙ equal ∙ sym q.1);
}
