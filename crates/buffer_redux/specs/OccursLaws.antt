-- Where a needle stands in bytes, and in more and fewer of them.
use Rattle.std.proofs.Common.{◌≡◌, ℕ, suc, ◌+◌, ◌-◌, ◌≤◌, List, [], ◌∷◌, ◌++◌, length, take, drop, sym, ap, refl, subst, ◌∙◌, arith, get_or, length-append, length-take-le, inl, inr}
use Rattle.std.proofs.Math.Seq.{take-append-add}
use Rattle.std.proofs.lemmas.List.{get_or_append_left, get_or-append_right, take_at, take-append-drop}
use Rattle.std.proofs.lemmas.Bool.{cases_lt}
use Rattle.memchr.specs.Find.{Nowhere, OccursAt}

-- what stands in bytes stands in more, at the same place
pub OccursAt-more : (a b needle : List ℕ) (k : ℕ) → OccursAt a needle k → OccursAt (a ++ b) needle k
OccursAt-more a b needle k o = record {
  fits = omega (arith, o.fits, length-append a b);
  reads = λ j h. get_or_append_left a b 0 (k + j) (omega (arith, o.fits, h)) ∙ o.reads j h;
}

-- and in fewer, where it fits
pub OccursAt-fewer : (a b needle : List ℕ) (k : ℕ) → k + length needle ≤ length a → OccursAt (a ++ b) needle k
    → OccursAt a needle k
OccursAt-fewer a b needle k fits o = record {
  fits = fits;
  reads = λ j h. sym (get_or_append_left a b 0 (k + j) (omega (arith, fits, h))) ∙ o.reads j h;
}

moved : (a k j : ℕ) → a ≤ k → (k - a) + j ≡ (k + j) - a
moved a k j behind = omega arith

-- what stands behind the first bytes stands in the others
pub OccursAt-behind : (a b needle : List ℕ) (k : ℕ) → length a ≤ k → OccursAt (a ++ b) needle k
    → OccursAt b needle (k - length a)
OccursAt-behind a b needle k behind o = record {
  fits = omega (arith, o.fits, behind, length-append a b);
  reads = λ j h.
      ap (λ i. get_or b i 0) (moved (length a) k j behind)
      ∙ sym (get_or-append_right a b (length a) (k + j) 0 refl (omega (arith, behind)))
      ∙ o.reads j h;
}

moved_back : (a k j : ℕ) → ((a + k) + j) - a ≡ k + j
moved_back a k j = omega arith

-- and the other way
pub OccursAt-later : (a b needle : List ℕ) (k : ℕ) → OccursAt b needle k → OccursAt (a ++ b) needle (length a + k)
OccursAt-later a b needle k o = record {
  fits = omega (arith, o.fits, length-append a b);
  reads = λ j h.
      get_or-append_right a b (length a) ((length a + k) + j) 0 refl (omega arith)
      ∙ ap (λ i. get_or b i 0) (moved_back (length a) k j) ∙ o.reads j h;
}

pub OccursAt-self : (needle : List ℕ) → OccursAt needle needle 0
OccursAt-self needle = record {
  fits = omega arith;
  reads = λ j h. let same : 0 + j ≡ j = omega arith in
      ap (λ i. get_or needle i 0) same;
}

plus_nothing : (n : ℕ) → n + 0 ≡ n
plus_nothing n = omega arith

pub OccursAt-last : (text needle : List ℕ) → OccursAt (text ++ needle) needle (length text)
OccursAt-last text needle =
    subst (OccursAt (text ++ needle) needle) (plus_nothing (length text))
    (OccursAt-later text needle needle 0 (OccursAt-self needle))

-- where it stands in front it is the first bytes
pub OccursAt-front : (bytes needle : List ℕ) → OccursAt bytes needle 0 → take (length needle) bytes ≡ needle
OccursAt-front [] [] o = refl
OccursAt-front [] (x ∷ needle) o = absurd (omega (arith, o.fits))
OccursAt-front (y ∷ bytes) [] o = refl
OccursAt-front (y ∷ bytes) (x ∷ needle) o =
    let first : y ≡ x = o.reads 0 (omega arith) in
    let rest : OccursAt bytes needle 0 = record {
      fits = omega (arith, o.fits);
      reads = λ j h.
          let here : 0 + j ≡ j = omega arith in
          let later : 0 + suc j ≡ suc j = omega arith in
          ap (λ i. get_or bytes i 0) here ∙ sym (ap (λ i. get_or (y ∷ bytes) i 0) later)
          ∙ o.reads (suc j) (omega (arith, h));
    } in
    ap (λ z. z ∷ take (length needle) bytes) first ∙ ap (λ l. x ∷ l) (OccursAt-front bytes needle rest)

-- and elsewhere it is what stands from there on
pub OccursAt-take : (bytes needle : List ℕ) (k : ℕ) → OccursAt bytes needle k
    → take (k + length needle) bytes ≡ take k bytes ++ needle
OccursAt-take bytes needle k o =
    let size : length (take k bytes) ≡ k = length-take-le k bytes (omega (arith, o.fits)) in
    let none : k - length (take k bytes) ≡ 0 = omega (arith, size) in
    let here : OccursAt (drop k bytes) needle 0 =
    subst (OccursAt (drop k bytes) needle) none
    (OccursAt-behind (take k bytes) (drop k bytes) needle k (omega (arith, size))
    (subst (λ l. OccursAt l needle k) (sym (take-append-drop k bytes)) o)) in
    ap (λ n. take (n + length needle) bytes) (sym size)
    ∙ ap (take (length (take k bytes) + length needle)) (sym (take-append-drop k bytes))
    ∙ take-append-add (take k bytes) (drop k bytes) (length needle)
    ∙ ap (λ l. take k bytes ++ l) (OccursAt-front (drop k bytes) needle here)

module _ (needle : List ℕ) where
  -- these bytes are `front` and the needle, which stands nowhere before
  abbrev EndsFirst : List ℕ → List ℕ → Type 0
  EndsFirst bytes front = (bytes ≡ front ++ needle) × Nowhere (OccursAt bytes needle) 0 (length front)

  -- of two such that begin the same bytes neither front is longer
  not_first : (a b x y xs ys : List ℕ) → EndsFirst a x → EndsFirst b y → a ++ xs ≡ b ++ ys → length y ≤ length x
  not_first a b x y xs ys p q same = elim (cases_lt (length x) (length y)) [
    | inr long ↦ long
    | inl short ↦
        let here : OccursAt (b ++ ys) needle (length x) =
        subst (λ l. OccursAt l needle (length x)) same
        (OccursAt-more a xs needle (length x)
        (subst (λ l. OccursAt l needle (length x)) (sym p.0) (OccursAt-last x needle))) in
        absurd (q.1 (length x) (omega arith) short
        (OccursAt-fewer b ys needle (length x) (omega (arith, short, ap length q.0, length-append y needle)) here))
  ]

  -- they are the same, and so are the fronts
  pub OccursAt-one : (a b x y xs ys : List ℕ) → a ≡ x ++ needle → Nowhere (OccursAt a needle) 0 (length x)
      → b ≡ y ++ needle → Nowhere (OccursAt b needle) 0 (length y) → a ++ xs ≡ b ++ ys → (a ≡ b) × (x ≡ y)
  OccursAt-one a b x y xs ys is none is' none' same =
      let len : length y ≡ length x =
      omega (
        arith,
        not_first a b x y xs ys (is, none) (is', none') same,
        not_first b a y x ys xs (is', none') (is, none) (sym same),
      ) in
      let long : length b ≡ length a =
      omega (arith, len, ap length is, ap length is', length-append x needle, length-append y needle) in
      let equal : a ≡ b =
      sym (take_at a xs (length a) refl) ∙ ap (take (length a)) same ∙ take_at b ys (length a) long in (
        equal,
        sym (take_at x needle (length x) refl) ∙ ap (take (length x)) (sym is ∙ equal ∙ is') ∙ take_at y needle (length x) len,
      )
