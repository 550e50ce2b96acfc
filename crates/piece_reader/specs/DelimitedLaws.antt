-- Laws of pieces that a byte ends.
use Rattle.std.specs.Prelude.{◌≡◌, ℕ, ◌+◌, ◌<◌, ◌≤◌, ◌⊎◌, List, [], ◌∷◌, ◌++◌, length, take}
use Rattle.std.proofs.Common.{zero, suc, sym, ap, subst, ◌∙◌, arith, refl, inl, inr, length-append, append_assoc}
use Rattle.std.proofs.lemmas.Bool.{cases_lt}
use Rattle.std.proofs.lemmas.List.{take-append-le}
use Rattle.std.proofs.lemmas.List.Elements.{All-nil, All-cons, All-head, All-tail, All-take}
use Rattle.piece_reader.specs.Delimited.{delimited}
use Rattle.piece_reader.specs.Grammar.{IsLawful, IsOpen}
use Rattle.piece_reader.specs.Plain.{IsPlain}

module _ (end : ℕ) where
  abbrev pub isnt_end : ℕ → Type 0
  isnt_end byte = ¬ (byte ≡ end)

  -- bytes begin with plain ones and an end in one way
  pub plain-same : (p q xs ys : List ℕ) → IsPlain end p → IsPlain end q → p ++ end ∷ xs ≡ q ++ end ∷ ys
      → (p ≡ q) × (xs ≡ ys)
  plain-same [] [] xs ys plain plain' same = (refl, cc)
  plain-same [] (b ∷ q) xs ys plain plain' same =
      let is : end ≡ b = cc in
      absurd (All-head isnt_end b q plain' (sym is))
  plain-same (a ∷ p) [] xs ys plain plain' same =
      let is : a ≡ end = cc in
      absurd (All-head isnt_end a p plain is)
  plain-same (a ∷ p) (b ∷ q) xs ys plain plain' same =
      let first : a ≡ b = cc in
      let more : p ++ end ∷ xs ≡ q ++ end ∷ ys = cc in
      let parts = plain-same p q xs ys (All-tail isnt_end a p plain) (All-tail isnt_end b q plain') more in
      (ap (λ x. x ∷ p) first ∙ ap (λ l. b ∷ l) parts.0, parts.1)

  -- an end behind at most max bytes is one of the first max + 1
  pub end-within : (p more : List ℕ) (max : ℕ) → length p ≤ max → ¬ (IsPlain end (take (1 + max) (p ++ end ∷ more)))
  end-within [] more max fits plain =
      let count : 1 + max ≡ suc max = omega arith in
      All-head isnt_end end (take max more) (subst (λ n. IsPlain end (take n (end ∷ more))) count plain) refl
  end-within (byte ∷ p) more zero fits plain = absurd (omega (arith, fits))
  end-within (byte ∷ p) more (suc max) fits plain =
      let count : 1 + suc max ≡ suc (1 + max) = omega arith in
      end-within p more max (omega (arith, fits))
      (All-tail isnt_end byte (take (1 + max) (p ++ end ∷ more))
      (subst (λ n. IsPlain end (take n (byte ∷ p ++ end ∷ more))) count plain))

  -- what has an end isn't plain
  pub end_in : (p more : List ℕ) → ¬ (IsPlain end (p ++ end ∷ more))
  end_in [] more plain = All-head isnt_end end more plain refl
  end_in (byte ∷ p) more plain = end_in p more (All-tail isnt_end byte (p ++ end ∷ more) plain)

  -- bytes are plain, or have a first end
  pub first_end : (bytes : List ℕ)
      → IsPlain end bytes ⊎ ((p : List ℕ) × (more : List ℕ) × IsPlain end p × (bytes ≡ p ++ end ∷ more))
  first_end [] = inl (All-nil isnt_end)
  first_end (byte ∷ bytes) =
      let behind : ¬ (byte ≡ end) → IsPlain end (byte ∷ bytes)
      ⊎ ((p : List ℕ) × (more : List ℕ) × IsPlain end p × (byte ∷ bytes ≡ p ++ end ∷ more)) =
      λ isnt. elim (first_end bytes) [
        | inl plain ↦ inl (All-cons isnt_end byte bytes isnt plain)
        | inr at ↦ inr (byte ∷ at.0, at.1, All-cons isnt_end byte at.0 isnt at.2, ap (λ l. byte ∷ l) at.3)
      ] in
      elim (cases_lt byte end) [
        | inl less ↦ behind (λ is. omega (arith, less, is))
        | inr many ↦ elim (cases_lt end byte) [
          | inl above ↦ behind (λ is. omega (arith, above, is))
          | inr few ↦
              let is : byte ≡ end = omega (arith, many, few) in
              inr ([], bytes, All-nil isnt_end, ap (λ b. b ∷ bytes) is)
        ]
      ]

  module _ (max : ℕ) where
    -- what settles nothing is plain, and has at most max bytes
    pub open_plain : (bytes : List ℕ) → IsOpen (delimited end max) bytes → IsPlain end bytes × (length bytes ≤ max)
    open_plain bytes is =
        let long : max < length bytes → ¬ (IsPlain end (take (1 + max) bytes)) =
        λ above plain. is.not_wrong (record { 0 = max }) (above, plain, refl) in
        elim (first_end bytes) [
          | inl plain ↦ (
            plain,
            elim (cases_lt max (length bytes)) [
              | inl above ↦ absurd (long above (All-take isnt_end (1 + max) bytes plain))
              | inr few ↦ few
            ],
          )
          | inr at ↦ absurd (elim (cases_lt max (length at.0)) [
            | inl above ↦
                let size : max < length bytes =
                omega (arith, above, ap length at.3, length-append at.0 (end ∷ at.1)) in
                long size (subst (IsPlain end)
                (sym (ap (take (1 + max)) at.3 ∙ take-append-le (1 + max) at.0 (end ∷ at.1) (omega (arith, above))))
                (All-take isnt_end (1 + max) at.0 at.2))
            | inr fits ↦ is.no_piece (record {
              piece = at.0 ++ end ∷ [];
              payload = at.0;
              more = at.1;
              is = (at.2, fits, refl);
              equal = at.3 ∙ sym (append_assoc at.0 (end ∷ []) at.1);
            })
          ])
        ]

    -- what is plain, and has at most max bytes, settles nothing
    pub plain_open : (bytes : List ℕ) → IsPlain end bytes → length bytes ≤ max → IsOpen (delimited end max) bytes
    plain_open bytes plain few = record {
      no_piece = λ b.
          end_in b.payload b.more (subst (IsPlain end)
          (b.equal ∙ ap (λ l. l ++ b.more) b.is.2 ∙ append_assoc b.payload (end ∷ []) b.more) plain);
      not_wrong = λ e wrong. absurd (omega (arith, wrong.0, few));
    }

    cut : (p a xs : List ℕ) → (delimited end max).piece p a → p ++ xs ≡ a ++ end ∷ xs
    cut p a xs is = ap (λ l. l ++ xs) is.2 ∙ append_assoc a (end ∷ []) xs

    pub delimited_lawful : IsLawful (delimited end max)
    delimited_lawful = record {
      one = λ p q xs ys a b is is' same.
          let parts = plain-same a b xs ys is.0 is'.0 (sym (cut p a xs is) ∙ same ∙ cut q b ys is') in
          (is.2 ∙ ap (λ l. l ++ end ∷ []) parts.0 ∙ sym is'.2, parts.0);
      some = λ p a is. omega (arith, ap length is.2, length-append a (end ∷ []));
      room = omega arith;
      apart = λ p a more e is wrong.
          end-within a more max is.1 (subst (λ l. IsPlain end (take (1 + max) l)) (cut p a more is) wrong.1);
      reason = λ bytes e e' wrong wrong'. wrong.2 ∙ sym wrong'.2;
      stays = λ bytes more e wrong. (
        omega (arith, wrong.0, length-append bytes more),
        subst (IsPlain end) (sym (take-append-le (1 + max) bytes more (omega (arith, wrong.0)))) wrong.1,
        wrong.2,
      );
      nothing = λ e wrong. absurd (omega (arith, wrong.0));
      one_last = λ bytes a b is is'. is ∙ sym is';
      end_apart = λ bytes a e is cut. cut;
    }
