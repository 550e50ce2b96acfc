-- Laws of pieces whose payloads are shown without a carriage return.
use Rattle.std.specs.Prelude.{◌≡◌, ℕ, List, [], ◌∷◌, ◌++◌, length}
use Rattle.std.proofs.Common.{sym, ap, ◌∙◌, arith, inl, inr, refl, append_assoc, append-nil, length-append, subst}
use Rattle.std.proofs.lemmas.Bool.{cases_lt}
use Rattle.std.proofs.lemmas.List.{append_cancel_right}
use Rattle.piece_reader.specs.Grammar.{Grammar, IsLawful, IsOpen}
use Rattle.piece_reader.specs.GrammarLaws.{open_as}
use Rattle.piece_reader.specs.Trimming.{IsTrimmed, trimming}

-- bytes are shown in one way
trimmed_same : (bytes a b : List ℕ) → IsTrimmed bytes a → IsTrimmed bytes b → a ≡ b
trimmed_same bytes a b (inl is) (inl is') = append_cancel_right a b (13 ∷ []) (sym is ∙ is')
trimmed_same bytes a b (inl is) (inr other) = absurd (other.1 a is)
trimmed_same bytes a b (inr other) (inl is) = absurd (other.1 b is)
trimmed_same bytes a b (inr is) (inr is') = sym is.0 ∙ is'.0

-- what is shown stands in front in the bytes
pub trimmed_front : (bytes shown : List ℕ) → IsTrimmed bytes shown → (more : List ℕ) × (bytes ≡ shown ++ more)
trimmed_front bytes shown (inl is) = (13 ∷ [], is)
trimmed_front bytes shown (inr whole) = ([], whole.0 ∙ sym (append-nil shown))

-- one byte is a carriage return, or is not
trimmed_one : (byte : ℕ) → (shown : List ℕ) × IsTrimmed (byte ∷ []) shown
trimmed_one byte =
    let other : ¬ (byte ≡ 13) → (shown : List ℕ) × IsTrimmed (byte ∷ []) shown =
    λ isnt. (byte ∷ [], inr (refl, λ front is. ends front is isnt)) in
    elim (cases_lt byte 13) [
      | inl less ↦ other (λ is. omega (arith, less, is))
      | inr many ↦ elim (cases_lt 13 byte) [
        | inl above ↦ other (λ is. omega (arith, above, is))
        | inr few ↦
            let is : byte ≡ 13 = omega (arith, many, few) in
            ([], inl (ap (λ b. b ∷ []) is))
      ]
    ]
  where
    ends : (front : List ℕ) → byte ∷ [] ≡ front ++ 13 ∷ [] → ¬ (byte ≡ 13) → ⊥
    ends [] is isnt = isnt (let e : byte ≡ 13 = cc in e)
    ends (b ∷ front) is isnt = omega (arith, ap length is, length-append front (13 ∷ []))

-- bytes are shown in some way
trimmed_is : (bytes : List ℕ) → (shown : List ℕ) × IsTrimmed bytes shown
trimmed_is [] = ([], inr (refl, λ front is. omega (arith, ap length is, length-append front (13 ∷ []))))
trimmed_is (a ∷ []) = trimmed_one a
trimmed_is (a ∷ b ∷ bytes) =
    let later = trimmed_is (b ∷ bytes) in
    elim later.1 [
      | inl is ↦ (a ∷ later.0, inl (ap (λ l. a ∷ l) is))
      | inr other ↦ (a ∷ b ∷ bytes, inr (refl, λ front is. behind front is other))
    ]
  where
    behind : {shown : List ℕ} (front : List ℕ) → a ∷ b ∷ bytes ≡ front ++ 13 ∷ []
        → (b ∷ bytes ≡ shown) × ((f : List ℕ) → ¬ (b ∷ bytes ≡ f ++ 13 ∷ [])) → ⊥
    behind [] is other = omega (arith, ap length is)
    behind (x ∷ front) is other = other.1 front (let e : b ∷ bytes ≡ front ++ 13 ∷ [] = cc in e)

module _ {W : Type 0} (g : Grammar W) where
  -- bytes that settle nothing do so however a piece is shown
  pub open_shown : (bytes : List ℕ) → IsOpen (trimming g) bytes → IsOpen g bytes
  open_shown bytes = open_as (trimming g) g bytes
      (λ piece payload is. let shown = trimmed_is payload in (shown.0, (payload, is, shown.1))) (λ e wrong. (e, wrong))

  pub trimming_lawful : IsLawful g → IsLawful (trimming g)
  trimming_lawful law = record {
    one = λ p q xs ys a b is is' same.
        let parts = law.one p q xs ys is.0 is'.0 is.1 is'.1 same in
        (parts.0, trimmed_same is'.0 a b (subst (λ l. IsTrimmed l a) parts.1 is.2) is'.2);
    some = λ p a is. law.some p is.0 is.1;
    room = law.room;
    apart = λ p a more e is. law.apart p is.0 more e is.1;
    reason = law.reason;
    stays = law.stays;
    nothing = law.nothing;
    one_last = law.one_last;
    end_apart = law.end_apart;
  }

  -- what is shown stands in front in the piece
  pub trimming_front : ((bytes payload : List ℕ) → g.piece bytes payload → (more : List ℕ) × (bytes ≡ payload ++ more))
      → (bytes shown : List ℕ) → (trimming g).piece bytes shown → (more : List ℕ) × (bytes ≡ shown ++ more)
  trimming_front front bytes shown (payload, is, trims) =
      let whole = front bytes payload is in
      let rest = trimmed_front payload shown trims in
      (rest.0 ++ whole.0, whole.1 ∙ ap (λ l. l ++ whole.0) rest.1 ∙ append_assoc shown rest.0 whole.0)
