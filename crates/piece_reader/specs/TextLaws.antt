-- Laws of texts: they are pieces in one way.
use Rattle.std.specs.Prelude.{◌≡◌, ℕ, ◌<◌, List, [], ◌∷◌, ◌++◌, length}
use Rattle.std.proofs.Common.{sym, ap, subst, ◌∙◌, refl, arith, inl, inr, length-append}
use Rattle.std.proofs.lemmas.List.{append_cancel_left}
use Rattle.piece_reader.specs.Grammar.{Grammar, Begins, IsLawful, IsOpen}
use Rattle.piece_reader.specs.GrammarLaws.{open_not}
use Rattle.piece_reader.specs.Texts.{HasPieces, IsLast, IsPieces, Splits, StartsWith}

module _ {W : Type 0} (g : Grammar W) (law : IsLawful g) where
  -- bytes begin with one piece at most
  pub starts_same : (bytes a b more more' : List ℕ) → StartsWith g bytes a more → StartsWith g bytes b more'
      → (a ≡ b) × (more ≡ more')
  starts_same bytes a b more more' s t =
      let same = sym s.equal ∙ t.equal in
      let parts = law.one s.piece t.piece more more' a b s.is t.is same in
      (parts.1, append_cancel_left s.piece more more' (same ∙ ap (λ l. l ++ more') (sym parts.0)))

  pub starts_some : (bytes a more : List ℕ) → StartsWith g bytes a more → 0 < length bytes
  starts_some bytes a more s =
      omega (arith, law.some s.piece a s.is, ap length s.equal, length-append s.piece more)

  pub starts_open : (bytes a more : List ℕ) → StartsWith g bytes a more → ¬ (IsOpen g bytes)
  starts_open bytes a more s is = open_not g s.piece a more s.is (subst (IsOpen g) s.equal is)

  -- the first piece of a text with a piece in front
  pub Pieces-first : (text a more : List ℕ) (payloads : List (List ℕ)) → StartsWith g text a more
      → HasPieces g text payloads → (later : List (List ℕ)) × (payloads ≡ a ∷ later) × HasPieces g more later
  Pieces-first text a more [] s has = absurd (omega (arith, starts_some text a more s, ap length has))
  Pieces-first text a more (b ∷ payloads) s (inl (more', t, has)) =
      let same = starts_same text a b more more' s t in
      (payloads, ap (λ x. x ∷ payloads) (sym same.0), subst (λ l. HasPieces g l payloads) (sym same.1) has)
  Pieces-first text a more (b ∷ payloads) s (inr (last, none)) = absurd (starts_open text a more s last.open')

  -- a text that is a last piece has no other
  pub Pieces-last : (text a : List ℕ) (payloads : List (List ℕ)) → IsLast g text a → HasPieces g text payloads
      → payloads ≡ a ∷ []
  Pieces-last text a [] last has = absurd (omega (arith, last.some, ap length has))
  Pieces-last text a (b ∷ payloads) last (inl (more, t, has)) = absurd (starts_open text b more t last.open')
  Pieces-last text a (b ∷ payloads) last (inr (other, none)) =
      ap (λ l. b ∷ l) none ∙ ap (λ x. x ∷ []) (law.one_last text b a other.is last.is)

  -- nothing is no piece
  pub Pieces-none : (text : List ℕ) (payloads : List (List ℕ)) → text ≡ [] → HasPieces g text payloads → payloads ≡ []
  Pieces-none text [] none has = refl
  Pieces-none text (a ∷ payloads) none (inl (more, s, has)) =
      absurd (omega (arith, starts_some text a more s, ap length none))
  Pieces-none text (a ∷ payloads) none (inr (last, nil)) = absurd (omega (arith, last.some, ap length none))

  -- a text is pieces in one way
  pub Pieces-same : (text : List ℕ) (payloads others : List (List ℕ)) → HasPieces g text payloads
      → HasPieces g text others → payloads ≡ others
  Pieces-same text [] others has has' = sym (Pieces-none text others has has')
  Pieces-same text (a ∷ payloads) others (inl (more, s, has)) has' =
      let first = Pieces-first text a more others s has' in
      ap (λ l. a ∷ l) (Pieces-same more payloads first.0 has first.2) ∙ sym first.1
  Pieces-same text (a ∷ payloads) others (inr (last, none)) has' =
      ap (λ l. a ∷ l) none ∙ sym (Pieces-last text a others last has')

  -- a text begins with nothing wrong
  pub Pieces-right : (text front more : List ℕ) (payloads : List (List ℕ)) (e : W) → text ≡ front ++ more
      → HasPieces g text payloads → ¬ (g.wrong front e)
  Pieces-right text front more [] e is has wrong =
      law.nothing e (subst (λ l. g.wrong l e) (sym is ∙ has) (law.stays front more e wrong))
  Pieces-right text front more (a ∷ payloads) e is (inl (behind, s, has)) wrong =
      law.apart s.piece a behind e s.is (subst (λ l. g.wrong l e) (sym is ∙ s.equal) (law.stays front more e wrong))
  Pieces-right text front more (a ∷ payloads) e is (inr (last, none)) wrong =
      last.open'.not_wrong e (subst (λ l. g.wrong l e) (sym is) (law.stays front more e wrong))

  -- a text isn't cut short
  pub Pieces-whole : (text : List ℕ) (payloads : List (List ℕ)) (e : W) → 0 < length text → IsOpen g text
      → HasPieces g text payloads → ¬ (g.cut text e)
  Pieces-whole text [] e some is has cut = absurd (omega (arith, some, ap length has))
  Pieces-whole text (a ∷ payloads) e some is (inl (more, s, has)) cut = absurd (starts_open text a more s is)
  Pieces-whole text (a ∷ payloads) e some is (inr (last, none)) cut = law.end_apart text a e last.is cut

  -- two readings of a stream are one
  pub Splits-same : (stream : List ℕ) (ps qs : List (List ℕ)) (xs ys : List ℕ) → Splits g stream ps xs
      → Splits g stream qs ys → (ps ≡ qs) × (xs ≡ ys)
  Splits-same stream ps qs xs ys a b = same stream ps qs a.equal b.equal
    where
      stops : (bytes payload more left : List ℕ) → StartsWith g bytes payload more → bytes ≡ left → Begins g left
      stops bytes payload more left s is =
          record { piece = s.piece; payload = payload; more = more; is = s.is; equal = sym is ∙ s.equal }

      same : (stream : List ℕ) (ps qs : List (List ℕ)) → IsPieces g stream ps xs → IsPieces g stream qs ys
          → (ps ≡ qs) × (xs ≡ ys)
      same stream [] [] is is' = (refl, sym is ∙ is')
      same stream [] (q ∷ qs) is (more, s, other) = absurd (a.no_more (stops stream q more xs s is))
      same stream (p ∷ ps) [] (more, s, is) other = absurd (b.no_more (stops stream p more ys s other))
      same stream (p ∷ ps) (q ∷ qs) (more, s, is) (more', t, is') =
          let first = starts_same stream p q more more' s t in
          let others = same more ps qs is (subst (λ l. IsPieces g l qs ys) (sym first.1) is') in
          (ap (λ x. x ∷ ps) first.0 ∙ ap (λ l. q ∷ l) others.0, others.1)
