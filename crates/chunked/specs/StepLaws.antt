-- Laws of steps: what completes a body goes on from byte to byte, and what is wrong with a byte has one name and leads nowhere.
use Rattle.std.proofs.Common.{◌≡◌, ℕ, zero, suc, ◌+◌, ◌*◌, ◌-◌, ◌<◌, ◌≤◌, ◌^◌, List, [], ◌∷◌, ◌++◌, length, ap, subst, arith, inl, inr, refl}
use Rattle.chunked.specs.Names.{AllByRecursion, Behind, behind_size, BehindFirst, BehindSize, chunked, Completes, CompletesSizeLine, Data, DataFeed, digit_value, Done, EndsLine, Extension, FieldFeed, FieldName, Fields, FieldValue, IsDataOrDone, IsTrailers, IsValueByte, IsWrong, LastFeed, LeadsInExtension, Limits, Line, Malformed, most_between, nothing_behind, Place, Size, SizeFeed, StepsTo, Within, WrongInExtension}
use Rattle.body_reader.specs.Coding.{PassesOver}
use Rattle.chunked.specs.FieldLaws.{BehindFirst-some, digit_is_text, token_is_text, token_plain, value_is_text}
use Rattle.chunked.specs.WithinLaws.{CompletesExtension-text, extension_no_digit}
use Rattle.chunked.specs.WithinLaws as within
use Rattle.chunked.specs.LineLaws.{digit_first, digit_on, field_first, field_on, line_parts, size_small, text_as}
use Rattle.chunked.specs.PlaceLaws.{Completes-nothing}

-- no digit leads on in an extension
digit_ends : (b size room : ℕ) (q : Place) → digit_value b < 16 → LeadsInExtension Behind size room b q → ⊥
digit_ends b size room q digit s = grind (arith, digit_is_text, extension_no_digit, within.leads)

module _ (limits : Limits) where
  -- with the byte in front, what completes the body there completes it here
  extension_on : (w : Within) (b size room : ℕ) (q : Place) (rest payload : List ℕ) → size < 2 ^ 62
      → LeadsInExtension w size room b q → Completes limits q rest payload
      → CompletesSizeLine limits w size room (b ∷ rest) payload
  extension_on w b size room q rest payload small s c = grind (arith, text_as, within.leads)

  pub behind_on : (size : ℕ) (rest payload : List ℕ) → Completes limits (behind_size limits size) rest payload
      → BehindSize limits size rest payload
  behind_on size rest payload c = grind arith

  pub step_on : (p : Place) (b : ℕ) (q : Place) (rest payload : List ℕ) → StepsTo limits p b q → Completes limits q rest payload
      → Completes limits p (b ∷ rest) payload
  step_on Line b q rest payload (digit, is) c = digit_on limits b rest payload digit (rw is at c)
  step_on (Size number room) b q rest payload (inl (digit, some, small, is)) c = inl (digit, some, rw is at c)
  step_on (Size number room) b q rest payload (inr (none, small, s)) c =
      inr (extension_on Behind b number room q rest payload small s c)
  step_on (Extension within size room) b q rest payload (small, s) c = extension_on within b size room q rest payload small s c
  step_on (SizeFeed size) b q rest payload (is, small, to) c = ((is, behind_on size rest payload (rw to at c)), small)
  step_on (Data zero) b q rest payload (none, is, to) c = (is, rw to at c)
  step_on (Data (suc left)) b q rest payload (none, is, to) c = absurd (omega (arith, none))
  step_on DataFeed b q rest payload (is, to) c = (is, rw to at c)
  step_on (Fields room) b q rest payload (inl (is, to)) c = let d = rw to at c in (d.0, (zero, (is, d.1)))
  step_on (Fields room) b q rest payload (inr (token, fits, to)) c =
      let d = rw to at c in (d.0, field_on b room rest token fits d.1)
  step_on (FieldName room) b q rest payload (inl (is, some, to)) c = let d = rw to at c in (
    d.0,
    inr (some, text_as _ _ IsTrailers (room - 1) rest (λ t all. inl (is, all)) d.1),
  )
  step_on (FieldName room) b q rest payload (inr (token, fits, to)) c = let d = rw to at c in (
    d.0,
    inr (omega (arith, fits), text_as _ _ IsTrailers (room - 1) rest (λ t more. inr (token, more)) d.1),
  )
  step_on (FieldValue room) b q rest payload (inl (is, to)) c = let d = rw to at c in (d.0, inl (is, tt, d.1))
  step_on (FieldValue room) b q rest payload (inr (value, some, to)) c = let d = rw to at c in (
    d.0,
    inr (some, text_as _ _ IsTrailers (room - 1) rest (λ t all. (value, all)) d.1),
  )
  step_on (FieldFeed room) b q rest payload (is, to) c = let d = rw to at c in (d.0, (is, d.1))
  step_on LastFeed b q rest payload (is, to) c = let d = rw to at c in (d.0, (is, d.1))
  step_on Done b q rest payload s c = absurd s

  -- a byte leads on where something begins with it that completes the body, and the rest of that completes it there
  abbrev StepsWith : Place → ℕ → List ℕ → List ℕ → Type 0
  StepsWith p b rest payload = (q : Place) × StepsTo limits p b q × Completes limits q rest payload

  extension_first : (w : Within) (b size room : ℕ) (rest payload : List ℕ)
      → CompletesSizeLine limits w size room (b ∷ rest) payload
      → (q : Place) × LeadsInExtension w size room b q × Completes limits q rest payload
  extension_first w b size room rest payload (inl (is, ends, behind), small) =
      (SizeFeed size, inl (is, ends, refl), (behind, small))
  extension_first w b size room rest payload (inr (some, later), small) =
      let p = line_parts _ _ (room - 1) rest later in
      let f = within.first w b p.0 p.4 in (
        Extension f.next size (room - 1),
        inr (f.next, f.steps, (p.0, f.left, omega (arith, p.5, some)), refl),
        (text_as _ _ _ (room - 1) rest (λ t e. (within.leads w b f.next f.steps t).0 e) later, small),
      )

  behind_first : (size : ℕ) (rest payload : List ℕ) → BehindSize limits size rest payload
      → Completes limits (behind_size limits size) rest payload
  behind_first size rest payload c = grind arith

  name_first : (b room : ℕ) (rest payload : List ℕ) → payload ≡ [] → 0 < room
      → (later : EndsLine (λ t. BehindFirst (b ∷ t)) IsTrailers (room - 1) rest) → (text : List ℕ)
      → BehindFirst (b ∷ text) → length text ≤ room - 1 → StepsWith (FieldName room) b rest payload
  name_first b room rest payload none some later text (inl (is, _)) fits = (
    FieldValue (room - 1),
    inl (is, some, refl),
    (none, text_as _ _ IsTrailers (room - 1) rest valued later),
  )
    where
      valued : (t : List ℕ) → BehindFirst (b ∷ t) → AllByRecursion IsValueByte t
      valued t (inl (is', all)) = all
      valued t (inr (token, more)) = absurd ((token_plain b token).1 is)
  name_first b room rest payload none some later text (inr (token, more)) fits = (
    FieldName (room - 1),
    inr (token, omega (arith, fits, BehindFirst-some text more), refl),
    (none, text_as _ _ IsTrailers (room - 1) rest named later),
  )
    where
      named : (t : List ℕ) → BehindFirst (b ∷ t) → BehindFirst t
      named t (inl (is, all)) = absurd ((token_plain b token).1 is)
      named t (inr (token', more')) = more'

  pub step_first : (p : Place) (b : ℕ) (rest payload : List ℕ) → ¬ IsDataOrDone p → Completes limits p (b ∷ rest) payload
      → StepsWith p b rest payload
  step_first Line b rest payload open' c =
      let f = digit_first limits b rest payload c in (Size (digit_value b) (limits.line - 1), (f.0, refl), f.1)
  step_first (Size number room) b rest payload open' (inl (digit, some, c)) = (
    Size (number * 16 + digit_value b) (room - 1),
    inl (digit, some, size_small _ (number * 16 + digit_value b) (room - 1) rest c, refl),
    c,
  )
  step_first (Size number room) b rest payload open' (inr c) =
      let f = extension_first Behind b number room rest payload c in
      (f.0, inr ((λ digit. digit_ends b number room f.0 digit f.1), c.1, f.1), f.2)
  step_first (Extension w size room) b rest payload open' c =
      let f = extension_first w b size room rest payload c in (f.0, (c.1, f.1), f.2)
  step_first (SizeFeed size) b rest payload open' ((is, c), small) =
      (behind_size limits size, (is, small, refl), behind_first size rest payload c)
  step_first (Data zero) b rest payload open' (is, c) = (DataFeed, (refl, is, refl), c)
  step_first (Data (suc left)) b rest payload open' c = absurd (open' tt)
  step_first DataFeed b rest payload open' (is, c) = (Line, (is, refl), c)
  step_first (Fields room) b rest payload open' (none, t) = elim (field_first b room rest t) [
    | inl last ↦ (LastFeed, inl (last.0, refl), (none, last.1))
    | inr field ↦ (FieldName (room - 1), inr (field.0, field.1, refl), (none, field.2))
  ]
  step_first (FieldName room) b rest payload open' (none, inl (is, odd, feed)) = absurd odd
  step_first (FieldName room) b rest payload open' (none, inr (some, later)) =
      let p = line_parts _ IsTrailers (room - 1) rest later in
      name_first b room rest payload none some later p.0 p.4 (omega (arith, p.5))
  step_first (FieldValue room) b rest payload open' (none, inl (is, all, feed)) = (FieldFeed room, inl (is, refl), (none, feed))
  step_first (FieldValue room) b rest payload open' (none, inr (some, later)) =
      let p = line_parts _ IsTrailers (room - 1) rest later in
      (FieldValue (room - 1), inr (p.4.0, some, refl), (none, text_as _ _ IsTrailers (room - 1) rest (λ t all. all.1) later))
  step_first (FieldFeed room) b rest payload open' (none, (is, c)) = (Fields room, (is, refl), (none, c))
  step_first LastFeed b rest payload open' (none, (is, c)) = (Done, (is, refl), (none, c))
  step_first Done b rest payload open' c = absurd (open' tt)

  -- it leads to one place
  one_extension : (w : Within) (b size room : ℕ) (q r : Place) → LeadsInExtension w size room b q
      → LeadsInExtension w size room b r → q ≡ r
  one_extension w b size room q r s t = grind (arith, within.steps_text, within.one_way)

  pub one_place : (p : Place) (b : ℕ) (q r : Place) → StepsTo limits p b q → StepsTo limits p b r → q ≡ r
  one_place (Size number room) b q r (inr s) (inr t) = one_extension Behind b number room q r s.2 t.2
  one_place (Extension w size room) b q r s t = one_extension w b size room q r s.1 t.1
  one_place (Fields room) b q r s t = grind (arith, token_is_text)
  one_place (FieldName room) b q r s t = grind (arith, token_plain)
  one_place (FieldValue room) b q r s t = grind (arith, value_is_text)
  one_place p b q r s t = grind arith

  -- nearer to the next byte of payload, or to the end
  nearer : (p : Place) (b : ℕ) (q : Place) → StepsTo limits p b q → most_between limits q < most_between limits p
  nearer (SizeFeed zero) b q s = omega (arith, ap (most_between limits) s.2)
  nearer (SizeFeed (suc n)) b q s = omega (arith, ap (most_between limits) s.2)
  nearer (Data zero) b q s = omega (arith, ap (most_between limits) s.2)
  nearer (Data (suc left)) b q s = absurd (omega (arith, s.0))
  nearer p b q s = grind arith

  leads_open : (p : Place) (b : ℕ) (q : Place) → StepsTo limits p b q → ¬ IsDataOrDone p
  leads_open p b q s settled = grind arith

  one_within : (p : Place) (b : ℕ) (q : Place) → StepsTo limits p b q → (rest payload past : List ℕ)
      → Completes limits p rest payload → b ∷ [] ≡ rest ++ past → past ≡ []
  one_within p b q s [] payload past c same =
      absurd (subst (λ r. StepsTo limits r b q) (Completes-nothing limits p payload c) s)
  one_within p b q s (x ∷ rest) payload past c same =
      nothing_behind rest past (let tail : rest ++ past ≡ [] = cc in tail)

  pub passes : (p : Place) (b : ℕ) (q : Place) → StepsTo limits p b q → PassesOver (chunked limits) p (b ∷ []) q []
  passes p b q s = grind (arith, step_on, step_first, leads_open, one_place, one_within, nearer)

  -- what is wrong with a byte leads nowhere
  wrong_open : (p : Place) (b : ℕ) (why : Malformed) → IsWrong limits p b why → ¬ IsDataOrDone p
  wrong_open p b why wrong settled = grind arith

  wrong_extension : (w : Within) (b size room : ℕ) (why : Malformed) (q : Place) → WrongInExtension w room b why
      → ¬ LeadsInExtension w size room b q
  wrong_extension w b size room why q (inl over) (inl s) = (CompletesExtension-text w (b ∷ over.1.text) over.1.extends).0.0 s.0
  wrong_extension w b size room why q (inl over) (inr s) =
      omega (arith, over.1.over s.2.0 ((within.leads w b s.0 s.1 s.2.0).1 s.2.1), s.2.2)
  wrong_extension w b size room why q (inr (inl feed)) (inl s) = omega (arith, feed.1, s.0)
  wrong_extension w b size room why q (inr (inl feed)) (inr s) = (within.steps_text w b s.0 s.1).1 feed.1
  wrong_extension w b size room why q (inr (inr bad)) (inl s) = bad.1.no_return s.0 s.1
  wrong_extension w b size room why q (inr (inr bad)) (inr s) =
      bad.1.none s.2.0 ((within.leads w b s.0 s.1 s.2.0).1 s.2.1)

  wrong_step : (p : Place) (b : ℕ) (why : Malformed) (q : Place) → IsWrong limits p b why → ¬ StepsTo limits p b q
  wrong_step (Size number room) b why q (inl wrong) (inl s) = grind (arith, wrong, s)
  wrong_step (Size number room) b why q (inl wrong) (inr s) = s.0 wrong.0
  wrong_step (Size number room) b why q (inr wrong) (inl s) = wrong.0 s.0
  wrong_step (Size number room) b why q (inr wrong) (inr s) = wrong_extension Behind b number room why q wrong.1 s.2
  wrong_step (Extension w size room) b why q wrong s = wrong_extension w b size room why q wrong s.1
  wrong_step (Fields room) b why q wrong s = grind (arith, token_is_text)
  wrong_step (FieldName room) b why q wrong s = grind (arith, token_plain)
  wrong_step (FieldValue room) b why q wrong s = grind (arith, value_is_text)
  wrong_step p b why q wrong s = grind arith

  -- nor does it complete the body
  pub IsWrong-none : (p : Place) (b : ℕ) (why : Malformed) (rest payload : List ℕ) → IsWrong limits p b why
      → ¬ Completes limits p (b ∷ rest) payload
  IsWrong-none p b why rest payload wrong c = grind (arith, step_first, wrong_open, wrong_step)

  -- it has one name
  name_in_extension : (w : Within) (room b : ℕ) (one other : Malformed) → WrongInExtension w room b one
      → WrongInExtension w room b other → one ≡ other
  name_in_extension w room b one other h k = grind (arith, CompletesExtension-text)

  pub one_name : (p : Place) (b : ℕ) (w v : Malformed) → IsWrong limits p b w → IsWrong limits p b v → w ≡ v
  one_name (Size number room) b w v (inl h) (inl k) = grind (arith, h, k)
  one_name (Size number room) b w v (inl h) (inr k) = absurd (k.0 h.0)
  one_name (Size number room) b w v (inr h) (inl k) = absurd (h.0 k.0)
  one_name (Size number room) b w v (inr h) (inr k) = name_in_extension Behind room b w v h.1 k.1
  one_name (Extension within size room) b w v h k = name_in_extension within room b w v h k
  one_name (Fields room) b w v h k = grind (arith, token_is_text)
  one_name (FieldName room) b w v h k = grind (arith, token_plain)
  one_name (FieldValue room) b w v h k = grind (arith, value_is_text)
  one_name p b w v h k = grind (arith, h, k)
