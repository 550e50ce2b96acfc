-- The lines of a body go on from byte to byte.
use Rattle.std.proofs.Common.{◌≡◌, ℕ, zero, suc, ◌+◌, ◌*◌, ◌-◌, ◌<◌, ◌≤◌, ◌⊎◌, ◌^◌, List, [], ◌∷◌, ◌++◌, length, sym, ap, subst, ◌∙◌, arith, inl, inr, refl}
use Rattle.chunked.specs.Names.{BehindFirst, BehindSize, CompletesData, concat, digit_value, EndsLine, EndsSize, HasChunks, HasFields, IsBodyOfChunks, IsExtension, IsTokenByte, IsTrailers, Limits, line_end, LineFeedThen}
use Rattle.chunked.specs.FieldLaws.{BehindFirst-some}

-- in a line: its text, what stands behind it, and how much of the room is left
abbrev pub LineParts : (List ℕ → Type 0) → (ℕ → List ℕ → Type 0) → ℕ → List ℕ → Type 0
LineParts IsText GoesOn room rest = (text : List ℕ) × (behind : List ℕ) × (left : ℕ) × (rest ≡ text ++ line_end behind)
    × IsText text × (length text + left ≡ room) × GoesOn left behind

pub line_parts : (IsText : List ℕ → Type 0) (GoesOn : ℕ → List ℕ → Type 0) (room : ℕ) (rest : List ℕ)
    → EndsLine IsText GoesOn room rest → LineParts IsText GoesOn room rest
line_parts IsText GoesOn room [] odd = absurd odd
line_parts IsText GoesOn room (b ∷ []) (inl (is, none, odd)) = absurd odd
line_parts IsText GoesOn room (b ∷ (c ∷ behind)) (inl (is, none, (feed, goes_on))) =
    ([], behind, room, cc, none, omega arith, goes_on)
line_parts IsText GoesOn room (b ∷ rest) (inr (some, later)) =
    let p = line_parts (λ text. IsText (b ∷ text)) GoesOn (room - 1) rest later in
    (b ∷ p.0, p.1, p.2, ap (λ l. b ∷ l) p.3, p.4, omega (arith, p.5, some), p.6)

pub line_ends : (IsText : List ℕ → Type 0) (GoesOn : ℕ → List ℕ → Type 0) (text behind : List ℕ) (room left : ℕ)
    → IsText text → length text + left ≡ room → GoesOn left behind → EndsLine IsText GoesOn room (text ++ line_end behind)
line_ends IsText GoesOn [] behind room left is fits goes_on =
    let all : left ≡ room = omega (arith, fits) in inl (refl, is, (refl, subst (λ n. GoesOn n behind) all goes_on))
line_ends IsText GoesOn (b ∷ text) behind room left is fits goes_on = inr (
  omega (arith, fits),
  line_ends (λ t. IsText (b ∷ t)) GoesOn text behind (room - 1) left is (omega (arith, fits)) goes_on,
)

-- a line is one by another name, where its text is, and what stands behind it goes on so
pub line_as : (P Q : List ℕ → Type 0) (G H : ℕ → List ℕ → Type 0) (room : ℕ) (rest : List ℕ)
    → ((text : List ℕ) → P text → Q text) → ((left : ℕ) (behind : List ℕ) → G left behind → H left behind)
    → EndsLine P G room rest → EndsLine Q H room rest
line_as P Q G H room rest as' on line =
    let p = line_parts P G room rest line in
    subst (EndsLine Q H room) (sym p.3) (line_ends Q H p.0 p.1 room p.2 (as' p.0 p.4) p.5 (on p.2 p.1 p.6))

pub text_as : (P Q : List ℕ → Type 0) (G : ℕ → List ℕ → Type 0) (room : ℕ) (rest : List ℕ)
    → ((text : List ℕ) → P text → Q text) → EndsLine P G room rest → EndsLine Q G room rest
text_as P Q G room rest as' line = grind (arith, line_as)

-- and it is one with more room
pub line_wide : (P : List ℕ → Type 0) (G : ℕ → List ℕ → Type 0) (room more : ℕ) (rest : List ℕ) → room ≤ more
    → ((left up : ℕ) (behind : List ℕ) → left ≤ up → G left behind → G up behind) → EndsLine P G room rest
    → EndsLine P G more rest
line_wide P G room more rest wide on line =
    let p = line_parts P G room rest line in
    let left = more - length p.0 in
    subst (EndsLine P G more) (sym p.3) (line_ends P G p.0 p.1 more left p.4 (omega (arith, p.5, wide))
    (on p.2 left p.1 (omega (arith, p.5, wide)) p.6))

-- what is behind a line is known
line_out : {A : Type 0} (P : List ℕ → Type 0) (G : A → ℕ → List ℕ → Type 0) (room : ℕ) (rest : List ℕ)
    → EndsLine P (λ left behind. (a : A) × G a left behind) room rest → (a : A) × EndsLine P (G a) room rest
line_out {A} P G room rest line =
    let p = line_parts P (λ left behind. (a : A) × G a left behind) room rest line in
    (p.6.0, subst (EndsLine P (G p.6.0) room) (sym p.3) (line_ends P (G p.6.0) p.0 p.1 room p.2 p.4 p.5 p.6.1))

-- the same of the line of a size
pub size_as : (G H : ℕ → List ℕ → Type 0) → ((size : ℕ) (behind : List ℕ) → G size behind → H size behind)
    → (number room more : ℕ) (rest : List ℕ) → room ≤ more → EndsSize G number room rest → EndsSize H number more rest
size_as G H on number room more [] wide odd = odd
size_as G H on number room more (b ∷ rest) wide (inl (digit, some, line)) = inl (
  digit,
  omega (arith, some, wide),
  size_as G H on (number * 16 + digit_value b) (room - 1) (more - 1) rest (omega (arith, wide)) line,
)
size_as G H on number room more (b ∷ rest) wide (inr (line, small)) = inr (
  line_wide IsExtension (λ left. H number) room more (b ∷ rest) wide (λ left up behind fits goes_on. goes_on)
      (line_as IsExtension IsExtension (λ left. G number) (λ left. H number) room (b ∷ rest) (λ text is. is)
      (λ left. on number) line),
  small,
)

size_out : {A : Type 0} (G : A → ℕ → List ℕ → Type 0) (number room : ℕ) (rest : List ℕ)
    → EndsSize (λ size behind. (a : A) × G a size behind) number room rest → (a : A) × EndsSize (G a) number room rest
size_out G number room [] odd = absurd odd
size_out G number room (b ∷ rest) (inl (digit, some, line)) =
    let (a, out) = size_out G (number * 16 + digit_value b) (room - 1) rest line in (a, inl (digit, some, out))
size_out G number room (b ∷ rest) (inr (line, small)) =
    let (a, out) = line_out IsExtension (λ a left. G a number) room (b ∷ rest) line in (a, inr (out, small))

-- the number so far is no larger than the size
pub size_small : (G : ℕ → List ℕ → Type 0) (number room : ℕ) (rest : List ℕ) → EndsSize G number room rest → number < 2 ^ 62
size_small G number room [] odd = absurd odd
size_small G number room (b ∷ rest) (inl line) =
    omega (arith, size_small G (number * 16 + digit_value b) (room - 1) rest line.2)
size_small G number room (b ∷ rest) (inr line) = line.1

module _ (limits : Limits) where
  -- payload that is left of a chunk
  data_ends : (p behind later : List ℕ) → IsBodyOfChunks limits behind later
      → CompletesData limits (length p) (p ++ line_end behind) (p ++ later)
  data_ends [] behind later body = (refl, (refl, body))
  data_ends (x ∷ p) behind later body = (p ++ later, refl, data_ends p behind later body)

  abbrev pub DataParts : ℕ → List ℕ → List ℕ → Type 0
  DataParts left rest payload = (front : List ℕ) × (behind : List ℕ) × (later : List ℕ) × (length front ≡ left)
      × (rest ≡ front ++ line_end behind) × (payload ≡ front ++ later) × IsBodyOfChunks limits behind later

  pub data_parts : (left : ℕ) (rest payload : List ℕ) → CompletesData limits left rest payload → DataParts left rest payload
  data_parts zero [] payload odd = absurd odd
  data_parts zero (b ∷ []) payload odd = absurd odd.1
  data_parts zero (b ∷ (c ∷ behind)) payload (return, (feed, body)) = ([], behind, payload, refl, cc, refl, body)
  data_parts (suc left) [] payload odd = absurd odd
  data_parts (suc left) (b ∷ rest) payload (later, same, c) =
      let p = data_parts left rest later c in
      (b ∷ p.0, p.1, p.2, ap suc p.3, ap (λ l. b ∷ l) p.4, same ∙ ap (λ l. b ∷ l) p.5, p.6)

  -- what stands behind the line of a size goes by the size, and by the payloads that are to come
  by_size : (ps : List (List ℕ)) (payload : List ℕ) → payload ≡ concat ps → (size : ℕ) (behind : List ℕ)
      → HasChunks limits ps size behind → BehindSize limits size behind payload
  by_size [] payload all size behind (none, trailers) = rw none (all, trailers)
  by_size ([] ∷ ps) payload all size behind (is, some, rest, same, more) = absurd (omega (arith, is, some))
  by_size ((x ∷ p) ∷ ps) payload all size behind (is, some, rest, same, more) =
      rw (is, same, all)
      (data_ends (x ∷ p) rest (concat ps) (record { payloads = ps; chunks = more; equal = refl }))

  -- payloads that are all of this
  abbrev Payloads : List ℕ → Type 0
  Payloads payload = (ps : List (List ℕ)) × (payload ≡ concat ps)

  by_payloads : (payload : List ℕ) (size : ℕ) (behind : List ℕ) → BehindSize limits size behind payload
      → (ps : Payloads payload) × HasChunks limits ps.0 size behind
  by_payloads payload zero behind (none, trailers) = (([], none), (refl, trailers))
  by_payloads payload (suc n) behind c =
      let p = data_parts (suc n) behind payload c in
      ((p.0 ∷ p.6.payloads, p.5 ∙ ap (λ l. p.0 ++ l) p.6.equal), (sym p.3, omega arith, p.1, p.4, p.6.chunks))

  pub digit_on : (b : ℕ) (rest payload : List ℕ) → digit_value b < 16
      → EndsSize (λ size behind. BehindSize limits size behind payload) (digit_value b) (limits.line - 1) rest
      → IsBodyOfChunks limits (b ∷ rest) payload
  digit_on b rest payload digit line =
      let (ps, out) = size_out (λ (ps : Payloads payload). HasChunks limits ps.0) (digit_value b) (limits.line - 1) rest
      (size_as (λ size behind. BehindSize limits size behind payload)
      (λ size behind. (ps : Payloads payload) × HasChunks limits ps.0 size behind) (by_payloads payload) (digit_value b)
      (limits.line - 1) (limits.line - 1) rest (omega arith) line) in
      record { payloads = ps.0; chunks = (digit, out); equal = ps.1 }

  pub digit_first : (b : ℕ) (rest payload : List ℕ) → IsBodyOfChunks limits (b ∷ rest) payload → (digit_value b < 16)
      × EndsSize (λ size behind. BehindSize limits size behind payload) (digit_value b) (limits.line - 1) rest
  digit_first b rest payload body = grind (arith, size_as, by_size)

-- the first byte of a line of the trailers, or of the empty one
pub field_on : (b room : ℕ) (rest : List ℕ) → IsTokenByte b → 2 ≤ room → EndsLine BehindFirst IsTrailers (room - 1) rest
    → IsTrailers room (b ∷ rest)
field_on b room rest byte fits line = let (count, out) = line_out BehindFirst HasFields (room - 1) rest line in (
  suc count,
  inr (
    omega (arith, fits),
    text_as BehindFirst (λ text. IsTokenByte b × BehindFirst text) (HasFields count) (room - 1) rest (λ text is. (byte, is))
        out,
  ),
)

abbrev FieldFirst : ℕ → ℕ → List ℕ → Type 0
FieldFirst b room rest = ((b ≡ 13) × LineFeedThen (λ behind. behind ≡ []) rest)
    ⊎ (IsTokenByte b × (2 ≤ room) × EndsLine BehindFirst IsTrailers (room - 1) rest)

pub field_first : (b room : ℕ) (rest : List ℕ) → IsTrailers room (b ∷ rest) → FieldFirst b room rest
field_first b room rest (zero, last) = inl last
field_first b room rest (suc count, inl (is, odd, feed)) = absurd odd
field_first b room rest (suc count, inr (some, line)) =
    let p = line_parts (λ text. IsTokenByte b × BehindFirst text) (HasFields count) (room - 1) rest line in
    inr (
      p.4.0,
      omega (arith, some, p.5, BehindFirst-some p.0 p.4.1),
      line_as (λ text. IsTokenByte b × BehindFirst text) BehindFirst (HasFields count) IsTrailers (room - 1) rest
          (λ text is. is.1) (λ left behind fields. (count, fields)) line,
    )
