-- Laws of what a writer of a body writes: chunks, and then its end, are a body.
use Rattle.std.specs.Prelude.{◌≡◌, ℕ, ◌+◌, ◌*◌, ◌-◌, ◌^◌, ◌<◌, ◌≤◌, List, [], ◌∷◌, ◌++◌, length, map, flat_map}
use Rattle.chunked.specs.Names.{All, All-append, All-cons, All-head, All-nil, All-tail, all_below_base_digits_of, AllBelowBase, AllByRecursion, AllDigits, body_end, chunk, concat, concat-append, digit_char, digit_value, digits_of, digits_value, digits_value_after, digits_value_is, EndsSize, fields_bytes, flat_map-append, HasBegun, HasChunks, HasFields, IsBodyOfChunks, IsCarried, IsChunks, IsField, IsTrailers, length-digits_of-le, length-digits_of_step, length-map, Limits, line_end, number_digits_of, number_from_digits, size_digits, SizeLine}
use Rattle.std.proofs.Common.{sym, ap, subst, ◌∙◌, arith, inl, inr, refl, append_assoc, append-nil, length-append, zero-add}
use Rattle.std.proofs.lemmas.Str.{digit_value-digit_char}
use Rattle.chunked.specs.LineLaws.{line_ends}

-- digits that are written are read as what they were
digits_back : (ds : List ℕ) → AllBelowBase 16 ds
    → (map digit_value (map digit_char ds) ≡ ds) × AllDigits 16 (map digit_char ds)
digits_back [] below = (refl, tt)
digits_back (d ∷ ds) below =
    let here = digit_value-digit_char d (omega (arith, below.0)) in
    let later = digits_back ds below.1 in
    (ap (λ x. x ∷ map digit_value (map digit_char ds)) here ∙ ap (λ l. d ∷ l) later.0, (omega (arith, here, below.0), later.1))

-- the digits of a size have no more than 16 bytes
pub size_digits-few : (size : ℕ) → size < 2 ^ 62 → length (size_digits size) ≤ 16
size_digits-few size small = grind (arith, length-digits_of-le, length-map)

-- digits end the line of the size that they write, behind others
digits_end : (G : ℕ → List ℕ → Type 0) (digits behind : List ℕ) (number room : ℕ) → AllDigits 16 digits
    → length digits ≤ room → digits_value_after 16 number digits < 2 ^ 62 → G (digits_value_after 16 number digits) behind
    → EndsSize G number room (digits ++ line_end behind)
digits_end G [] behind number room all fits small goes_on = inr (inl (refl, (0, refl), (refl, goes_on)), small)
digits_end G (d ∷ digits) behind number room all fits small goes_on = inl (
  all.0,
  omega (arith, fits),
  digits_end G digits behind (number * 16 + digit_value d) (room - 1) all.1 (omega (arith, fits)) small goes_on,
)

-- and are that line
digits_line : (G : ℕ → List ℕ → Type 0) (digits behind : List ℕ) (room : ℕ) → AllDigits 16 digits → 0 < length digits
    → length digits ≤ room → digits_value 16 digits < 2 ^ 62 → G (digits_value 16 digits) behind
    → SizeLine G room (digits ++ line_end behind)
digits_line G [] behind room all some fits small goes_on = absurd (omega (arith, some))
digits_line G (d ∷ digits) behind room all some fits small goes_on =
    let value = ap (λ n. digits_value_after 16 n digits) (zero-add (digit_value d)) in (
      all.0,
      digits_end G digits behind (digit_value d) (room - 1) all.1 (omega (arith, fits)) (omega (arith, value, small))
          (subst (λ n. G n behind) value goes_on),
    )

-- as those of a size are
size_digits-line : (G : ℕ → List ℕ → Type 0) (size room : ℕ) (behind : List ℕ) → 0 < size → size < 2 ^ 62 → 16 ≤ room
    → G size behind → SizeLine G room (size_digits size ++ line_end behind)
size_digits-line G size room behind some small fits goes_on =
    let back = digits_back (digits_of 16 size) (all_below_base_digits_of 16 size (omega arith)) in
    let value : digits_value 16 (size_digits size) ≡ size = digits_value_is 16 (size_digits size)
    ∙ ap (number_from_digits 16) back.0 ∙ number_digits_of 16 size (omega arith) in
    digits_line G (size_digits size) behind room back.1
    (omega (arith, length-map (digits_of 16 size) digit_char, length-digits_of_step 16 size (omega arith) some))
    (omega (arith, fits, size_digits-few size small)) (omega (arith, value, small)) (subst (λ n. G n behind) (sym value) goes_on)

-- more chunks stand behind the others
pub IsChunks-joins : (bytes payload : List ℕ) (more : List (List ℕ)) → IsChunks bytes payload → All IsCarried more
    → IsChunks (bytes ++ flat_map chunk more) (payload ++ concat more)
IsChunks-joins bytes payload more h carried = record {
  payloads = h.payloads ++ more;
  carried = All-append IsCarried h.payloads more h.carried carried;
  equal = rw (h.equal, flat_map-append);
  joined = rw (h.joined, concat-append);
}

-- payload goes on in a chunk that was begun, to its end or not
module _ (due : ℕ) (bytes payload more : List ℕ) (h : HasBegun due bytes payload) where
  pub HasBegun-more : length more ≤ due → HasBegun (due - length more) (bytes ++ more) (payload ++ more)
  HasBegun-more within = grind (arith, length-append, append_assoc)

  pub HasBegun-ends : 0 < due → length more ≡ due → IsChunks (bytes ++ (more ++ line_end [])) (payload ++ more)
  HasBegun-ends some all =
      let whole = h.part ++ more in
      let size : length whole ≡ length h.part + due = omega (arith, all, length-append h.part more) in
      let is : IsCarried whole = (omega (arith, some, size), omega (arith, h.small, size)) in
      let joined = IsChunks-joins h.before h.carried (whole ∷ []) h.chunks
      (All-cons IsCarried whole [] is (All-nil IsCarried)) in
      simp (h.equal, h.joined, append_assoc) (simp (append-nil, append_assoc, size) at joined)

-- fields are lines of trailers, and an empty one ends them
fields_end : (fields : List (List ℕ)) (room : ℕ) → AllByRecursion IsField fields → length (concat fields) ≤ room
    → HasFields (length fields) room (fields_bytes fields)
fields_end [] room lines few = (refl, (refl, refl))
fields_end (f ∷ fields) room lines few =
    let sum = length-append f (concat fields) in
    line_ends IsField (HasFields (length fields)) f (fields_bytes fields) room (room - length f) lines.0
    (omega (arith, few, sum)) (fields_end fields (room - length f) lines.1 (omega (arith, few, sum)))

module _ (limits : Limits) (line : 16 ≤ limits.line) (fields : List (List ℕ)) (lines : AllByRecursion IsField fields)
    (few : length (concat fields) ≤ limits.trailers) where
  has_chunks : (payloads : List (List ℕ)) → All IsCarried payloads
      → SizeLine (HasChunks limits payloads) limits.line (flat_map chunk payloads ++ body_end fields)
  has_chunks [] carried =
      let trailers : IsTrailers limits.trailers (fields_bytes fields) =
      (length fields, fields_end fields limits.trailers lines few) in
      (omega arith, inr (inl (refl, (0, refl), (refl, (refl, trailers))), omega arith))
  has_chunks (p ∷ payloads) carried =
      let is = All-head IsCarried p payloads carried in
      let later = flat_map chunk payloads ++ body_end fields in
      let chunks = has_chunks payloads (All-tail IsCarried p payloads carried) in
      simp append_assoc (size_digits-line (HasChunks limits (p ∷ payloads)) (length p) limits.line (p ++ line_end later) is.0
      is.1 line (refl, is.0, later, refl, chunks))

  -- chunks, and then the end of a body, are a body, and the payload in it is theirs
  pub IsChunks-body : (bytes payload : List ℕ) → IsChunks bytes payload → IsBodyOfChunks limits (bytes ++ body_end fields) payload
  IsChunks-body bytes payload h = grind (arith, has_chunks)

-- so are chunks of these payloads, with no trailers
pub chunks_body : (limits : Limits) → 16 ≤ limits.line → (payloads : List (List ℕ)) → All IsCarried payloads
    → IsBodyOfChunks limits (flat_map chunk payloads ++ body_end []) (concat payloads)
chunks_body limits line payloads carried = IsChunks-body limits line [] tt (omega arith) (flat_map chunk payloads)
    (concat payloads) (record { payloads = payloads; carried = carried; equal = refl; joined = refl })
