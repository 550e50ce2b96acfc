-- No byte of a token is a colon, so a line is a field just where one, and a value, stand behind the token that it begins with.
use Rattle.std.proofs.Common.{◌≡◌, ℕ, ◌+◌, ◌-◌, suc, ◌<◌, ◌↔◌, Bool, IsTrue, true, false, cond, List, [], ◌∷◌, drop, length, slice_index, take, sym, ap, ◌∙◌, arith, inl, inr, refl}
use Rattle.std.specs.List.{list_all, prefix_len}
use Rattle.std.proofs.lemmas.Bool.{false≢true}
use Rattle.std.proofs.lemmas.List.{take_rest}
use Rattle.std.proofs.lemmas.List.Elements.{All-from_recursion, recursion_from_All}
use Rattle.std.proofs.lemmas.List.Sums.{AllPass-from_list_all, list_all-from_AllPass}
use Rattle.httparse.specs.Grammar.{is_token_byte, is_value_byte}
use Rattle.chunked.specs.FieldLaws.{token_plain}
use Rattle.chunked.specs.Names.{BehindFirst, IsField, IsValueByte}
use Rattle.chunked.proofs.trailers.name_of.Goals as goal

-- a colon stands there, and a value behind it
abbrev IsEndedAt : List ℕ → ℕ → Type 0
IsEndedAt line at = (at < length line) × (slice_index line at ≡ 58) × IsTrue (list_all is_value_byte (drop (suc at) line))

ended_on : (b : ℕ) (text : List ℕ) (is : Bool) → is_token_byte b ≡ is
    → BehindFirst text ↔ IsEndedAt text (prefix_len is_token_byte text)
    → BehindFirst (b ∷ text) ↔ IsEndedAt (b ∷ text) (cond is (1 + prefix_len is_token_byte text) 0)
ended_on b text true token so =
    let one : 1 + prefix_len is_token_byte text ≡ suc (prefix_len is_token_byte text) = omega arith in
    rw one (
      λ h. elim h [
        | inl colon ↦ absurd ((token_plain b token).1 colon.0)
        | inr more ↦ let at = so.0 more.1 in (omega (arith, at.0), at.1, at.2)
      ],
      λ h. inr (token, so.1 (omega (arith, h.0), h.1, h.2)),
    )
ended_on b text false other so = (
  λ h. elim h [
    | inl colon ↦ (omega arith, colon.0, list_all-from_AllPass is_value_byte text (All-from_recursion IsValueByte text colon.1))
    | inr more ↦ absurd (false≢true (sym other ∙ more.0))
  ],
  λ h. inl (h.1, recursion_from_All IsValueByte text (AllPass-from_list_all is_value_byte text h.2)),
)

ended : (text : List ℕ) → BehindFirst text ↔ IsEndedAt text (prefix_len is_token_byte text)
ended [] = (λ odd. absurd odd, λ h. absurd (omega (arith, h.0)))
ended (b ∷ text) = ended_on b text (is_token_byte b) refl (ended text)

field_on : (b : ℕ) (text : List ℕ) (is : Bool) → is_token_byte b ≡ is
    → IsField (b ∷ text) ↔ (0 < cond is (1 + prefix_len is_token_byte text) 0) × BehindFirst (b ∷ text)
field_on b text true token = (
  λ h. (omega arith, inr h),
  λ h. elim h.1 [ inl colon ↦ absurd ((token_plain b token).1 colon.0) | inr more ↦ more ],
)
field_on b text false other = (λ h. absurd (false≢true (sym other ∙ h.0)), λ h. absurd (omega (arith, h.0)))

field : (line : List ℕ) (len : ℕ) → len ≡ prefix_len is_token_byte line → IsField line ↔ (0 < len) × (len < length line)
    × (slice_index line len ≡ 58) × IsTrue (list_all is_value_byte (take (length line - (len + 1)) (drop (len + 1) line)))
field [] len is = (λ odd. absurd odd, λ h. absurd (omega (arith, h.1)))
field (b ∷ text) len is =
    let one : len + 1 ≡ suc len = omega arith in
    let on = field_on b text (is_token_byte b) refl in
    let all = ended (b ∷ text) in
    rw (take_rest, one, is) (
      λ h. let at = all.0 (on.0 h).1 in ((on.0 h).0, at.0, at.1, at.2),
      λ h. on.1 (h.0, all.1 (h.1, h.2, h.3)),
    )

pub returns-then-is_header_value : goal.returns-then-is_header_value
returns-then-is_header_value c = (
  (field c.args.line.now c.token_len-len.result c.token_len-len.ensures).1 (
    c.if-len-gt0.true,
    c.if-len-line.true,
    c.if-line-len-eq58.true,
    sym c.is_header_value.ensures ∙ c.if-is_header_value.true,
  ),
  ap (λ n. take n c.args.line.now) c.token_len-len.ensures,
)

pub returns-else-len-gt0 : goal.returns-else-len-gt0
returns-else-len-gt0 c = λ is.
    let parts = (field c.args.line.now c.token_len-len.result c.token_len-len.ensures).0 is in grind (arith, parts)
