-- Where the first end is.
use Rattle.std.proofs.Common.{◌≡◌, ℕ, zero, suc, ◌+◌, ◌-◌, ◌<◌, ◌≤◌, List, [], ◌∷◌, ◌++◌, length, take, drop, sym, ap, subst, ◌∙◌, arith, append_assoc, length-append, length-drop}
use Rattle.std.proofs.Math.Seq.{take-add}
use Rattle.std.proofs.lemmas.List.{take-append-le, drop-append-le, take-append-drop}
use Rattle.std.proofs.lemmas.List.Elements.{All-cons, All-head, All-tail, All-append}
use Rattle.piece_reader.specs.DelimitedLaws.{isnt_end}
use Rattle.piece_reader.specs.Plain.{IsPlain, EndsAt}

module _ (end_byte : ℕ) where
  longer : (byte end : ℕ) (bytes : List ℕ) → ¬ (byte ≡ end_byte) → EndsAt end_byte end bytes
      → EndsAt end_byte (suc end) (byte ∷ bytes)
  longer byte end bytes isnt e =
      let count : 1 + suc end ≡ suc (1 + end) = omega arith in record {
        plain = All-cons (isnt_end end_byte) byte (take end bytes) isnt e.plain;
        equal = ap (λ n. byte ∷ take end bytes ++ end_byte ∷ drop n (byte ∷ bytes)) count ∙ ap (λ l. byte ∷ l) e.equal;
      }

  -- more bytes behind leave the end where it is
  ends_more : (end : ℕ) (window tail : List ℕ) → end < length window → EndsAt end_byte end window
      → EndsAt end_byte end (window ++ tail)
  ends_more end window tail inside e =
      let front = take-append-le end window tail (omega (arith, inside)) in
      let behind = drop-append-le (1 + end) window tail (omega (arith, inside)) in
      record {
        plain = subst (IsPlain end_byte) (sym front) e.plain;
        equal = ap (λ l. l ++ end_byte ∷ drop (1 + end) (window ++ tail)) front
            ∙ ap (λ l. take end window ++ end_byte ∷ l) behind
            ∙ sym (append_assoc (take end window) (end_byte ∷ drop (1 + end) window) tail)
            ∙ ap (λ l. l ++ tail) e.equal;
      }

  -- bytes of the line in front move the end by as many places
  shift : (from at : ℕ) (bytes : List ℕ) → IsPlain end_byte (take from bytes) → EndsAt end_byte at (drop from bytes)
      → EndsAt end_byte (from + at) bytes
  shift zero at bytes plain e =
      let count : at ≡ 0 + at = omega arith in
      subst (λ n. EndsAt end_byte n bytes) count e
  shift (suc from) at [] plain e = absurd (omega (
    arith,
    ap length e.equal,
    length-append (take at (drop (suc from) [])) (end_byte ∷ drop (1 + at) (drop (suc from) [])),
    length-drop {A = ℕ} (suc from) [],
  ))
  shift (suc from) at (byte ∷ bytes) plain e =
      let count : suc (from + at) ≡ suc from + at = omega arith in
      subst (λ n. EndsAt end_byte n (byte ∷ bytes)) count
      (longer byte (from + at) bytes (All-head (isnt_end end_byte) byte (take from bytes) plain)
      (shift from at bytes (All-tail (isnt_end end_byte) byte (take from bytes) plain) e))

  -- the end was found in a window
  pub found_in : (from to at : ℕ) (bytes : List ℕ) → IsPlain end_byte (take from bytes)
      → at < length (take (to - from) (drop from bytes)) → EndsAt end_byte at (take (to - from) (drop from bytes))
      → EndsAt end_byte (from + at) bytes
  found_in from to at bytes plain inside e =
      let whole = take-append-drop (to - from) (drop from bytes) in
      shift from at bytes plain (subst (EndsAt end_byte at) whole
      (ends_more at (take (to - from) (drop from bytes)) (drop (to - from) (drop from bytes)) inside e))

  -- the end was not found in a window
  pub none_in : (from to : ℕ) (bytes : List ℕ) → from ≤ to → IsPlain end_byte (take from bytes)
      → IsPlain end_byte (take (to - from) (drop from bytes)) → IsPlain end_byte (take to bytes)
  none_in from to bytes order plain window =
      let count : from + (to - from) ≡ to = omega (arith, order) in
      subst (λ n. IsPlain end_byte (take n bytes)) count
      (subst (IsPlain end_byte) (sym (take-add from (to - from) bytes))
      (All-append (isnt_end end_byte) (take from bytes) (take (to - from) (drop from bytes)) plain window))
