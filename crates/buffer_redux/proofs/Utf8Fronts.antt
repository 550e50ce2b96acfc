-- Bytes that no continuation makes UTF-8.
use Rattle.std.proofs.Common.{◌≡◌, ℕ, ◌+◌, ◌-◌, ◌<◌, ◌≤◌, Bool, true, false, ◌&&◌, List, [], ◌∷◌, ◌++◌, length, take, drop, None, Some, refl, sym, ◌∙◌, ap, subst, arith, inl, inr, append-nil, take-append-drop, take-add, length-append, length-drop, length-take-le, slice_index}
use Rattle.std.specs.Prelude.{IsUtf8, encode_utf8_all}
use Rattle.std.specs.Char.{IsScalar, encode_utf8}
use Rattle.std.specs.Str.{IsValidUpTo}
use Rattle.std.specs.Str.Lossy.{utf8_error_len}
use Rattle.std.proofs.lemmas.Str.{IsUtf8-append, IsUtf8-nil, IsUtf8-take, IsUtf8-drop, IsUtf8-encode, IsCharBoundary-from_take, IsCharBoundary-after_ascii, length-encode, len_utf8_bounds}
use Rattle.std.proofs.lemmas.List.{drop_all, get_or_append_left, take_at, take-append-le, drop-append-le}
use Rattle.std.proofs.lemmas.Bool.Decides.{nat_tests, leb_tells, eqb_tells}
use lib.Utf8.{scalars}
use Rattle.buffer_redux.specs.ReadLine.{IsPart, NeverUtf8}
use Rattle.buffer_redux.specs.ReadUntil.{FirstAt}
use Rattle.buffer_redux.proofs.Searching.{through}
use Rattle.buffer_redux.proofs.Utf8Parts.{can_finish, ltb_false, ltb_true}

and_true : (a b : Bool) → (a && b) ≡ true → (a ≡ true) × (b ≡ true)
and_true true b h = (refl, h)
and_true false b h = absurd (cc h)

-- a proper front of a character may still become one
part_of_two : (c k : ℕ) → 128 ≤ c → c < 2048 → 0 < k → k < length (encode_utf8 c)
    → utf8_error_len (take k (encode_utf8 c)) ≡ None
unfolding encode_utf8 utf8_error_len
part_of_two c k low high some short =
    let one : k ≡ 1 = omega (arith, rw (ltb_false c 128 low, ltb_true c 2048 high) at short) in
    rw (one, ltb_false c 128 low, ltb_true c 2048 high) (grind (arith, nat_tests))

part_of_three : (c k : ℕ) → IsScalar c → 2048 ≤ c → c < 65536 → 0 < k → k < length (encode_utf8 c)
    → utf8_error_len (take k (encode_utf8 c)) ≡ None
unfolding encode_utf8 utf8_error_len
part_of_three c k scalar low high some short =
    let wide = ltb_false c 128 (omega arith) in
    let below : k < 3 = rw (wide, ltb_false c 2048 low, ltb_true c 65536 high) at short in
    rw (wide, ltb_false c 2048 low, ltb_true c 65536 high)
    (elim (eqb_tells k 1) [
      | inl p ↦ rw p.1 (grind (arith, nat_tests))
      | inr p ↦ let two : k ≡ 2 = omega arith in rw two (grind (arith, nat_tests))
    ])

part_of_four : (c k : ℕ) → IsScalar c → 65536 ≤ c → 0 < k → k < length (encode_utf8 c)
    → utf8_error_len (take k (encode_utf8 c)) ≡ None
unfolding encode_utf8 utf8_error_len
part_of_four c k scalar low some short =
    let wide = ltb_false c 128 (omega arith) in
    let wider = ltb_false c 2048 (omega arith) in
    let high : c < 1114112 = grind (arith, nat_tests) in
    let below : k < 4 = rw (wide, wider, ltb_false c 65536 low) at short in
    rw (wide, wider, ltb_false c 65536 low)
    (elim (eqb_tells k 1) [
      | inl p ↦ rw p.1 (grind (arith, nat_tests))
      | inr p ↦ elim (eqb_tells k 2) [
        | inl q ↦ rw q.1 (grind (arith, nat_tests))
        | inr q ↦ let three : k ≡ 3 = omega arith in rw three (grind (arith, nat_tests))
      ]
    ])

part_of_char : (c k : ℕ) → IsScalar c → 0 < k → k < length (encode_utf8 c) → utf8_error_len (take k (encode_utf8 c)) ≡ None
part_of_char c k scalar some short =
    elim (leb_tells 65536 c) [
      | inl p ↦ part_of_four c k scalar p.1 some short
      | inr p ↦ elim (leb_tells 2048 c) [
        | inl q ↦ part_of_three c k scalar q.1 p.1 some short
        | inr q ↦ elim (leb_tells 128 c) [
          | inl r ↦ part_of_two c k r.1 q.1 some short
          | inr r ↦ absurd (omega (arith, rw (length-encode c, ltb_true c 128 r.1) at short))
        ]
      ]
    ]

-- these begin a text, and none of their fronts is one
part_of_text : (tail rest cs : List ℕ) → 0 < length tail → scalars cs ≡ true → encode_utf8_all cs ≡ tail ++ rest
    → ((n : ℕ) → 0 < n → ¬ (IsUtf8 (take n tail))) → utf8_error_len tail ≡ None
part_of_text tail rest [] some scalar is none = absurd (omega (arith, ap length is, length-append tail rest))
part_of_text tail rest (c ∷ cs) some scalar is none =
    let char = encode_utf8 c in
    let first = (and_true _ _ scalar).0 in
    elim (leb_tells (length char) (length tail)) [
      | inl p ↦
          let front : char ≡ take (length char) tail =
          sym (take_at char (encode_utf8_all cs) (length char) refl) ∙ ap (take (length char)) is
          ∙ take-append-le (length char) tail rest p.1 in
          absurd (none (length char) (omega (arith, length-encode c, len_utf8_bounds c))
          (subst IsUtf8 front (IsUtf8-encode c first)))
      | inr p ↦
          let front : take (length tail) char ≡ tail =
          sym (take-append-le (length tail) char (encode_utf8_all cs) (omega arith)) ∙ ap (take (length tail)) is
          ∙ take_at tail rest (length tail) refl in
          subst (λ xs. utf8_error_len xs ≡ None) front (part_of_char c (length tail) first some p.1)
    ]

-- text, and behind it what is text
text_behind : (bytes : List ℕ) (v n : ℕ) → IsUtf8 (take v bytes) → IsUtf8 (take n (drop v bytes))
    → IsUtf8 (take (v + n) bytes)
text_behind bytes v n front back =
    subst IsUtf8 (sym (take-add v n bytes)) (IsUtf8-append (take v bytes) (take n (drop v bytes)) front back)

-- where std finds a fault, no continuation mends it
pub never_at_fault : (bytes : List ℕ) (v k : ℕ) → IsValidUpTo bytes v → utf8_error_len (drop v bytes) ≡ Some k → NeverUtf8 bytes
never_at_fault bytes v k found fault more whole =
    let seam = IsCharBoundary-from_take (bytes ++ more) v whole (omega (arith, found.short, length-append bytes more))
    (subst IsUtf8 (sym (take-append-le v bytes more (omega (arith, found.short)))) found.front) in
    let back : IsUtf8 (drop v bytes ++ more) =
    subst IsUtf8 (drop-append-le v bytes more (omega (arith, found.short))) (IsUtf8-drop (bytes ++ more) v whole seam) in
    let part = part_of_text (drop v bytes) more back.0 (omega (arith, found.short, length-drop v bytes)) back.1.0 back.1.1
    (λ n some text. found.longest (v + n) (omega (arith, some))
    (text_behind bytes v n found.front text)) in
    cc (part, fault)

-- a line that is whole is not mended either: its line feed is a character
never_whole : (line more : List ℕ) (i : ℕ) → length line ≡ i + 1 → slice_index line i < 128 → IsUtf8 (line ++ more)
    → IsUtf8 line
never_whole line more i size low whole =
    let same : slice_index (line ++ more) i ≡ slice_index line i = get_or_append_left line more 0 i (omega (arith, size)) in
    let seam = IsCharBoundary-after_ascii (line ++ more) i whole (omega (arith, size, length-append line more))
    (omega (arith, low, same)) in
    subst IsUtf8 (ap (λ n. take n (line ++ more)) (sym size) ∙ take_at line more (length line) refl)
    (IsUtf8-take (line ++ more) (i + 1) whole seam)

-- all of the bytes are a text
pub front_whole : (bytes text : List ℕ) → text ≡ bytes → IsUtf8 bytes
    → (text ++ drop (length text) bytes ≡ bytes) × IsUtf8 text × IsPart (drop (length text) bytes)
front_whole bytes text same whole =
    let none : drop (length text) bytes ≡ [] = drop_all (length text) bytes (omega (arith, ap length same)) in (
      ap (λ l. text ++ l) none ∙ append-nil text ∙ same,
      subst IsUtf8 (sym same) whole,
      record {
        few = omega (arith, ap length none);
        bad = λ n some within. absurd (omega (arith, some, within, ap length none));
        may = ([], subst IsUtf8 (sym (append-nil (drop (length text) bytes) ∙ none)) IsUtf8-nil);
      },
    )

-- all of the bytes but a part of a character are a text
pub front_part : (bytes text : List ℕ) (v : ℕ) → IsValidUpTo bytes v → length bytes < v + 4
    → utf8_error_len (drop v bytes) ≡ None → text ≡ take v bytes
    → (text ++ drop (length text) bytes ≡ bytes) × IsUtf8 text × IsPart (drop (length text) bytes)
front_part bytes text v found few fault same =
    let size : length text ≡ v = ap length same ∙ length-take-le v bytes (omega (arith, found.short)) in
    let rest : drop (length text) bytes ≡ drop v bytes = ap (λ n. drop n bytes) size in
    let left : length (drop v bytes) ≡ length bytes - v = length-drop v bytes in
    let bad : (n : ℕ) → 0 < n → n ≤ length (drop v bytes) → ¬ (IsUtf8 (take n (drop v bytes))) =
    λ n some within text. found.longest (v + n) (omega (arith, some)) (text_behind bytes v n found.front text) in (
      ap (λ l. text ++ l) rest ∙ ap (λ l. l ++ drop v bytes) same ∙ take-append-drop v bytes,
      subst IsUtf8 (sym same) found.front,
      subst IsPart (sym rest) (record {
        few = omega (arith, few, found.short, left);
        bad = bad;
        may = can_finish (drop v bytes) (omega (arith, found.short, left)) (omega (arith, few, found.short, left)) fault bad;
      }),
    )

last_is : (byte : ℕ) (front : List ℕ) → slice_index (front ++ byte ∷ []) (length front) ≡ byte
last_is byte [] = refl
last_is byte (b ∷ front) = last_is byte front

-- no continuation mends a whole line that is no UTF-8
pub never_line : (at : ℕ) (bytes : List ℕ) → FirstAt 10 at bytes → ¬ (IsUtf8 (take (at + 1) bytes))
    → NeverUtf8 (take (at + 1) bytes)
never_line at bytes first bad more whole =
    let size : length (take at bytes) ≡ at = length-take-le at bytes (omega (arith, first.inside)) in
    let last : slice_index (take (at + 1) bytes) at ≡ 10 =
    ap (λ l. slice_index l at) (through 10 at bytes first)
    ∙ ap (λ i. slice_index (take at bytes ++ 10 ∷ []) i) (sym size) ∙ last_is 10 (take at bytes) in
    bad (never_whole (take (at + 1) bytes) more at (length-take-le (at + 1) bytes (omega (arith, first.inside)))
    (omega (arith, last)) whole)

-- no part of a character ends in a line feed
pub never_part : (front : List ℕ) → ¬ (IsPart (front ++ 10 ∷ []))
never_part front part =
    let line = front ++ 10 ∷ [] in
    let size : length line ≡ length front + 1 = length-append front (10 ∷ []) in
    part.bad (length line) (omega (arith, size)) (omega arith)
    (subst IsUtf8 (sym (take_at line [] (length line) refl) ∙ ap (take (length line)) (append-nil line))
    (never_whole line part.may.0 (length front) size (omega (arith, last_is 10 front)) part.may.1))
