-- A header that is text is read as it was written.
use Rattle.std.specs.Prelude.{◌≡◌, ℕ, zero, suc, ◌+◌, ◌-◌, ◌*◌, ◌/◌, ◌%◌, ◌<◌, ◌≤◌, ◌⊎◌, List, [], ◌∷◌, ◌++◌, length, true, ◌&&◌, ◌||◌, ◌==◌, nat_lt, if◌then◌else◌, slice_index, min, None, Some}
use Rattle.std.specs.Fmt.{decimal}
use Rattle.std.proofs.Common.{sym, ap, subst, ◌∙◌, arith, inl, inr, refl, get_or, length-append, append_assoc}
use Rattle.std.proofs.Math.Nat.{div-add-mod}
use Rattle.std.proofs.Math.Seq.{get_or-append_seam}
use Rattle.std.proofs.lemmas.Bool.{eq-eqb, ne_eqb, lt-ltb, le-ltb}
use Rattle.std.proofs.lemmas.Fmt.{decimal_by_steps, length-decimal-le}
use Rattle.codec.specs.HeadersOut.{IsReadBack}
use Rattle.codec.specs.Number.{with_byte, with_digit}
use Rattle.codec.specs.Scanning.{LeadsTo, says, scan_on, scanned}
use Rattle.codec.specs.ScanningLaws.{leads_on, leads_then}
use Rattle.codec.specs.TextHeaders.{Words, IsSound, counts, ends, enters, stands, text_scanning, text_turn}
use Rattle.codec.specs.TextHeadersOut.{IsWritten}
use Rattle.piece_reader.specs.declared.header.Header.{Header}
use Rattle.piece_reader.specs.declared.header.Header.TheVariants as header
use Rattle.codec.specs.declared.number.Number.{Number}
use Rattle.codec.specs.declared.number.Number.TheVariants.{Empty, Is}
use Rattle.codec.specs.declared.scan.ScanStep.TheVariants.{More, Sized, Bad}
use Rattle.codec.specs.declared.text_header.TextHeaderState.{TextHeaderState}
use Rattle.codec.specs.declared.text_header.TextHeaderState.TheVariants.{Before, Length, After}

-- a byte stands where it stands
stands_there : (all done todo : List ℕ) (byte : ℕ) → all ≡ done ++ byte ∷ todo → stands all (length done) byte ≡ true
stands_there all done todo byte is =
    ap (λ b. b && (slice_index all (length done) == byte))
    (lt-ltb (length done) (length all) (omega (arith, ap length is, length-append done (byte ∷ todo))))
    ∙ eq-eqb (slice_index all (length done)) byte
    (ap (λ l. get_or l (length done) 0) is ∙ get_or-append_seam done byte todo 0)

-- a digit is one
with_byte_digit : (number : Number) (digit : ℕ) → digit < 10 → with_byte number (48 + digit) ≡ with_digit number digit
with_byte_digit number digit few =
    ap (λ b. if b || nat_lt 57 (48 + digit) then None else with_digit number (48 + digit - 48))
    (le-ltb (48 + digit) 48 (omega arith))
    ∙ ap (λ b. if b then None else with_digit number (48 + digit - 48)) (le-ltb 57 (48 + digit) (omega (arith, few)))
    ∙ ap (with_digit number) (let same : 48 + digit - 48 ≡ digit = omega arith in same)

-- a number that isn't 0 and has at most 17 digits goes on with a digit
with_digit_more : (value digit : ℕ) → 0 < value → value ≤ 99999999999999999
    → with_digit (Is value) digit ≡ Some (Is (10 * value + digit))
with_digit_more value digit some few =
    ap (λ b. if b || nat_lt 99999999999999999 value then None else Some (Is (10 * value + digit)))
    (ne_eqb value 0 (λ is. omega (arith, some, is)))
    ∙ ap (λ b. if b then None else Some (Is (10 * value + digit))) (le-ltb 99999999999999999 value few)

-- another byte is none
with_byte_other : (number : Number) (byte : ℕ) → (byte < 48) ⊎ (57 < byte) → with_byte number byte ≡ None
with_byte_other number byte (inl less) =
    ap (λ b. if b || nat_lt 57 byte then None else with_digit number (byte - 48)) (lt-ltb byte 48 less)
with_byte_other number byte (inr above) =
    ap (λ b. if b || nat_lt 57 byte then None else with_digit number (byte - 48)) (le-ltb byte 48 (omega (arith, above)))
    ∙ ap (λ b. if b then None else with_digit number (byte - 48)) (lt-ltb 57 byte above)

module _ (w : Words) where
  abbrev LeadsByTurns : TextHeaderState → List ℕ → TextHeaderState → Type 0
  LeadsByTurns = LeadsTo (text_turn w)

  -- what stands before a length leads to it
  first : (done todo : List ℕ) → w.before ≡ done ++ todo → LeadsByTurns (enters w (length done)) todo (Length Empty)
  first done [] is =
      ap (λ b. if b then Length Empty else Before (length done))
      (eq-eqb (length done) (length w.before) (omega (arith, ap length is, length-append done [])))
  first done (b ∷ todo) is =
      let at = length done in
      let count : length (done ++ b ∷ []) ≡ at + 1 = omega (arith, length-append done (b ∷ [])) in
      subst (λ s. LeadsByTurns s (b ∷ todo) (Length Empty))
      (sym (ap (λ b. if b then Length Empty else Before at)
      (ne_eqb at (length w.before) (λ same. omega (arith, same, ap length is, length-append done (b ∷ todo)))))) (
        enters w (at + 1),
        ap (λ b. if b then More (enters w (at + 1)) else Bad) (stands_there w.before done todo b is),
        subst (λ n. LeadsByTurns (enters w n) todo (Length Empty)) count
            (first (done ++ b ∷ []) todo (is ∙ sym (append_assoc done (b ∷ []) todo))),
      )

  -- a length in decimal leads to itself
  counted : (n : ℕ) → n < 1000000000000000000 → LeadsByTurns (Length Empty) (decimal n) (Length (Is n))
  counted n few = decimal_by_steps (λ n ds. n < 1000000000000000000 → LeadsByTurns (Length Empty) ds (Length (Is n)))
      (λ n small few. (Length (Is n), ap (λ o. counts w o Empty (48 + n)) (with_byte_digit Empty n small), refl))
      (λ n ds big later few.
      let whole : 10 * (n / 10) + n % 10 ≡ n = div-add-mod n 10 in
      let digit : n % 10 < 10 = omega arith in
      let some : 0 < n / 10 = omega (arith, big) in
      let short : n / 10 ≤ 99999999999999999 = omega (arith, few) in
      leads_then (text_turn w) (Length Empty) ds (Length (Is (n / 10))) ((48 + n % 10) ∷ []) (Length (Is n))
      (later (omega (arith, few))) (
        Length (Is n),
        ap (λ o. counts w o (Is (n / 10)) (48 + n % 10))
            (with_byte_digit (Is (n / 10)) (n % 10) digit ∙ with_digit_more (n / 10) (n % 10) some short
            ∙ ap (λ v. Some (Is v)) whole),
        refl,
      )) n (omega (arith, few)) few

  -- what stands behind it ends the header
  last : (left n used : ℕ) (done todo : List ℕ) → w.after ≡ done ++ todo → length todo ≤ left
      → says (ends w (length done) n) used (λ next. scan_on (text_turn w) left next used todo)
      ≡ header.Sized n (used + length todo)
  last left n used done [] is few =
      let count : used ≡ used + length {A = ℕ} [] = omega arith in
      ap (λ b. says (if b then Sized n else More (After (length done) n)) used (λ next. scan_on (text_turn w) left next used []))
      (eq-eqb (length done) (length w.after) (omega (arith, ap length is, length-append done [])))
      ∙ ap (header.Sized n) count
  last zero n used done (b ∷ todo) is few = absurd (omega (arith, few))
  last (suc left) n used done (b ∷ todo) is few =
      let at = length done in
      let on = last left n (used + 1) (done ++ b ∷ []) todo (is ∙ sym (append_assoc done (b ∷ []) todo)) (omega (arith, few)) in
      let count : length (done ++ b ∷ []) ≡ at + 1 = omega (arith, length-append done (b ∷ [])) in
      let size : used + 1 + length todo ≡ used + length (b ∷ todo) = omega arith in
      let goes_on : TextHeaderState → Header = λ next. scan_on (text_turn w) left next (used + 1) todo in
      ap (λ c. says (if c then Sized n else More (After at n)) used
      (λ next. scan_on (text_turn w) (suc left) next used (b ∷ todo)))
      (ne_eqb at (length w.after) (λ same. omega (arith, same, ap length is, length-append done (b ∷ todo))))
      ∙ ap (λ c. says (if c then ends w (at + 1) n else Bad) (used + 1) goes_on) (stands_there w.after done todo b is)
      ∙ ap (λ k. says (ends w k n) (used + 1) goes_on) (sym count)
      ∙ on ∙ ap (header.Sized n) size

  closing : (left n used : ℕ) (after : List ℕ) → w.after ≡ after → 0 < length after → IsWritten w → length after ≤ left
      → scan_on (text_turn w) left (Length (Is n)) used after ≡ header.Sized n (used + length after)
  closing left n used [] is some written few = absurd (omega (arith, some))
  closing zero n used (a ∷ after) is some written few = absurd (omega (arith, few))
  closing (suc left) n used (a ∷ after) is some written few =
      let goes_on : TextHeaderState → Header = λ next. scan_on (text_turn w) left next (used + 1) after in
      let no_digit = subst (λ l. (slice_index l 0 < 48) ⊎ (57 < slice_index l 0)) is written.no_digit in
      let size : used + 1 + length after ≡ used + length (a ∷ after) = omega arith in
      ap (λ o. says (counts w o (Is n) a) (used + 1) goes_on) (with_byte_other (Is n) a no_digit)
      ∙ ap (λ c. says (if c then ends w 1 n else Bad) (used + 1) goes_on) (stands_there w.after [] after a is)
      ∙ last left n (used + 1) (a ∷ []) after is (omega (arith, few))
      ∙ ap (header.Sized n) size

  pub text_read_back : IsSound w → IsWritten w → IsReadBack (scanned (text_scanning w))
      (record { header = λ len. w.before ++ (decimal len ++ w.after); max = min w.max 999999999999999999 })
  text_read_back sound written = record {
    within = omega arith;
    again = λ len fits.
        let short : len < 1000000000000000000 = omega (arith, fits) in
        let few : length (decimal len) ≤ 18 =
        length-decimal-le 18 len (omega arith) (omega (arith, short)) (omega (arith, short)) in
        let front = w.before ++ decimal len in
        let all : w.before ++ (decimal len ++ w.after) ≡ front ++ w.after = sym (append_assoc w.before (decimal len) w.after) in
        let most = 18 + length w.before + length w.after in
        let size_of_front = length-append w.before (decimal len) in
        let size : 0 + length front + length w.after ≡ length (w.before ++ (decimal len ++ w.after)) =
        omega (arith, ap length all, length-append front w.after) in
        ap (λ l. scan_on (text_turn w) most (enters w 0) 0 l) all
        ∙ leads_on (text_turn w) most (enters w 0) 0 front w.after (Length (Is len))
        (leads_then (text_turn w) (enters w 0) w.before (Length Empty) (decimal len) (Length (Is len)) (first [] w.before refl)
        (counted len short)) (most - length front) (0 + length front) (omega (arith, few, size_of_front)) refl
        ∙ closing (most - length front) len (0 + length front) w.after refl sound.some written
        (omega (arith, few, size_of_front)) ∙ ap (header.Sized len) size;
  }
