-- A header that is text, and was read, is the text of the length that it says.
use Rattle.std.specs.Prelude.{◌≡◌, ℕ, zero, suc, ◌+◌, ◌-◌, ◌*◌, ◌/◌, ◌%◌, ◌<◌, ◌≤◌, List, [], ◌∷◌, ◌++◌, length, take, drop, Bool, true, false, ◌&&◌, ◌||◌, ◌==◌, nat_lt, if◌then◌else◌, slice_index, Option, None, Some}
use Rattle.std.specs.Fmt.{decimal}
use Rattle.std.proofs.Common.{sym, ap, subst, ◌∙◌, arith, refl, get_or, append_assoc, append-nil}
use Rattle.std.proofs.lemmas.Bool.{eqb-true, ltb-true, ltb-false}
use Rattle.std.proofs.lemmas.Fmt.{decimal_digit, decimal_step}
use Rattle.std.proofs.lemmas.List.{take-append-drop, take_all}
use Rattle.piece_reader.specs.HeaderFormat.{length_prefixed}
use Rattle.codec.specs.Number.{with_byte, with_digit}
use Rattle.codec.specs.Scanning.{says, scan_on, scanned}
use Rattle.codec.specs.TextHeaders.{Words, counts, ends, enters, stands, text_scanning, text_turn}
use Rattle.piece_reader.specs.declared.header.Header.TheVariants as header
use Rattle.codec.specs.declared.number.Number.{Number}
use Rattle.codec.specs.declared.number.Number.TheVariants.{Empty, Is}
use Rattle.piece_reader.specs.GrammarLaws.{take_zero}
use Rattle.codec.specs.declared.scan.ScanStep.{ScanStep}
use Rattle.codec.specs.declared.scan.ScanStep.TheVariants.{More, Sized, Bad}
use Rattle.codec.specs.declared.text_header.TextHeaderState.{TextHeaderState}
use Rattle.codec.specs.declared.text_header.TextHeaderState.TheVariants.{Before, Length, After}

both : (x y : Bool) → (x && y) ≡ true → (x ≡ true) × (y ≡ true)
both true y is = (refl, is)
both false y is = (let odd : false ≡ true = is in cc)

take_next : (all : List ℕ) (at : ℕ) → at < length all → take (at + 1) all ≡ take at all ++ get_or all at 0 ∷ []
take_next [] at few = absurd (omega (arith, few))
take_next (a ∷ []) zero few = refl
take_next (a ∷ b ∷ all) zero few = refl
take_next (a ∷ all) (suc at) few =
    let more : suc at + 1 ≡ suc (at + 1) = omega arith in
    ap (λ n. take n (a ∷ all)) more ∙ ap (λ l. a ∷ l) (take_next all at (omega (arith, few)))

-- a byte that stands at a place is the next one
stands_next : (all : List ℕ) (at byte : ℕ) → stands all at byte ≡ true
    → (at < length all) × (take (at + 1) all ≡ take at all ++ byte ∷ [])
stands_next all at byte is =
    let p = both (nat_lt at (length all)) (slice_index all at == byte) is in
    let few = ltb-true at (length all) p.0 in
    (few, take_next all at few ∙ ap (λ b. take at all ++ b ∷ []) (eqb-true (slice_index all at) byte p.1))

-- what makes a number longer is a digit
is_digit : (number more : Number) (byte : ℕ) → with_byte number byte ≡ Some more
    → (48 ≤ byte) × (byte ≤ 57) × (with_digit number (byte - 48) ≡ Some more)
is_digit number more byte is = go (nat_lt byte 48) (nat_lt 57 byte) refl refl is
  where
    go : (x y : Bool) → nat_lt byte 48 ≡ x → nat_lt 57 byte ≡ y
        → (if x || y then None else with_digit number (byte - 48)) ≡ Some more
        → (48 ≤ byte) × (byte ≤ 57) × (with_digit number (byte - 48) ≡ Some more)
    go true y low high odd = (let no : ◌≡◌ {A = Option Number} None (Some more) = odd in cc)
    go false true low high odd = (let no : ◌≡◌ {A = Option Number} None (Some more) = odd in cc)
    go false false low high same = (ltb-false byte 48 low, ltb-false 57 byte high, same)

-- a number that a digit made longer is written with the digit behind
longer : (value digit : ℕ) (more : Number) → digit < 10 → with_digit (Is value) digit ≡ Some more
    → (next : ℕ) × (more ≡ Is next) × (decimal next ≡ decimal value ++ (48 + digit) ∷ [])
longer value digit more few is = go (value == 0) (nat_lt 99999999999999999 value) refl refl is
  where
    go : (x y : Bool) → (value == 0) ≡ x → nat_lt 99999999999999999 value ≡ y
        → (if x || y then None else Some (Is (10 * value + digit))) ≡ Some more
        → (next : ℕ) × (more ≡ Is next) × (decimal next ≡ decimal value ++ (48 + digit) ∷ [])
    go true y none large odd = (let no : ◌≡◌ {A = Option Number} None (Some more) = odd in cc)
    go false true none large odd = (let no : ◌≡◌ {A = Option Number} None (Some more) = odd in cc)
    go false false some small same =
        let next = 10 * value + digit in
        let short : value ≤ 99999999999999999 = ltb-false 99999999999999999 value small in
        let is_next : more ≡ Is next = (let e : ◌≡◌ {A = Option Number} (Some (Is next)) (Some more) = same in cc) in
        (next, is_next, written value digit few (not_zero value some) short)
      where
        not_zero : (v : ℕ) → (v == 0) ≡ false → 0 < v
        not_zero zero odd = (let no : true ≡ false = odd in cc)
        not_zero (suc v) is = omega arith

        written : (v d : ℕ) → d < 10 → 0 < v → v ≤ 99999999999999999 → decimal (10 * v + d) ≡ decimal v ++ (48 + d) ∷ []
        written v d few some short =
            let front : (10 * v + d) / 10 ≡ v = omega (arith, few) in
            let back : (10 * v + d) % 10 ≡ d = omega (arith, few) in
            decimal_step (10 * v + d) (omega (arith, some)) (omega (arith, short, few))
            ∙ ap (λ n. decimal n ++ (48 + (10 * v + d) % 10) ∷ []) front ∙ ap (λ n. decimal v ++ (48 + n) ∷ []) back

module _ (w : Words) where
  -- these bytes were read where a header stands there
  abbrev WasRead : TextHeaderState → List ℕ → Type 0
  WasRead (Before at) done = (at ≤ length w.before) × (done ≡ take at w.before)
  WasRead (Length Empty) done = done ≡ w.before
  WasRead (Length (Is n)) done = done ≡ w.before ++ decimal n
  WasRead (After at n) done = (at ≤ length w.after) × (done ≡ w.before ++ (decimal n ++ take at w.after))

  -- these bytes were read, the last by a turn that came to this
  abbrev NowRead : ScanStep TextHeaderState → List ℕ → Type 0
  NowRead (More place) done = WasRead place done
  NowRead (Sized n) done = done ≡ w.before ++ (decimal n ++ w.after)
  NowRead Bad done = Unit {0}

  entered : (at : ℕ) (done : List ℕ) → at ≤ length w.before → done ≡ take at w.before → WasRead (enters w at) done
  entered at done few is = go (at == length w.before) refl
    where
      go : (b : Bool) → (at == length w.before) ≡ b → WasRead (if b then Length Empty else Before at) done
      go true same = is ∙ take_all at w.before (omega (arith, eqb-true at (length w.before) same))
      go false other = (few, is)

  ended : (at n : ℕ) (done : List ℕ) → at ≤ length w.after → done ≡ w.before ++ (decimal n ++ take at w.after)
      → NowRead (ends w at n) done
  ended at n done few is = go (at == length w.after) refl
    where
      go : (b : Bool) → (at == length w.after) ≡ b → NowRead (if b then Sized n else More (After at n)) done
      go true same = is ∙ ap (λ l. w.before ++ (decimal n ++ l))
          (take_all at w.after (omega (arith, eqb-true at (length w.after) same)))
      go false other = (few, is)

  -- one more byte behind the length
  behind_next : (at n byte : ℕ) (done : List ℕ) → done ≡ w.before ++ (decimal n ++ take at w.after)
      → stands w.after at byte ≡ true → NowRead (ends w (at + 1) n) (done ++ byte ∷ [])
  behind_next at n byte done is there =
      let next = stands_next w.after at byte there in
      ended (at + 1) n (done ++ byte ∷ []) (omega (arith, next.0)) (
      ap (λ l. l ++ byte ∷ []) is ∙ append_assoc w.before (decimal n ++ take at w.after) (byte ∷ [])
      ∙ ap (λ l. w.before ++ l) (append_assoc (decimal n) (take at w.after) (byte ∷ []) ∙ ap (λ l. decimal n ++ l) (sym next.1)))

  counted : (number : Number) (byte : ℕ) (done : List ℕ) → WasRead (Length number) done → (o : Option Number)
      → with_byte number byte ≡ o → NowRead (counts w o number byte) (done ++ byte ∷ [])
  counted Empty byte done is None isnt = tt
  counted (Is n) byte done is None isnt = go (stands w.after 0 byte) refl
    where
      first : done ≡ w.before ++ (decimal n ++ take 0 w.after)
      first = is ∙ ap (λ l. w.before ++ l) (sym (append-nil (decimal n)) ∙ ap (λ l. decimal n ++ l) (sym (take_zero w.after)))

      go : (b : Bool) → stands w.after 0 byte ≡ b → NowRead (if b then ends w 1 n else Bad) (done ++ byte ∷ [])
      go true there = behind_next 0 n byte done first there
      go false other = tt
  counted Empty byte done is (Some more) longer_is =
      let d = is_digit Empty more byte longer_is in
      let same : more ≡ Is (byte - 48) = (let e : ◌≡◌ {A = Option Number} (Some (Is (byte - 48))) (Some more) = d.2 in cc) in
      let back : 48 + (byte - 48) ≡ byte = omega (arith, d.0) in
      let text : decimal (byte - 48) ≡ byte ∷ [] =
      decimal_digit (byte - 48) (omega (arith, d.0, d.1)) ∙ ap (λ b. b ∷ []) back in
      subst (λ m. WasRead (Length m) (done ++ byte ∷ [])) (sym same) (
      ap (λ l. l ++ byte ∷ []) is ∙ ap (λ l. w.before ++ l) (sym text))
  counted (Is n) byte done is (Some more) longer_is =
      let d = is_digit (Is n) more byte longer_is in
      let next = longer n (byte - 48) more (omega (arith, d.0, d.1)) d.2 in
      let back : 48 + (byte - 48) ≡ byte = omega (arith, d.0) in
      subst (λ m. WasRead (Length m) (done ++ byte ∷ [])) (sym next.1) (
      ap (λ l. l ++ byte ∷ []) is ∙ append_assoc w.before (decimal n) (byte ∷ [])
      ∙ ap (λ b. w.before ++ (decimal n ++ b ∷ [])) (sym back) ∙ ap (λ l. w.before ++ l) (sym next.2))

  turned : (place : TextHeaderState) (byte : ℕ) (done : List ℕ) → WasRead place done
      → NowRead (text_turn w place byte) (done ++ byte ∷ [])
  turned (Before at) byte done (few, is) = go (stands w.before at byte) refl
    where
      go : (b : Bool) → stands w.before at byte ≡ b
          → NowRead (if b then More (enters w (at + 1)) else Bad) (done ++ byte ∷ [])
      go true there =
          let next = stands_next w.before at byte there in
          entered (at + 1) (done ++ byte ∷ []) (omega (arith, next.0)) (ap (λ l. l ++ byte ∷ []) is ∙ sym next.1)
      go false other = tt
  turned (Length number) byte done is = counted number byte done is (with_byte number byte) refl
  turned (After at n) byte done (few, is) = go (stands w.after at byte) refl
    where
      go : (b : Bool) → stands w.after at byte ≡ b → NowRead (if b then ends w (at + 1) n else Bad) (done ++ byte ∷ [])
      go true there = behind_next at n byte done is there
      go false other = tt

  -- a scan that ends has read all of it
  scan_read : (left : ℕ) (place : TextHeaderState) (used : ℕ) (bytes done : List ℕ) (len total : ℕ) → WasRead place done
      → scan_on (text_turn w) left place used bytes ≡ header.Sized len total
      → (count : ℕ) × (total ≡ used + count) × (done ++ take count bytes ≡ w.before ++ (decimal len ++ w.after))
  scan_read zero place used bytes done len total was odd = (let no : header.Bad ≡ header.Sized len total = odd in cc)
  scan_read (suc left) place used [] done len total was odd = (let no : header.Short ≡ header.Sized len total = odd in cc)
  scan_read (suc left) place used (b ∷ bytes) done len total was is =
      go (text_turn w place b) (turned place b done was)
      (λ next now on. scan_read left next (used + 1) bytes (done ++ b ∷ []) len total now on) is
    where
      go : (turn : ScanStep TextHeaderState) → NowRead turn (done ++ b ∷ [])
          → ((next : TextHeaderState) → WasRead next (done ++ b ∷ [])
          → scan_on (text_turn w) left next (used + 1) bytes ≡ header.Sized len total
          → (count : ℕ) × (total ≡ used + 1 + count)
          × ((done ++ b ∷ []) ++ take count bytes ≡ w.before ++ (decimal len ++ w.after)))
          → says turn (used + 1) (λ next. scan_on (text_turn w) left next (used + 1) bytes) ≡ header.Sized len total
          → (count : ℕ) × (total ≡ used + count)
          × (done ++ take count (b ∷ bytes) ≡ w.before ++ (decimal len ++ w.after))
      go (More next) now later on =
          let r = later next now on in
          (suc r.0, omega (arith, r.1), sym (append_assoc done (b ∷ []) (take r.0 bytes)) ∙ r.2)
      go (Sized n) now later same =
          let e : header.Sized n (used + 1) ≡ header.Sized len total = same in
          let length' : n ≡ len = cc in
          let all : used + 1 ≡ total = cc in
          (1, sym all, ap (λ l. done ++ b ∷ l) (take_zero bytes) ∙ now ∙ ap (λ m. w.before ++ (decimal m ++ w.after)) length')
      go Bad now later odd = (let no : header.Bad ≡ header.Sized len total = odd in cc)

  -- what a header says, its text says: so no two texts say the same, and none says another
  pub text_header_is : (bytes : List ℕ) (len used : ℕ) → (scanned (text_scanning w)).header bytes ≡ header.Sized len used
      → take used bytes ≡ w.before ++ (decimal len ++ w.after)
  text_header_is bytes len used is =
      let r = scan_read (18 + length w.before + length w.after) (enters w 0) 0 bytes [] len used
      (entered 0 [] (omega arith) (sym (take_zero w.before))) is in
      let same : used ≡ r.0 = omega (arith, r.1) in
      ap (λ n. take n bytes) same ∙ r.2

  -- a piece is that text of its payload's length, the payload, and the tail
  pub text_piece_is : (bytes payload : List ℕ) → (length_prefixed (scanned (text_scanning w))).piece bytes payload
      → bytes ≡ (w.before ++ (decimal (length payload) ++ w.after)) ++ (payload ++ w.tail)
  text_piece_is bytes payload p =
      sym (take-append-drop p.0 bytes) ∙ ap (λ l. l ++ drop p.0 bytes) (text_header_is bytes (length payload) p.0 p.1)
      ∙ ap (λ l. (w.before ++ (decimal (length payload) ++ w.after)) ++ l) p.3
