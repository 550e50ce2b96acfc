-- A length in bytes of seven bits is read as it was written.
use Rattle.std.specs.Prelude.{◌≡◌, ℕ, ◌+◌, ◌-◌, ◌*◌, ◌/◌, ◌%◌, ◌<◌, ◌≤◌, ◌^◌, List, [], ◌∷◌, ◌++◌, length, Bool, true, false, nat_lt, if◌then◌else◌}
use Rattle.std.proofs.Common.{ap, append-nil, arith, refl, subst, ◌∙◌}
use Rattle.std.proofs.lemmas.Bool.{le-ltb, lt-ltb, ltb-true}
use Rattle.codec.specs.Grammar.{IsLawful}
use Rattle.codec.specs.HeaderFormatLaws.{length_prefixed_lawful}
use Rattle.codec.specs.HeadersOut.{IsItemRead, IsReadBack}
use Rattle.codec.specs.HeadersOutLaws.{length_prefixed_back}
use Rattle.codec.specs.Scanning.{IsSmall, says, scan_on, scanned}
use Rattle.codec.specs.ScanningLaws.{scanned_headers}
use Rattle.codec.specs.declared.Header.{Header}
use Rattle.codec.specs.declared.Header.TheVariants as header
use Rattle.codec.specs.declared.scan.ScanStep.TheVariants.{More, Sized, Bad}
use Rattle.decoders.specs.Varints.{kind_headers, kind_pieces, kind_varints, piece_kind, varint_bytes, varint_turn, varints}
use Rattle.decoders.specs.declared.varints.VarintPlace.TheVariants as at

pub varints_small : (max : ℕ) → max < 2 ^ 28 → IsSmall (varints max)
varints_small max fits = record { some = omega arith; small = omega (arith, fits) }

pub kind_varints_small : (max : ℕ) → max < 2 ^ 28 → IsSmall (kind_varints max)
kind_varints_small max fits = record { some = omega arith; small = omega (arith, fits) }

pub kind_pieces_lawful : (max : ℕ) → max < 2 ^ 28 → IsLawful (kind_pieces max)
kind_pieces_lawful max fits =
    length_prefixed_lawful (scanned (kind_varints max)) (scanned_headers (kind_varints max) (kind_varints_small max fits))

-- a byte with its highest bit isn't the last
goes_on : (n : ℕ) → nat_lt (128 + n) 128 ≡ false
goes_on n = le-ltb (128 + n) 128 (omega arith)

low : (n : ℕ) → 128 + n - 128 ≡ n
low n = omega arith

-- a length as it is written, of three bytes or four; and of two or more
abbrev three_or_four : ℕ → Bool → List ℕ
three_or_four n less = if less then (128 + n % 128) ∷ (128 + n / 128 % 128) ∷ (n / 16384) ∷ []
    else (128 + n % 128) ∷ (128 + n / 128 % 128) ∷ (128 + n / 16384 % 128) ∷ (n / 2097152) ∷ []

abbrev two_or_more : ℕ → Bool → List ℕ
two_or_more n less = if less then (128 + n % 128) ∷ (n / 128) ∷ [] else three_or_four n (nat_lt n 2097152)

-- what a length says behind `used` bytes
module _ (used : ℕ) where
  abbrev scan : List ℕ → Header
  scan bytes = scan_on varint_turn 4 at.Length used bytes

  one : (a : ℕ) → a < 128 → scan (a ∷ []) ≡ header.Sized a (used + 1)
  one a less = ap (λ t. says (if t then Sized a else More (at.One (a - 128))) (used + 1)
      (λ next. scan_on varint_turn 3 next (used + 1) [])) (lt-ltb a 128 less)

  -- the first of several
  first : (a : ℕ) (more : List ℕ) → scan ((128 + a) ∷ more) ≡ scan_on varint_turn 3 (at.One a) (used + 1) more
  first a more =
      ap (λ t. says (if t then Sized (128 + a) else More (at.One (128 + a - 128))) (used + 1)
      (λ next. scan_on varint_turn 3 next (used + 1) more)) (goes_on a)
      ∙ ap (λ x. scan_on varint_turn 3 (at.One x) (used + 1) more) (low a)

  -- and the second
  second : (a b : ℕ) (more : List ℕ)
      → scan ((128 + a) ∷ (128 + b) ∷ more) ≡ scan_on varint_turn 2 (at.Two a b) (used + 1 + 1) more
  second a b more = first a ((128 + b) ∷ more)
      ∙ ap (λ t. says (if t then Sized (a + 128 * (128 + b)) else More (at.Two a (128 + b - 128))) (used + 1 + 1)
      (λ next. scan_on varint_turn 2 next (used + 1 + 1) more)) (goes_on b)
      ∙ ap (λ x. scan_on varint_turn 2 (at.Two a x) (used + 1 + 1) more) (low b)

  -- and the third
  third : (a b c : ℕ) (more : List ℕ) → scan ((128 + a) ∷ (128 + b) ∷ (128 + c) ∷ more)
      ≡ scan_on varint_turn 1 (at.Three a b c) (used + 1 + 1 + 1) more
  third a b c more = second a b ((128 + c) ∷ more)
      ∙ ap (λ t. says (if t then Sized (a + 128 * b + 16384 * (128 + c)) else More (at.Three a b (128 + c - 128)))
      (used + 1 + 1 + 1) (λ next. scan_on varint_turn 1 next (used + 1 + 1 + 1) more)) (goes_on c)
      ∙ ap (λ x. scan_on varint_turn 1 (at.Three a b x) (used + 1 + 1 + 1) more) (low c)

  two : (a b : ℕ) → b < 128 → scan ((128 + a) ∷ b ∷ []) ≡ header.Sized (a + 128 * b) (used + 1 + 1)
  two a b less = first a (b ∷ [])
      ∙ ap (λ t. says (if t then Sized (a + 128 * b) else More (at.Two a (b - 128))) (used + 1 + 1)
      (λ next. scan_on varint_turn 2 next (used + 1 + 1) [])) (lt-ltb b 128 less)

  three : (a b c : ℕ) → c < 128
      → scan ((128 + a) ∷ (128 + b) ∷ c ∷ []) ≡ header.Sized (a + 128 * b + 16384 * c) (used + 1 + 1 + 1)
  three a b c less = second a b (c ∷ [])
      ∙ ap (λ t. says (if t then Sized (a + 128 * b + 16384 * c) else More (at.Three a b (c - 128))) (used + 1 + 1 + 1)
      (λ next. scan_on varint_turn 1 next (used + 1 + 1 + 1) [])) (lt-ltb c 128 less)

  four : (a b c d : ℕ) → d < 128 → scan ((128 + a) ∷ (128 + b) ∷ (128 + c) ∷ d ∷ [])
      ≡ header.Sized (a + 128 * b + 16384 * c + 2097152 * d) (used + 1 + 1 + 1 + 1)
  four a b c d less = third a b c (d ∷ [])
      ∙ ap (λ t. says (if t then Sized (a + 128 * b + 16384 * c + 2097152 * d) else Bad) (used + 1 + 1 + 1 + 1)
      (λ next. scan_on varint_turn 0 next (used + 1 + 1 + 1 + 1) [])) (lt-ltb d 128 less)

  abbrev ScansAs : ℕ → List ℕ → Type 0
  ScansAs n bytes = scan bytes ≡ header.Sized n (used + length bytes)

  said : {n len at' : ℕ} (bytes : List ℕ) → scan bytes ≡ header.Sized len at' → len ≡ n → at' ≡ used + length bytes
      → ScansAs n bytes
  said {n = n} {at' = at'} bytes is same place = is ∙ ap (λ n. header.Sized n at') same ∙ ap (header.Sized n) place

  pub varint_back : (n : ℕ) → n < 2 ^ 28 → ScansAs n (varint_bytes n)
  varint_back n fits = by_one (nat_lt n 128) refl
    where
      by_three : (b : Bool) → nat_lt n 2097152 ≡ b → ScansAs n (three_or_four n b)
      by_three true less = said ((128 + n % 128) ∷ (128 + n / 128 % 128) ∷ (n / 16384) ∷ [])
          (three (n % 128) (n / 128 % 128) (n / 16384) (omega (arith, ltb-true n 2097152 less)))
          (omega arith) (omega arith)
      by_three false more = said ((128 + n % 128) ∷ (128 + n / 128 % 128) ∷ (128 + n / 16384 % 128) ∷ (n / 2097152) ∷ [])
          (four (n % 128) (n / 128 % 128) (n / 16384 % 128) (n / 2097152) (omega (arith, fits)))
          (omega arith) (omega arith)

      by_two : (b : Bool) → nat_lt n 16384 ≡ b → ScansAs n (two_or_more n b)
      by_two true less = said ((128 + n % 128) ∷ (n / 128) ∷ []) (two (n % 128) (n / 128) (omega (arith, ltb-true n 16384 less)))
          (omega arith) (omega arith)
      by_two false more = by_three (nat_lt n 2097152) refl

      by_one : (b : Bool) → nat_lt n 128 ≡ b → ScansAs n (if b then n ∷ [] else two_or_more n (nat_lt n 16384))
      by_one true less = one n (ltb-true n 128 less)
      by_one false more = by_two (nat_lt n 16384) refl

pub varints_read_back : (max : ℕ) → max < 2 ^ 28
    → IsReadBack (scanned (varints max)) (record { header = varint_bytes; max = max })
varints_read_back max fits = record {
  within = omega arith;
  again = λ len short. varint_back 0 len (omega (arith, fits, short)) ∙ ap (header.Sized len) (omega arith);
}

-- a piece of any kind is read as it was written
pub kind_pieces_back : (max : ℕ) → max < 2 ^ 28 → (kind : ℕ) (payload : List ℕ) → length payload ≤ max
    → IsItemRead (kind_pieces max) piece_kind kind payload ((kind ∷ varint_bytes (length payload)) ++ payload)
kind_pieces_back max fits kind payload short =
    let h = scanned (kind_varints max) in
    let o = kind_headers max kind in
    record {
      piece = subst (λ l. (kind_pieces max).piece ((kind ∷ varint_bytes (length payload)) ++ l) payload) (append-nil payload)
          (length_prefixed_back h o (scanned_headers (kind_varints max) (kind_varints_small max fits)) (record {
            within = omega arith;
            again = λ len few. varint_back 1 len (omega (arith, fits, few)) ∙ ap (header.Sized len) (omega arith);
          }) payload short);
      says = refl;
    }
