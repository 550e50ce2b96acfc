-- Bulk strings, and the null string, have small parts, and which bytes the null string is.
use Rattle.std.specs.Prelude.{◌≡◌, ℕ, ◌<◌, ◌^◌, List, [], ◌∷◌, ◌++◌, ◌↔◌, length, drop, Bool, true, false, ◌==◌, if◌then◌else◌}
use Rattle.std.proofs.Common.{sym, ap, ◌∙◌, arith, refl}
use Rattle.std.proofs.lemmas.Bool.{eqb-true}
use Rattle.codec.specs.HeaderFormat.{length_prefixed}
use Rattle.codec.specs.Scanning.{IsSmall, says, scan_on, scanned}
use Rattle.codec.specs.declared.Header.TheVariants as header
use Rattle.codec.specs.declared.scan.ScanStep.TheVariants.{Sized, Bad}
use Rattle.decoders.specs.Nullable.{nullable}

pub nullable_small : (max : ℕ) → max < 2 ^ 62 → IsSmall (nullable max)
nullable_small max fits = record { some = omega arith; small = omega (arith, fits) }

module _ (max : ℕ) where
  -- its header ends behind the one, and says that nothing follows
  null_header : (rest : List ℕ) (len used : ℕ) → (scanned (nullable max)).header (36 ∷ 45 ∷ rest) ≡ header.Sized len used
      → (len ≡ 0) × (used ≡ 3) × ((more : List ℕ) × (rest ≡ 49 ∷ more))
  null_header [] len used odd = (let no : header.Short ≡ header.Sized len used = odd in cc)
  null_header (c ∷ more) len used is = go (c == 49) refl is
    where
      go : (x : Bool) → (c == 49) ≡ x
          → says (if x then Sized 0 else Bad) 3 (λ next. scan_on (nullable max).turn 18 next 3 more) ≡ header.Sized len used
          → (len ≡ 0) × (used ≡ 3) × ((later : List ℕ) × (c ∷ more ≡ 49 ∷ later))
      go true one same =
          let e : header.Sized 0 3 ≡ header.Sized len used = same in
          let none : 0 ≡ len = cc in
          let three : 3 ≡ used = cc in
          (sym none, sym three, (more, ap (λ x. x ∷ more) (eqb-true c 49 one)))
      go false other odd = (let no : header.Bad ≡ header.Sized len used = odd in cc)

  -- no other piece begins with a dollar sign and a minus
  pub null_piece : (rest payload : List ℕ) → (length_prefixed (scanned (nullable max))).piece (36 ∷ 45 ∷ rest) payload
      ↔ ((rest ≡ 49 ∷ 13 ∷ 10 ∷ []) × (payload ≡ []))
  null_piece rest payload = (is_null, null_is)
    where
      nothing : (l : List ℕ) → length l ≡ 0 → l ≡ []
      nothing [] is = refl
      nothing (b ∷ l) odd = absurd (omega (arith, odd))

      is_null : (length_prefixed (scanned (nullable max))).piece (36 ∷ 45 ∷ rest) payload
          → (rest ≡ 49 ∷ 13 ∷ 10 ∷ []) × (payload ≡ [])
      is_null (used, said, few, left) =
          let null = null_header rest (length payload) used said in
          let empty : payload ≡ [] = nothing payload null.0 in
          let behind : null.2.0 ≡ payload ++ 13 ∷ 10 ∷ [] =
          ap (λ l. drop 1 l) (sym null.2.1) ∙ ap (λ n. drop n (36 ∷ 45 ∷ rest)) (sym null.1) ∙ left in
          (null.2.1 ∙ ap (λ l. 49 ∷ l) (behind ∙ ap (λ l. l ++ 13 ∷ 10 ∷ []) empty), empty)

      null_is : (rest ≡ 49 ∷ 13 ∷ 10 ∷ []) × (payload ≡ [])
          → (length_prefixed (scanned (nullable max))).piece (36 ∷ 45 ∷ rest) payload
      null_is (one, none) = rw (one, none) (3, refl, omega arith, refl)
