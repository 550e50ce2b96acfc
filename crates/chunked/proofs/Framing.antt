-- What stands plainly between two payloads leads from the one to the other.
use Rattle.std.proofs.Common.{◌≡◌, ℕ, ◌+◌, ◌*◌, ◌-◌, ◌<◌, ◌≤◌, ◌⊎◌, ◌^◌, List, [], ◌∷◌, ◌++◌, length, take, slice_index, ◌∙◌, ap, sym, subst, arith, inl, inr, refl, length-append}
use Rattle.std.proofs.Math.Nat.{pow-le-pow_right}
use Rattle.std.proofs.lemmas.Grind.{pow_more}
use Rattle.chunked.specs.Names.{behind_size, chunked, Comes, Data, digit_value, IsPlace, Leads-joins, Leads-more, Leads-none, Limits, Line, Place, Size, SizeFeed, StepsTo, take_more}
use Rattle.chunked.specs.StepLaws.{passes}

-- so many digits write a number that isn't too large
pub few_digits : (size k : ℕ) → size < 16 ^ k → k ≤ 14 → size < 2 ^ 58
few_digits size k small few = grind (arith, pow-le-pow_right)

pub more_digits : (size digit at begins : ℕ) → begins ≤ at → size < 16 ^ (at - begins) → digit < 16
    → size * 16 + digit < 16 ^ (at + 1 - begins)
more_digits size digit at begins order small few =
    let one : (at - begins) + 1 ≡ at + 1 - begins = omega (arith, order) in
    subst (λ k. size * 16 + digit < 16 ^ k) one (omega (arith, small, few, pow_more 16 (at - begins)))

module _ (limits : Limits) where
  pub comes_none : (p : Place) → IsPlace p → Comes limits p [] p
  comes_none p place = grind (arith, Leads-none)

  -- a byte more
  pub comes_more : (p q r : Place) (shown : List ℕ) (at b : ℕ) → at < length shown → slice_index shown at ≡ b
      → Comes limits p (take at shown) q → StepsTo limits q b r → IsPlace r → Comes limits p (take (at + 1) shown) r
  comes_more p q r shown at b held is comes leads place =
      let wire = take at shown in
      let one = passes limits q b r leads in
      let longer : wire ++ b ∷ [] ≡ take (at + 1) shown = ap (λ x. wire ++ x ∷ []) (sym is) ∙ sym (take_more shown at 0 held) in
      subst (λ l. Comes limits p l r) longer (record {
        passes = record {
          leads = Leads-joins (chunked limits) p q r wire (b ∷ []) [] [] []
              (Leads-more (chunked limits) p q wire [] [] (b ∷ []) comes.passes.leads) one.leads;
          few = omega (arith, comes.passes.few, one.few, length-append wire (b ∷ []));
        };
        place = place;
      })

  -- the digits of a size so far: none, or they write this number
  abbrev pub Reads : Place → List ℕ → ℕ → ℕ → ℕ → Type 0
  Reads p shown begins at size = ((at ≡ begins) × (size ≡ 0))
      ⊎ Comes limits p (take at shown) (Size size (limits.line - (at - begins)))

  pub reads_digit : (p : Place) (shown : List ℕ) (begins at size digit : ℕ) → Comes limits p (take begins shown) Line
      → begins ≤ at → Reads p shown begins at size → at < length shown → at - begins < limits.line → size < 2 ^ 58
      → digit_value (slice_index shown at) < 16 → digit ≡ digit_value (slice_index shown at)
      → Comes limits p (take (at + 1) shown) (Size (size * 16 + digit) (limits.line - (at + 1 - begins)))
  reads_digit p shown begins at size digit first order (inl (here, none)) held room small digits is =
      let left : limits.line - (at + 1 - begins) ≡ limits.line - 1 = omega (arith, here) in
      let value : size * 16 + digit ≡ digit_value (slice_index shown at) = omega (arith, none, is) in
      comes_more p Line (Size (size * 16 + digit) (limits.line - (at + 1 - begins))) shown at (slice_index shown at) held refl
      (subst (λ n. Comes limits p (take n shown) Line) (sym here) first) (digits, rw (left, value)) (omega (arith, value, digits))
  reads_digit p shown begins at size digit first order (inr comes) held room small digits is =
      let left : limits.line - (at + 1 - begins) ≡ limits.line - (at - begins) - 1 = omega (arith, order) in
      let larger : size * 16 + digit_value (slice_index shown at) < 2 ^ 62 = omega (arith, small, digits) in
      comes_more p (Size size (limits.line - (at - begins))) (Size (size * 16 + digit) (limits.line - (at + 1 - begins)))
      shown at (slice_index shown at) held refl comes (inl (digits, omega (arith, room), larger, rw (left, is)))
      (omega (arith, larger, is))

  -- the end of the line
  behind_some : (size : ℕ) → 0 < size → Data size ≡ behind_size limits size
  behind_some size some = grind arith

  pub frames : (p : Place) (shown : List ℕ) (at size room : ℕ) → 0 < size → Comes limits p (take at shown) (Size size room)
      → at + 2 ≤ length shown → slice_index shown at ≡ 13 → slice_index shown (at + 1) ≡ 10
      → Comes limits p (take (at + 2) shown) (Data size)
  frames p shown at size room some comes held return feed =
      let small : size < 2 ^ 62 = comes.place in
      let returned = comes_more p (Size size room) (SizeFeed size) shown at 13 (omega (arith, held)) return comes
      (inr ((λ digit. omega (arith, digit)), small, inl (refl, (0, refl), refl))) small in
      let two : at + 1 + 1 ≡ at + 2 = omega arith in
      subst (λ n. Comes limits p (take n shown) (Data size)) two
      (comes_more p (SizeFeed size) (Data size) shown (at + 1) 10 (omega (arith, held)) feed returned
      (refl, small, behind_some size some) tt)
