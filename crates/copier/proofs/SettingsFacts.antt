-- What the words after the program's name can be.
use Rattle.std.proofs.Common.{◌≡◌, ◌↔◌, ℕ, ◌<◌, ◌≤◌, Bool, List, [], ◌∷◌, map, length, get_or, Option, Some, None, sym, ap, ◌∙◌, arith, inl, inr}
use Rattle.std.specs.Str.Parse.{digits_value}
use Rattle.copier.specs.Settings.{AskFor, IsCapacity, NamesBuffer}

no_digit_first : (word : List ℕ) (c : ℕ) (cs : List ℕ) → word ≡ c ∷ cs → 57 < c → ¬ IsCapacity word
no_digit_first word c cs e high is =
    let h = is.number.digits 0 0 (omega (arith, is.number.not_empty)) in
    let h' = rw e at h in
    omega (arith, h', high)

-- a word that names a buffer is no capacity
named_not_sized : (word : List ℕ) (ring : Bool) → NamesBuffer word ring → ¬ IsCapacity word
named_not_sized word ring (inl name) = no_digit_first word 114 _ name.0 (omega arith)
named_not_sized word ring (inr name) = no_digit_first word 115 _ name.0 (omega arith)

-- a word names one buffer at most
one_name : (word : List ℕ) (a b : Bool) → NamesBuffer word a → NamesBuffer word b → a ≡ b
one_name word a b (inl x) (inl y) = cc
one_name word a b (inl x) (inr y) = cc
one_name word a b (inr x) (inl y) = cc
one_name word a b (inr x) (inr y) = cc

-- what a word does not name, where the answer on it is none
pub unnamed : (word : List ℕ) (o : Option Bool)
    → ((a : Bool) → (o ≡ Some a) ↔ NamesBuffer word a) → o ≡ None → (a : Bool) → ¬ NamesBuffer word a
unnamed word o told none a name = let e = (told a).1 name in cc

-- what words ask for they ask for alone
pub one_asked : (x y : Bool × ℕ) → Some y ≡ Some x → (x.0 ≡ y.0) × (x.1 ≡ y.1)
one_asked x y told = (cc, cc)

-- the answer is what the words ask for
abbrev pub Tells : List (List ℕ) → Option (Bool × ℕ) → Type 0
Tells words answer =
    (ring : Bool) (capacity : ℕ) → (answer ≡ Some (ring, capacity)) ↔ AskFor words ring capacity

pub tells_named : (word : List ℕ) (ring : Bool) → NamesBuffer word ring → Tells (word ∷ []) (Some (ring, 8192))
tells_named word a name b n = (
  λ same. (let is = one_asked (b, n) (a, 8192) same in inl (rw is.0 name, is.1)),
  λ ask. elim ask [
    | inl (other, size) ↦ (let is = one_name word a b name other in cc)
    | inr (none, is) ↦ absurd (named_not_sized word a name is.0)
  ],
)

pub tells_none_alone : (word : List ℕ) → ((a : Bool) → ¬ NamesBuffer word a) → ¬ IsCapacity word → Tells (word ∷ []) None
tells_none_alone word unnamed unsized ring n = (
  λ same. cc,
  λ ask. elim ask [ inl (name, size) ↦ absurd (unnamed ring name) | inr (none, is) ↦ absurd (unsized is.0) ],
)

pub tells_none_named : (v w : List ℕ) → ((a : Bool) → ¬ NamesBuffer v a) → Tells (v ∷ w ∷ []) None
tells_none_named v w unnamed ring n = (λ same. cc, λ ask. absurd (unnamed ring ask.0))

pub tells_both : (v w : List ℕ) (ring : Bool) (m : ℕ) → NamesBuffer v ring → IsCapacity w → m ≡ digits_value 10 w
    → Tells (v ∷ w ∷ []) (Some (ring, m))
tells_both v w a m name is size b n = (
  λ same. (let one = one_asked (b, n) (a, m) same in (rw one.0 name, (is, one.1 ∙ size))),
  λ ask. (let one = one_name v a b name ask.0 in let same = ask.1.1 in cc),
)

-- a list with one item, and with two
module _ {X : Type 0} (f : X → List ℕ) where
  pub map_one : (xs : List X) (x : X)
      → 1 ≤ length xs → length xs < 2 → x ≡ get_or xs 0 x → map f xs ≡ f x ∷ []
  map_one [] x least most is = absurd (omega arith)
  map_one (y ∷ []) x least most is = ap (λ z. f z ∷ []) (sym is)
  map_one (y ∷ z ∷ zs) x least most is = absurd (omega arith)

  pub map_two : (xs : List X) (x y : X)
      → 2 ≤ length xs → length xs < 3 → x ≡ get_or xs 0 x → y ≡ get_or xs 1 y → map f xs ≡ f x ∷ f y ∷ []
  map_two [] x y least most is is' = absurd (omega arith)
  map_two (u ∷ []) x y least most is is' = absurd (omega arith)
  map_two (u ∷ v ∷ []) x y least most is is' = cc
  map_two (u ∷ v ∷ w ∷ ws) x y least most is is' = absurd (omega arith)

-- a capacity that is asked for is in range
pub asked_in_range : (words : List (List ℕ)) (ring : Bool) (capacity : ℕ)
    → AskFor words ring capacity → (1 ≤ capacity) × (capacity ≤ 1048576)
asked_in_range [] ring capacity (none, size) = (omega (arith, size), omega (arith, size))
asked_in_range (word ∷ []) ring capacity (inl (name, size)) = (omega (arith, size), omega (arith, size))
asked_in_range (word ∷ []) ring capacity (inr (none, (is, size))) =
    (omega (arith, is.not_zero, size), omega (arith, is.not_large, size))
asked_in_range (first ∷ last ∷ []) ring capacity (name, (is, size)) =
    (omega (arith, is.not_zero, size), omega (arith, is.not_large, size))
asked_in_range (first ∷ last ∷ next ∷ words) ring capacity ask = absurd ask
