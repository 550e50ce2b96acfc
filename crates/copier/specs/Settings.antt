-- What the words after the program's name ask for.
use Rattle.std.specs.Prelude.{◌≡◌, ◌≤◌, ◌⊎◌, ℕ, Bool, true, false, List, [], ◌∷◌, length, codes}
use Rattle.std.specs.Str.Parse.{digits_value}
use Rattle.programs.specs.Words.{IsNumber}

-- a number of at most seven digits, from 1 to 1048576
pub record IsCapacity (word : List ℕ) : Type 0 where
  pub number : IsNumber word
  pub not_long : length word ≤ 7
  pub not_zero : 1 ≤ digits_value 10 word
  pub not_large : digits_value 10 word ≤ 1048576

-- the word is `ring`, or it is `std` and no ring is wanted
abbrev pub NamesBuffer : List ℕ → Bool → Type 0
NamesBuffer word ring = ((word ≡ codes "ring") × (ring ≡ true)) ⊎ ((word ≡ codes "std") × (ring ≡ false))

-- the word is this capacity
abbrev pub SaysCapacity : List ℕ → ℕ → Type 0
SaysCapacity word capacity = IsCapacity word × (capacity ≡ digits_value 10 word)

-- no word asks for no ring, and 8192 bytes; one names the buffer, or is the capacity; and two do both, in this order
abbrev pub AskFor : List (List ℕ) → Bool → ℕ → Type 0
AskFor [] ring capacity = (ring ≡ false) × (capacity ≡ 8192)
AskFor (word ∷ []) ring capacity =
    (NamesBuffer word ring × (capacity ≡ 8192)) ⊎ ((ring ≡ false) × SaysCapacity word capacity)
AskFor (first ∷ last ∷ []) ring capacity = NamesBuffer first ring × SaysCapacity last capacity
AskFor words ring capacity = ⊥
