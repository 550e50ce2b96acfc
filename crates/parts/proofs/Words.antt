-- Words that are two or three.
use Rattle.std.proofs.Common.{◌≡◌, ◌<◌, ◌≤◌, List, [], ◌∷◌, map, length, get_or, arith}

module _ {X Y : Type 0} (f : X → Y) where
  -- what two words are, each by its place
  pub map_two : (xs : List X) (x y : X) → 2 ≤ length xs → length xs < 3 → x ≡ get_or xs 0 x → y ≡ get_or xs 1 y
      → map f xs ≡ f x ∷ f y ∷ []
  map_two [] x y least most first last = absurd (omega arith)
  map_two (a ∷ []) x y least most first last = absurd (omega arith)
  map_two (a ∷ b ∷ []) x y least most first last = cc
  map_two (a ∷ b ∷ c ∷ cs) x y least most first last = absurd (omega arith)

  -- and three
  pub map_three : (xs : List X) (x y z : X) → 3 ≤ length xs → length xs < 4 → x ≡ get_or xs 0 x → y ≡ get_or xs 1 y
      → z ≡ get_or xs 2 z → map f xs ≡ f x ∷ f y ∷ f z ∷ []
  map_three [] x y z least most first next last = absurd (omega arith)
  map_three (a ∷ []) x y z least most first next last = absurd (omega arith)
  map_three (a ∷ b ∷ []) x y z least most first next last = absurd (omega arith)
  map_three (a ∷ b ∷ c ∷ []) x y z least most first next last = cc
  map_three (a ∷ b ∷ c ∷ e ∷ cs) x y z least most first next last = absurd (omega arith)
