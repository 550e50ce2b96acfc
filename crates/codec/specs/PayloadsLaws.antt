-- Payloads that a loop goes over.
use Rattle.std.specs.Prelude.{◌≡◌, ℕ, suc, ◌+◌, ◌<◌, List, [], ◌∷◌, ◌++◌, length, map, take, drop, get_or}
use Rattle.std.proofs.Common.{sym, ap, ◌∙◌, arith}
use Rattle.std.proofs.Math.Seq.{drop-cons}
use Rattle.std.proofs.lemmas.List.{map-append, take_more, take-append-drop}

-- the item that a loop takes next is between those before it and those behind it
module _ {V : Type 0} (f : V → List ℕ) (vs : List V) (i : ℕ) (x : V) (inside : i < length vs)
    (is : x ≡ get_or vs i x) where
  pub behind : map f (drop i vs) ≡ f x ∷ map f (drop (i + 1) vs)
  behind =
      let next : suc i ≡ i + 1 = omega arith in
      ap (λ l. map f l) (drop-cons vs i x inside) ∙ ap (λ n. f (get_or vs i x) ∷ map f (drop n vs)) next
      ∙ ap (λ y. f y ∷ map f (drop (i + 1) vs)) (sym is)

  pub before : map f (take (i + 1) vs) ≡ map f (take i vs) ++ f x ∷ []
  before = ap (λ l. map f l) (take_more vs i x inside) ∙ map-append f (take i vs) (get_or vs i x ∷ [])
      ∙ ap (λ y. map f (take i vs) ++ f y ∷ []) (sym is)

  pub parted : map f vs ≡ map f (take i vs) ++ f x ∷ map f (drop (i + 1) vs)
  parted = ap (λ l. map f l) (sym (take-append-drop i vs)) ∙ map-append f (take i vs) (drop i vs)
      ∙ ap (λ l. map f (take i vs) ++ l) behind

-- one more that is kept
pub kept_more : {V : Type 0} (f : V → List ℕ) (old new : List V) (v : V) → new ≡ old ++ v ∷ []
    → map f new ≡ map f old ++ f v ∷ []
kept_more f old new v is = ap (λ l. map f l) is ∙ map-append f old (v ∷ [])

-- with one more there is one
pub some_more : (kept : List (List ℕ)) (found : List ℕ) → 0 < length (kept ++ found ∷ [])
some_more [] found = omega arith
some_more (payload ∷ kept) found = omega arith
