-- Laws of bodies of one of two codings.
use Rattle.std.proofs.Common.{◌≡◌, ℕ, ◌≤◌, List, [], ◌++◌, take, drop, IsSomeAnd, Option, None, Some, sym, ap, subst, ◌∙◌, arith, refl}
use Rattle.std.specs.Option.{option_map_or}
use Rattle.body_reader.specs.declared.coding.Look.{Look}
use Rattle.body_reader.specs.declared.either.Either.{Either}
use Rattle.body_reader.specs.declared.either.Either.TheVariants as which
use Rattle.body_reader.specs.declared.either.Side.{Side}
use Rattle.body_reader.specs.declared.either.Side.TheVariants.{First, Second}
use Rattle.body_reader.specs.AlikeLaws.{Alike, alike_looks}
use Rattle.body_reader.specs.Coding.{Grammar, IsLawful, Looks, heeded, look_as}
use Rattle.body_reader.specs.Either.{first_of, of_either, on_side, second_of}

-- what there is, of which something holds
found : {T : Type 0} (o : Option T) (Is : T → Type 0) → IsSomeAnd o Is → (x : T) × (o ≡ Some x) × Is x
found None Is is = absurd is
found (Some x) Is is = (x, refl, is)

onto : {T : Type 0} {o : Option T} {x : T} → o ≡ Some x → (Is : T → Type 0) → Is x → IsSomeAnd o Is
onto same Is = subst (λ o. IsSomeAnd o Is) (sym same)

from : {T : Type 0} {o : Option T} {x : T} → o ≡ Some x → (Is : T → Type 0) → IsSomeAnd o Is → Is x
from same Is = subst (λ o. IsSomeAnd o Is) same

module _ {P R V X : Type 0} (at : P → R) (place_of : R → Option P) (name : V → X) (name_of : X → Option V)
    (places : (p : P) → place_of (at p) ≡ Some p) (names : (v : V) → name_of (name v) ≡ Some v) (g : Grammar P V) where
  abbrev h : Grammar R X
  h = on_side at place_of name_of g

  side_alike : (p : P) (shown : List ℕ) → Alike g h at name (at p) p shown
  side_alike p shown = grind (arith, onto, option_map_or)

  pub side_looks : (p : P) (shown : List ℕ) (l : Look P V) → Looks g p shown l → Looks h (at p) shown (look_as at name l)
  side_looks p shown = alike_looks g h at name (omega arith) (λ q. onto (places q) g.is_place) side_alike (λ follow. refl) (at p)
      p shown (side_alike p shown) (λ n. side_alike p (take n shown ++ heeded g (drop n shown)))

  -- each reason has one name
  module _ (named : (x : X) (v : V) → name_of x ≡ Some v → x ≡ name v) (lawful : IsLawful g) where
    bad : {o : Option P} {p : P} → o ≡ Some p → (shown : List ℕ) (why : X)
        → IsSomeAnd o (λ q. IsSomeAnd (name_of why) (g.wrong q shown)) → (v : V) × (name_of why ≡ Some v) × g.wrong p shown v
    bad {p = p} is shown why wrong = grind (arith, found)

    side_lawful : IsLawful h
    side_lawful = record {
      some = lawful.some;
      begins = onto (places g.first) g.is_place lawful.begins;
      alive = λ r is.
          let p = found (place_of r) g.is_place is in
          let end = lawful.alive p.0 p.2 in
          (end.0, end.1, onto p.1 (λ q. g.completes q end.0 end.1) end.2);
      nothing = λ r payload is c.
          let p = found (place_of r) g.is_place is in
          lawful.nothing p.0 payload p.2 (from p.1 (λ q. g.completes q [] payload) c);
      never = λ r shown why rest payload is wrong c.
          let p = found (place_of r) g.is_place is in
          let v = bad p.1 shown why wrong in
          lawful.never p.0 shown v.0 rest payload p.2 v.2 (from p.1 (λ q. g.completes q rest payload) c);
      reason = λ r shown why other is wrong so.
          let p = found (place_of r) g.is_place is in
          let v = bad p.1 shown why wrong in
          let w = bad p.1 shown other so in
          named why v.0 v.1 ∙ ap name (lawful.reason p.0 shown v.0 w.0 p.2 v.2 w.2) ∙ sym (named other w.0 w.1);
      stays = λ r shown more why is wrong.
          let p = found (place_of r) g.is_place is in
          let v = bad p.1 shown why wrong in
          onto p.1 (λ q. IsSomeAnd (name_of why) (g.wrong q (shown ++ more)))
          (onto v.1 (g.wrong p.0 (shown ++ more)) (lawful.stays p.0 shown more v.0 p.2 v.2));
      sure = λ r n is c.
          let p = found (place_of r) g.is_place is in
          subst (λ o. n ≤ option_map_or g.sure o 0) (sym p.1) (lawful.sure p.0 n p.2 (record {
            some = c.some;
            goes_on = λ done. c.goes_on (onto p.1 (λ q. g.completes q [] []) done);
            carries = λ bytes follow more few same.
                from p.1 (λ q. g.carries q bytes follow) (c.carries bytes follow more few same);
          }));
      one = λ a b x y xs ys c d. lawful.one a b x y xs ys (from (places g.first) (λ q. g.completes q a x) c)
          (from (places g.first) (λ q. g.completes q b y) d);
    }

first_is : {P Q : Type 0} (r : Side P Q) (p : P) → first_of r ≡ Some p → r ≡ First p
first_is (First q) p is = cc
first_is (Second q) p is = cc

second_is : {P Q : Type 0} (r : Side P Q) (q : Q) → second_of r ≡ Some q → r ≡ Second q
second_is (First p) q is = cc
second_is (Second p) q is = cc

pub either_lawful : {P Q V W A B : Type 0} (g : A → Grammar P V) (h : B → Grammar Q W) → ((a : A) → IsLawful (g a))
    → ((b : B) → IsLawful (h b)) → (c : Either A B) → IsLawful (of_either g h c)
either_lawful g h first second (which.First a) =
    side_lawful First first_of First first_of (λ p. refl) (λ v. refl) (g a) first_is (first a)
either_lawful g h first second (which.Second b) =
    side_lawful Second second_of Second second_of (λ q. refl) (λ w. refl) (h b) second_is (second b)
