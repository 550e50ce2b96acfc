use Rattle.std.proofs.Common.{◌≡◌, ◌≢◌, ℕ, ◌+◌, Bool, true, false, List, Option, None, Some, arith, refl, subst, sym, ap, ◌∙◌}
use Rattle.std.specs.Prelude.{is_some, if◌then◌else◌}
use Rattle.std.proofs.lemmas.Bool.{false_from_ne_true}
use Rattle.std.proofs.lemmas.Slice.Eq.{bytes_eq-Decides}
use Rattle.std.specs.Global.{Vec}
use Rattle.std.specs.HashMap.{HashMap, UpdatesBy, get_by, hash_map_len}
use Rattle.std.specs.Map.{KeepsOthers}
use Rattle.std.specs.Option.{option_map}
use Rattle.std.specs.Str.{bytes_eq}
use Rattle.resp.specs.Stored.{Same, SetsValue, Values, counts_for, holding, value_in}

-- after a change at one key, each other finds what it found
keeps : {S : Type 0} (key q : List ℕ) (m n : HashMap (Vec ℕ) (Vec ℕ) S) → q ≢ key
    → KeepsOthers (λ x y. bytes_eq x.items y.items) (λ k. bytes_eq key k.items) m.entries n.entries
    → get_by (λ k. bytes_eq q k.items) n ≡ get_by (λ k. bytes_eq q k.items) m
unfolding KeepsOthers
keeps key q m n ne h =
    h (λ k. bytes_eq q k.items)
    (λ x y is. ap (λ l. bytes_eq l y.items) ((bytes_eq-Decides q x.items).0 is))
    (λ k is. false_from_ne_true _ (λ also. ne ((bytes_eq-Decides q k.items).0 also ∙ sym ((bytes_eq-Decides key k.items).0 is))))

-- how many entries there are after a change at one key
more : (o : Option (Vec ℕ)) → is_some (option_map (λ v. v.items) o) ≡ is_some o
more None = refl
more (Some v) = refl

-- a key that had this, and has a value now, or none
pub count_put : (old o : Option (Vec ℕ)) (n m : ℕ) → old ≡ o → n ≡ m + (if is_some old then 0 else 1)
    → n + counts_for (option_map (λ v. v.items) o) ≡ m + 1
count_put old o n m is len = subst (λ x. n + (if x then 1 else 0) ≡ m + 1) (ap is_some is ∙ sym (more o)) (at (is_some old) len)
  where
    at : (b : Bool) → n ≡ m + (if b then 0 else 1) → n + (if b then 1 else 0) ≡ m + 1
    at true len = omega (arith, len)
    at false len = omega (arith, len)

pub count_taken : (old o : Option (Vec ℕ)) (n m : ℕ) → old ≡ o → n + (if is_some old then 1 else 0) ≡ m
    → n + counts_for (option_map (λ v. v.items) o) ≡ m + 0
count_taken old o n m is len = subst (λ x. n + (if x then 1 else 0) ≡ m + 0) (ap is_some is ∙ sym (more o)) (omega (arith, len))

pub puts : {S : Type 0} (key : List ℕ) (value : Option (Vec ℕ)) (m n : HashMap (Vec ℕ) (Vec ℕ) S) (most : ℕ)
    → UpdatesBy (λ x y. bytes_eq x.items y.items) (λ k. bytes_eq key k.items) m n value
    → hash_map_len n + counts_for (value_in m key) ≡ hash_map_len m + counts_for (option_map (λ v. v.items) value)
    → SetsValue key (option_map (λ v. v.items) value) (holding m most) (holding n most)
puts key value m n most h count = record {
  here = ap (λ o. option_map (λ v. v.items) o) h.1;
  others = λ q ne. ap (λ o. option_map (λ v. v.items) o) (keeps key q m n ne h.3);
  count = count;
  most = refl;
}

pub Same-refl : (values : Values) → Same values values
Same-refl values = record { values = λ q. refl; count = refl; most = refl }
