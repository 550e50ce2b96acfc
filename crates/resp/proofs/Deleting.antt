-- Keys that are taken out, one after another.
use Rattle.std.proofs.Common.{◌≡◌, ◌⊎◌, ◌↔◌, ℕ, suc, ◌+◌, ◌<◌, List, ◌∷◌, length, drop, get_or, Bool, true, false, IsTrue, Option, None, Some, add-one, ap, arith, drop-cons, inl, inr, refl, subst, sym, ◌∙◌}
use Rattle.std.specs.Prelude.{IsSome}
use Rattle.std.specs.Global.{Vec}
use Rattle.resp.specs.Commands.{Deletes}
use Rattle.resp.specs.Stored.{SetsValue, Values, counts_for}
use Rattle.resp.specs.Waiting.{bytes_of}

-- what was there counts
counts : (o : Option (List ℕ)) (b : Bool) → (IsTrue b ↔ IsSome o) → (n m : ℕ)
    → ((b ≡ true) × (n ≡ m + 1)) ⊎ ((b ≡ false) × (n ≡ m)) → n ≡ m + counts_for o
counts None b is n m (inl (there, up)) = let odd : false ≡ true = is.0 there in cc
counts None b is n m (inr (gone, same)) = omega (arith, same)
counts (Some v) b is n m (inl (there, up)) = up
counts (Some v) b is n m (inr (gone, same)) = let odd : b ≡ true = is.1 refl in (let never : true ≡ false = sym odd ∙ gone in cc)

-- one key more
pub one_more : (keys : List (Vec ℕ)) (at : ℕ) (key : Vec ℕ) (shown : List ℕ) → at < length keys → key ≡ get_or keys at key
    → shown ≡ key.items → (all : List (List ℕ)) (old now mid : Values) (before after : ℕ) (b : Bool)
    → (IsTrue b ↔ IsSome (now.value shown)) → SetsValue shown None now mid
    → ((b ≡ true) × (after ≡ before + 1)) ⊎ ((b ≡ false) × (after ≡ before))
    → ((n : ℕ) (last : Values) → Deletes (bytes_of (drop at keys)) now n last → Deletes all old (before + n) last)
    → (n : ℕ) (last : Values) → Deletes (bytes_of (drop (at + 1) keys)) mid n last → Deletes all old (after + n) last
one_more keys at key shown within is same all old now mid before after b was puts count rest n last deletes =
    let split : drop at keys ≡ key ∷ drop (at + 1) keys =
    rw add-one (drop-cons keys at key within ∙ ap (λ x. x ∷ drop (suc at) keys) (sym is)) in
    let one : Deletes (key.items ∷ bytes_of (drop (at + 1) keys)) now (counts_for (now.value shown) + n) last =
    (mid, n, subst (λ k. SetsValue k None now mid) same puts, ap (λ k. counts_for (now.value k) + n) same, deletes) in
    let sum : before + (counts_for (now.value shown) + n) ≡ after + n =
    omega (arith, counts (now.value shown) b was after before count) in
    subst (λ k. Deletes all old k last) sum
    (rest (counts_for (now.value shown) + n) last
    (subst (λ l. Deletes (bytes_of l) now (counts_for (now.value shown) + n) last) (sym split) one))
