-- What a store holds.
use Rattle.std.specs.Prelude.{◌≡◌, ◌≢◌, ℕ, ◌+◌, ◌<◌, ◌≤◌, ◌⊎◌, List, Option, None, IsSome, is_some, if◌then◌else◌}
use Rattle.std.specs.Global.{Vec}
use Rattle.std.specs.HashMap.{HashMap, get_by, hash_map_len}
use Rattle.std.specs.Option.{option_map}
use Rattle.std.specs.Str.{bytes_eq}
use Rattle.resp.specs.declared.store.Store.{Store}

-- the value at each key, how many keys have one, and how many may
pub record Values : Type 0 where
  pub value : List ℕ → Option (List ℕ)
  pub count : ℕ
  pub most : ℕ

-- the value at a key, of a map by vectors
abbrev pub value_in : {S : Type 0} → HashMap (Vec ℕ) (Vec ℕ) S → List ℕ → Option (List ℕ)
value_in m key = option_map (λ v. v.items) (get_by (λ k. bytes_eq key k.items) m)

-- what a map of at most so many entries holds, and what a store does
abbrev pub holding : {S : Type 0} → HashMap (Vec ℕ) (Vec ℕ) S → ℕ → Values
holding m most = record { value = value_in m; count = hash_map_len m; most = most }

abbrev pub held : Store → Values
held s = holding s.map s.most

-- nothing changed
pub record Same (old new : Values) : Type 0 where
  pub values : (q : List ℕ) → new.value q ≡ old.value q
  pub count : new.count ≡ old.count
  pub most : new.most ≡ old.most

-- a value counts for one
abbrev pub counts_for : Option (List ℕ) → ℕ
counts_for value = if is_some value then 1 else 0

-- the key has this value, and each other key has what it had
pub record SetsValue (key : List ℕ) (value : Option (List ℕ)) (old new : Values) : Type 0 where
  pub here : new.value key ≡ value
  pub others : (q : List ℕ) → q ≢ key → new.value q ≡ old.value q
  pub count : new.count + counts_for (old.value key) ≡ old.count + counts_for value
  pub most : new.most ≡ old.most

-- another value may be held at this key; or it has none, and there are as many keys as may have one
abbrev pub MayHold : List ℕ → Values → Type 0
MayHold key values = (values.count < values.most) ⊎ IsSome (values.value key)

abbrev pub IsFull : List ℕ → Values → Type 0
IsFull key values = (values.most ≤ values.count) × (values.value key ≡ None)
