-- What a server that keeps packets answers, and how it fails.
use Rattle.std.specs.Prelude.{◌≡◌, ℕ, ◌+◌, ◌-◌, ◌<◌, ◌≤◌, List, [], ◌∷◌, ◌++◌, length, Bool, true, vec_capacity, vec_len}
use Rattle.uses.specs.declared.keeper.Keeper.{Keeper}
use Rattle.uses.specs.declared.keeper.NotKept.{NotKept}
use Rattle.uses.specs.declared.keeper.NotKept.TheVariants.{Full, Memory}

-- a payload is no more than may be kept beside what is
abbrev pub FitsIn : Keeper → List ℕ → Type 0
FitsIn s payload = length payload ≤ s.most - vec_len s.kept

-- a payload that fits is kept behind those before, and an empty packet of its kind is written
abbrev pub KeepsPayload : Keeper → ℕ → List ℕ → List ℕ → Bool → Keeper → Type 0
KeepsPayload s kind payload answer more t = FitsIn s payload × (t.kept.items ≡ s.kept.items ++ payload) × (t.most ≡ s.most)
    × (answer ≡ kind ∷ 0 ∷ []) × (more ≡ true)

-- nothing of a payload is kept: it doesn't fit, or the vector had to grow for it, and memory was refused
abbrev pub KeepsNone : Keeper → ℕ → List ℕ → NotKept → Keeper → Type 0
KeepsNone s kind payload Full t = (t ≡ s) × ¬ FitsIn s payload
KeepsNone s kind payload Memory t = FitsIn s payload × (t.kept.items ≡ s.kept.items) × (t.most ≡ s.most)
    × (vec_capacity s.kept < vec_len s.kept + length payload)
