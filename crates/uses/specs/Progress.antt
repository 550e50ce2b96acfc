-- What a copy that tells its progress says.
use Rattle.std.specs.Prelude.{◌≡◌, ℕ, ◌+◌, ◌-◌, ◌^◌, ◌<◌, ◌≤◌, ◌⊎◌, length, zero, suc}
use Rattle.std.specs.IoError.{error_kind}
use Rattle.std.specs.declared.io.Error.{Error}
use Rattle.std.specs.declared.io.ErrorKind.TheVariants.{Other}
use Rattle.buffer_redux.specs.StreamLog.{FillLog}
use Rattle.std.specs.Io.Iter.{u64_saturate}

-- k calls of a callback with numbers that rise, unless they can't any more, the last of them n
abbrev pub Reports : {F : Type 0} → (F → ℕ → F → Type 0) → F → ℕ → ℕ → F → Type 0
Reports step f zero n g = (n ≡ 0) × (g ≡ f)
Reports {F} step f (suc k) n g = (m : ℕ) × (before : F) × Reports step f k m before
    × ((m < n) ⊎ ((m ≡ n) × (n ≡ 2 ^ 64 - 1))) × step before n g

-- the callback was called as often as this count rose, and last told of so many bytes
abbrev pub Tells : {F : Type 0} → (F → ℕ → F → Type 0) → F → ℕ → ℕ → ℕ → Type 0
Tells {F} step report before after bytes =
    (calls : ℕ) × (after ≡ before + calls) × (last : F) × Reports step report calls (u64_saturate bytes) last

-- the error was `Other`, since more bytes went over than a `u64` counts
pub record TooManyTurns (e : Error) (from from' : FillLog) : Type 0 where
  pub other : error_kind e ≡ Other
  pub large : 2 ^ 64 ≤ length from'.consumed - length from.consumed + 1
