-- Bytes that a buffered writer takes in, all of them or none.
use Rattle.std.specs.Prelude.{◌≡◌, ℕ, ◌+◌, ◌<◌, ◌≤◌, List, [], length, Result, OnErr, OnOk}
use Rattle.std.specs.declared.io.Error.{Error}
use Rattle.buffer_redux.specs.Block.{IsBlock, by_kind}
use Rattle.buffer_redux.specs.Buffered.{Buffered}
use Rattle.buffer_redux.specs.GrowError.{GrowthFailed}
use Rattle.buffer_redux.specs.declared.policy.StdPolicy.{StdPolicy}
use Rattle.programs.specs.TakenIn.{TakesAll}

-- room for so many bytes, or for some of them, was refused where nothing was buffered any more
abbrev pub IsRoomRefused : {W P : Type 0} → ℕ → Error → Buffered W P → Type 0
IsRoomRefused count e t = (more : ℕ) × (more ≤ count) × (t.block.bytes ≡ []) × GrowthFailed more t.block e

-- all of these bytes were taken in, or nothing. The buffer grows only where they are more than its capacity, and then by so many
-- at most, but for what rounds a ring up to pages; at an `Err` it has its capacity still
pub record Puts {W : Type 0} (s : Buffered W StdPolicy) (bytes : List ℕ) (answer : Result (Unit {0}) Error)
    (t : Buffered W StdPolicy) : Type 0 where
  pub takes : TakesAll (length bytes) (λ e. IsRoomRefused (length bytes) e t) s bytes answer t
  pub full : s.block.capacity < length s.block.bytes + length bytes → OnOk answer (t.block.bytes ≡ bytes)
  pub kept : length bytes ≤ s.block.capacity → t.block.capacity ≡ s.block.capacity
  pub grown : t.block.capacity ≤ s.block.capacity + length bytes + by_kind s.block.kind 0 4095
  pub refused : OnErr answer (t.block.capacity ≡ s.block.capacity)
  pub limit : t.block.limit ≡ s.block.limit
  pub whole : IsBlock t.block
