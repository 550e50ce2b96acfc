-- What is copied into a writer where it fits, and what a write of parts does.
use Rattle.std.specs.Prelude.{◌≡◌, ℕ, ◌-◌, ◌^◌, ◌<◌, ◌≤◌, ◌⊎◌, List, [], ◌++◌, length, min, Result, Ok, Err, MatchResult, IfErr}
use Rattle.std.specs.declared.io.Error.{Error}
use Rattle.redux_buffer.specs.Block.{Extends, IsBlock, Reserves, usable}
use Rattle.redux_buffer.specs.Faults.{SendErrorCaused}
use Rattle.redux_buffer.specs.GrowError.{GrowthFailed}
use Rattle.redux_buffer.specs.StreamLog.{StreamLog}
use Rattle.buffer_redux.specs.Buffered.{Buffered, with_block}
use Rattle.buffer_redux.specs.BufWriter.{WasSent, WritesAlong}
use Rattle.buffer_redux.specs.Policy.{std_write_rules}

-- how many more bytes fit behind those that are buffered
abbrev pub room : {S P : Type 0} → Buffered S P → ℕ
room w = w.block.capacity - length w.block.bytes

-- these bytes were copied in behind those that are buffered, and nothing else was done but that bytes may have been moved
pub record PutsIn {S P : Type 0} (s : Buffered S P) (bytes : List ℕ) (t : Buffered S P) : Type 0 where
  pub others : t ≡ with_block s t.block
  pub added : t.block.bytes ≡ s.block.bytes ++ bytes
  pub capacity : t.block.capacity ≡ s.block.capacity
  pub limit : t.block.limit ≡ s.block.limit
  pub kind : t.block.kind ≡ s.block.kind
  pub consumed : t.block.consumed ≡ s.block.consumed
  pub whole : IsBlock t.block

-- the buffer appended these bytes, and nothing else was done: none of a plain buffer was moved
pub record JustAppends {S P : Type 0} (s : Buffered S P) (bytes : List ℕ) (t : Buffered S P) : Type 0 where
  pub others : t ≡ with_block s t.block
  pub added : Extends bytes s.block t.block
  pub whole : IsBlock t.block

-- all that was buffered was sent first, without a flush of the inner writer, and then these bytes were copied in
pub record SendsFirst {S P : Type 0} (tells : S → StreamLog) (trace : S → S → Type 0) (s : Buffered S P) (bytes : List ℕ)
    (t : Buffered S P) : Type 0 where
  pub sent : Buffered S P
  pub sends : WasSent tells trace s (Ok tt) sent
  pub puts : PutsIn sent bytes t

-- why nothing was taken in of so many bytes: what was buffered couldn't be sent, or room for them was refused
abbrev pub PartsRefused : {S P : Type 0} → ℕ → Buffered S P → Error → Buffered S P → Type 0
PartsRefused count s e t = SendErrorCaused s.log.writes t.log.writes e
    ⊎ ((more : ℕ) × (more ≤ count) × GrowthFailed more t.block e)

module _ {S P : Type 0} (tells : S → StreamLog) (trace : S → S → Type 0) where
  -- all that was buffered was sent, once, and then room for so many bytes was made, or refused; where sending failed, nothing
  -- else was done
  pub record MakesPlace (count : ℕ) (s : Buffered S P) (answer : Result (Unit {0}) Error) (t : Buffered S P) : Type 0 where
    pub sending : Result (Unit {0}) Error
    pub left : Buffered S P
    pub sent : WasSent tells trace s sending left
    pub ended : MatchResult sending
        (λ _. MatchResult answer (λ _. Reserves count left.block t.block × (t ≡ with_block left t.block))
        (λ e. GrowthFailed count left.block e × (t ≡ left)))
        (λ e. (answer ≡ Err e) × (t ≡ left))
    pub whole : IsBlock t.block

  -- all of these bytes were taken in, or nothing was. Where they fit they are appended, and nothing else is done; else place is
  -- made for them first, of as many as a `usize` counts
  pub record WritesParts (s : Buffered S P) (bytes : List ℕ) (answer : Result (Unit {0}) Error) (t : Buffered S P) : Type 0 where
    pub along : MatchResult answer (λ _. WritesAlong tells trace std_write_rules s bytes t)
        (λ e. WritesAlong tells trace std_write_rules s [] t)
    pub fits : length bytes ≤ usable s.block → (answer ≡ Ok tt) × JustAppends s bytes t
    pub full : usable s.block < length bytes → MatchResult answer
        (λ _. (m : Buffered S P) × MakesPlace (min (length bytes) (2 ^ 64 - 1)) s (Ok tt) m × JustAppends m bytes t)
        (λ e. MakesPlace (min (length bytes) (2 ^ 64 - 1)) s (Err e) t)
    pub caused : IfErr answer (λ e. PartsRefused (length bytes) s e t)
    pub whole : IsBlock t.block
