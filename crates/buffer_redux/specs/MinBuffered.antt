-- What `MinBuffered` does before a read.
use Rattle.std.specs.Prelude.{◌≡◌, ℕ, ◌-◌, ◌<◌, ◌≤◌, length, MatchBool, MatchResult, Some, false}
use Rattle.redux_buffer.specs.Block.{Block, MakesRoom, Reserves, usable}
use Rattle.redux_buffer.specs.GrowError.{GrowthFailed}
use Rattle.buffer_redux.specs.declared.policy.min_buffered.MinBuffered.{MinBuffered}
use Rattle.buffer_redux.specs.Policy.{ReadRules}

-- how many bytes can be written once all free space is usable
abbrev pub free_space : Block → ℕ
free_space b = b.capacity - length b.bytes

-- what becomes of a buffer of fewer than n bytes before it is read into. Exactly one of these cases holds of it
pub record ReadiesFor (n : ℕ) (old new : Block) : Type 0 where
  -- n bytes fit behind its bytes
  pub enough : n ≤ usable old → new ≡ old
  -- n bytes fit once room is made
  pub behind : usable old < n → n ≤ free_space old → MakesRoom old new
  -- the buffer is too small to hold n bytes
  pub too_small : old.capacity < n → Reserves (n - old.capacity) old new
  -- the buffer can hold n bytes, and can't take in n more: room is made only where nothing can be written
  pub full : n ≤ old.capacity → free_space old < n → usable old ≡ 0 → MakesRoom old new
  pub not_full : n ≤ old.capacity → free_space old < n → 0 < usable old → new ≡ old

-- `MinBuffered` reads where fewer bytes than its number are there. It fails only where what a capacity of its number
-- lacks was refused, and itself never changes
abbrev pub min_read_rules : ReadRules MinBuffered
min_read_rules = record {
  before_read = λ p b answer p' b'. MatchResult answer
      (λ d. (p' ≡ p) × MatchBool d.0 ((length b.bytes < p.0) × ReadiesFor p.0 b b') ((p.0 ≤ length b.bytes) × (b' ≡ b)))
      (λ e. (p' ≡ p) × (b' ≡ b) × (length b.bytes < p.0) × GrowthFailed (p.0 - b.capacity) b e);
  after_consume = λ p b amount p' b'. (p' ≡ p) × (b' ≡ b);
  claims = λ p. record { minimum = Some p.0; steady = false; spares = Some p.0 };
}
