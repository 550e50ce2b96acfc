-- What `Header` does before a read.
use Rattle.std.specs.Prelude.{◌≡◌, ◌<◌, ◌≤◌, length, Ok, Err, MatchBool, Some, false, Result}
use Rattle.buffer_redux.specs.Block.{Block, MakesRoom, Reserves, usable}
use Rattle.std.specs.declared.io.Error.{Error}
use Rattle.buffer_redux.specs.declared.policy.DoRead.{DoRead}
use Rattle.buffer_redux.specs.GrowError.{GrowthFailed}
use Rattle.buffer_redux.specs.Policy.{ReadRules}
use Rattle.tests_common.specs.declared.claims.Header.{Header}

-- a buffer that can't hold sixteen bytes grows; one in which they don't fit behind its bytes makes room; another stays
pub record ReadiesHeader (old new : Block) : Type 0 where
  pub small : old.capacity < 16 → Reserves 48 old new
  pub tight : 16 ≤ old.capacity → usable old < 16 → MakesRoom old new
  pub roomy : 16 ≤ old.capacity → 16 ≤ usable old → new ≡ old

-- `Header` reads where fewer than sixteen bytes are there, and fails only where it can't hold them and its growth was refused
abbrev pub header_before_read : Header → Block → Result DoRead Error → Header → Block → Type 0
header_before_read p b (Ok d) p' b' =
    (p' ≡ p) × MatchBool d.0 ((length b.bytes < 16) × ReadiesHeader b b') ((16 ≤ length b.bytes) × (b' ≡ b))
header_before_read p b (Err e) p' b' =
    (p' ≡ p) × (b' ≡ b) × (length b.bytes < 16) × (b.capacity < 16) × GrowthFailed 48 b e

-- `Header` keeps sixteen bytes in sight, and spares that number and each larger one
abbrev pub header_rules : ReadRules Header
header_rules = record {
  before_read = header_before_read;
  after_consume = λ p b amount p' b'. (p' ≡ p) × (b' ≡ b);
  claims = λ p. record { minimum = Some 16; steady = false; spares = Some 16 };
}
