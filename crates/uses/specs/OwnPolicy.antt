-- What a policy of one's own answers and claims.
use Rattle.std.specs.Prelude.{◌≡◌, ◌<◌, ◌≤◌, length, MatchBool, MatchResult, Some}
use Rattle.buffer_redux.specs.Block.{Block, MakesRoom, Reserves}
use Rattle.buffer_redux.specs.GrowError.{GrowthFailed}
use Rattle.buffer_redux.specs.Policy.{ReadRules, no_read_claims}
use Rattle.uses.specs.declared.own_policy.HeaderFirst.{HeaderFirst}

-- room is made for sixteen bytes, of which fewer are there: a buffer that can't hold so many grows
pub record ReadiesSixteen (old new : Block) : Type 0 where
  pub few : length old.bytes < 16
  pub small : old.capacity < 16 → Reserves 16 old new
  pub large : 16 ≤ old.capacity → MakesRoom old new

-- `HeaderFirst` claims a minimum of sixteen bytes, and fails only where a buffer that is too small for them couldn't grow
abbrev pub sixteen_rules : ReadRules HeaderFirst
sixteen_rules = record {
  before_read = λ _ b answer _ b'. MatchResult answer
      (λ d. MatchBool d.0 (ReadiesSixteen b b') ((16 ≤ length b.bytes) × (b' ≡ b)))
      (λ e. (b' ≡ b) × (b.capacity < 16) × GrowthFailed 16 b e);
  after_consume = λ _ b _ _ b'. b' ≡ b;
  claims = λ _. record no_read_claims { minimum = Some 16 };
}
