-- The bytes that a buffered reader is known to have left.
use Rattle.std.specs.Prelude.{ℕ, Bool, not, ◌||◌, ◌==◌, nat_lt, if◌then◌else◌, List, Option, None}
use Rattle.std.specs.Option.{unwrap_or}
use Rattle.std.specs.Io.KnownBytes.{prepend_known}
use Rattle.buffer_redux.specs.Policy.{ReadRules}
use Rattle.buffer_redux.specs.Buffered.{Buffered}

-- the buffered bytes, and then those that the reader inside is known to have left
abbrev pub ahead : {S P : Type 0} → (S → Option (List ℕ)) → Buffered S P → Option (List ℕ)
ahead remaining r = prepend_known r.block.bytes (remaining r.inner)

-- a fill may show nothing before the end: where there is no capacity, or the policy is neither steady nor claims a
-- minimum
abbrev pub may_stop : {S P : Type 0} → ReadRules P → Buffered S P → Bool
may_stop rules r =
    not ((rules.claims r.policy).steady || nat_lt 0 (unwrap_or (rules.claims r.policy).minimum 0)) || (r.block.capacity == 0)

-- what is ahead is what reads will give, unless a fill may stop before the end
abbrev pub reader_remaining : {S P : Type 0} → (S → Option (List ℕ)) → ReadRules P → Buffered S P
    → Option (List ℕ)
reader_remaining remaining rules r = if may_stop rules r then None else ahead remaining r
