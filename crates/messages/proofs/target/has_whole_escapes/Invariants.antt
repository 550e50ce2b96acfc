use Rattle.std.proofs.Common.{ℕ, ◌<◌, IsTrue}
use Rattle.messages.specs.Target.{is_whole_at}
use Rattle.messages.proofs.target.has_whole_escapes.Given as goal

-- so it is before
abbrev pub invariant-loop-at : goal.invariant-loop-at
invariant-loop-at l = (k : ℕ) → k < l.at → IsTrue (is_whole_at l.text k)
