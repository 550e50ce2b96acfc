use Rattle.std.proofs.Common.{ℕ, ◌+◌, ◌≤◌, drop}
use Rattle.resp.specs.Commands.{Deletes}
use Rattle.resp.specs.Stored.{Values, held}
use Rattle.resp.specs.Waiting.{bytes_of}
use Rattle.resp.proofs.command.del_all.Given as goal

-- with the keys that are left all are taken out
abbrev pub invariant-loop-key : goal.invariant-loop-key
invariant-loop-key l = record {
  few : l.count ≤ l.key-index;
  rest : (n : ℕ) (last : Values) → Deletes (bytes_of (drop l.key-index l.keys)) (held l.store) n last
      → Deletes (bytes_of l.keys) (held l.fn.store) (l.count + n) last;
}
