use Rattle.std.proofs.Common.{◌≡◌, ◌++◌, ℕ}
use Rattle.uses.specs.FullLog.{ClosesAgain}
use Rattle.uses.proofs.full_log.close_patiently.Given as goal

-- so often the log was closed again
abbrev pub invariant-loop : goal.invariant-loop
invariant-loop g l = record {
  again : ℕ;
  counted : again ≡ l.counter;
  run : ClosesAgain g.W.Tell.log g.W.TellWrite.trace again l.fn.log l.device l.unsent;
  none_lost : (g.W.Tell.log l.device).writes.received ++ l.unsent.bytes ≡ l.fn.log.log.writes.received ++ l.fn.log.block.bytes;
}
