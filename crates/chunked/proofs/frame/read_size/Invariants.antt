use Rattle.std.proofs.Common.{◌<◌, ◌≤◌, ◌-◌, ◌^◌, length}
use Rattle.chunked.proofs.Framing.{Reads}
use Rattle.chunked.proofs.frame.read_size.Given as goal

-- the digits so far write this number
abbrev pub invariant-loop-at : goal.invariant-loop-at
invariant-loop-at l = record {
  begun : l.begins ≤ l.at;
  within : l.at ≤ length l.shown;
  small : l.size < 16 ^ (l.at - l.begins);
  reads : Reads l.limits l.fn.start l.shown l.begins l.at l.size;
}

abbrev pub decreases-loop-at : goal.decreases-loop-at
decreases-loop-at l = length l.shown - l.at
