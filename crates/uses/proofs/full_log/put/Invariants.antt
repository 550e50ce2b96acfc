use Rattle.std.proofs.Common.{◌≡◌, ◌-◌, ◌≤◌, length, take}
use Rattle.buffer_redux.specs.BufWriter.{WritesInOrder}
use Rattle.buffer_redux.specs.LogGrows.{WriteLogGrows}
use Rattle.uses.proofs.full_log.put.Given as goal

-- the front of the text was taken
abbrev pub invariant-loop-at : goal.invariant-loop-at
invariant-loop-at g l = record {
  within : l.at ≤ length l.text;
  grows : WriteLogGrows l.initial.log.log.writes l.log.log.writes;
  flushes : l.log.log.writes.flushes ≡ l.initial.log.log.writes.flushes;
  taken : WritesInOrder l.initial.log (take l.at l.text) l.log;
}

abbrev pub decreases-loop-at : goal.decreases-loop-at
decreases-loop-at g l = length l.text - l.at
