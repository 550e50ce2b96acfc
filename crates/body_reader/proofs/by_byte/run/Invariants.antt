use Rattle.std.proofs.Common.{◌-◌, ◌≤◌, length, take}
use Rattle.body_reader.specs.ByByte.{LeadsByPayload}
use Rattle.body_reader.proofs.by_byte.run.Given as goal

-- so many bytes are payload, and lead there
abbrev pub invariant-loop-count : goal.invariant-loop-count
invariant-loop-count g l = record {
  within : l.count ≤ length l.bytes;
  keeps : LeadsByPayload (g.C.ByteCoding.turns l.coding) l.fn.place (take l.count l.bytes) l.at;
}

abbrev pub decreases-loop-count : goal.decreases-loop-count
decreases-loop-count g l = length l.bytes - l.count
