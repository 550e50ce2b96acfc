use Rattle.std.proofs.Common.{◌≡◌, ◌<◌, ◌≤◌, ◌-◌, ◌⊎◌, length, take}
use Rattle.chunked.specs.Steps.{Comes}
use Rattle.chunked.proofs.step.advance.Given as goal

-- the bytes that were taken lead here
abbrev pub invariant-loop-taken : goal.invariant-loop-taken
invariant-loop-taken l = record {
  within : l.taken ≤ length l.shown;
  comes : Comes l.limits l.fn.start (take l.taken l.shown) l.place;
  begun : (0 < l.taken) ⊎ (l.place ≡ l.fn.start);
}

abbrev pub decreases-loop-taken : goal.decreases-loop-taken
decreases-loop-taken l = length l.shown - l.taken
