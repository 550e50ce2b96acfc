use Rattle.std.proofs.Common.{◌+◌, ◌*◌, ◌-◌, ◌≤◌}
use Rattle.forward.proofs.Turning.{Retrying}
use Rattle.forward.proofs.pump.ask_retried.Given as goal

abbrev pub invariant-tries : goal.invariant-tries
invariant-tries g l = record {
  before : Retrying g.F.Filter.rules l.row l.fn.link l.link;
  few : l.row ≤ 64;
}

abbrev pub decreases-tries : goal.decreases-tries
decreases-tries g l = g.F.Filter.rules.wants l.link.filter * 65 + (64 - l.row)
