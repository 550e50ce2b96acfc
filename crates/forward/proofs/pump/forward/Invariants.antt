use Rattle.forward.proofs.Between.{Going}
use Rattle.forward.proofs.pump.forward.Given as goal

abbrev pub invariant-loop-count : goal.invariant-loop-count
invariant-loop-count g l = Going g.F.Filter.rules l.count l.fn.link l.link
