-- The stream inside reads into the front of the slice, so what it served is the front of the whole.
use Rattle.std.proofs.Common.{arith}
use Rattle.std.proofs.lemmas.Grind.{common_steps}
use Rattle.redux_script.proofs.fault_at.FaultAtRead.read.Goals as goal

pub returns-clause-given : goal.returns-clause-given
returns-clause-given g c = grind (arith, common_steps)
