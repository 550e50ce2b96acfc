-- What is left is the slice from `served` on, and a call serves no more of it than fits.
use Rattle.std.proofs.Common.{arith}
use Rattle.std.proofs.lemmas.Grind.{common_steps}
use Rattle.redux_script.proofs.reader.ScriptReaderRead.read.Goals as goal

pub returns-clause-called : goal.returns-clause-called
returns-clause-called c = grind (arith, common_steps)

pub returns-clause-given : goal.returns-clause-given
returns-clause-given c = grind (arith, common_steps)

pub returns-clause-left : goal.returns-clause-left
returns-clause-left c = grind (arith, common_steps)
