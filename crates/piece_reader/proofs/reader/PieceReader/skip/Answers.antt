-- No more is dropped than is left, and of what stays nothing counts as looked at.
use Rattle.std.proofs.Common.{arith}
use Rattle.std.proofs.lemmas.Grind.{elements}
use Rattle.piece_reader.proofs.reader.PieceReader.skip.Goals as goal

pub invariant_of-self : goal.invariant_of-self
invariant_of-self g c = grind (arith, elements)

pub returns-then-count-gt0 : goal.returns-then-count-gt0
returns-then-count-gt0 g c = grind (arith, elements)
