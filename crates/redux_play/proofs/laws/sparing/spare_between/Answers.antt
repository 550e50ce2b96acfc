-- A growth touches the buffer alone, so at the seek just the buffer and the minimum are new.
use Rattle.std.proofs.Common.{rules, inr}
use Rattle.redux_play.proofs.laws.sparing.spare_between.Goals as goal

-- where the buffer has grown, the seek ends it
pub returns-clause-ended : goal.returns-clause-ended
returns-clause-ended g c = inr (c.reserve.new.self.block, search rules, search rules)
