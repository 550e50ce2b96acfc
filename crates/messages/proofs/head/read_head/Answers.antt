-- The default limits are the usual ones.
use Rattle.messages.proofs.head.read_head.Goals as goal

pub returns-clause-none : goal.returns-clause-none
returns-clause-none c = rw c.default.ensures at c.read_head_within.ensures.none
