-- The copy is the head, so what reading it says is said of the head with that byte changed.
use Rattle.messages.proofs.head.read_later.Goals as goal

pub returns-clause-none : goal.returns-clause-none
returns-clause-none c = rw c.copy_from_slice.ensures.after at c.read_known.ensures.none
