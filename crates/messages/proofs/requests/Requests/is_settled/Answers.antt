-- The reader's clause, read through the view; before the end is known only some bytes settle anything.
use Rattle.messages.proofs.requests.Requests.is_settled.Goals as goal

pub returns-clause-settled : goal.returns-clause-settled
returns-clause-settled g c = rw (← c.self.view_is) c.is_settled.ensures.settled
