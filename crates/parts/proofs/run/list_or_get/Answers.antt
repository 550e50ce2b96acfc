-- Which it is says the name.
use Rattle.parts.proofs.run.list_or_get.Goals as goal

pub returns-in-None : goal.returns-in-None
returns-in-None g c = rw c.in-None.is c.list.ensures
