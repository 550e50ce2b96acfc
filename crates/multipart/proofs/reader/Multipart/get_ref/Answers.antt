-- The reader's clause, read through the view.
use Rattle.multipart.proofs.reader.Multipart.get_ref.Goals as goal

pub returns-clause-body : goal.returns-clause-body
returns-clause-body g c = rw (← c.self.view_is) c.get_ref.ensures.whole
