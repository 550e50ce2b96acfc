-- The reader's clause, read through the view.
use Rattle.multipart.proofs.reader.Multipart.read.Goals as goal

pub returns-clause-reads : goal.returns-clause-reads
returns-clause-reads g c = λ _. rw (← c.self.view_is) c.read_payload.ensures.reads
