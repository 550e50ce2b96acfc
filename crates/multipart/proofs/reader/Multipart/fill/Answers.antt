-- The reader's clause, read through the view.
use Rattle.multipart.proofs.reader.Multipart.fill.Goals as goal

pub returns-clause-fills : goal.returns-clause-fills
returns-clause-fills g c = λ _. rw (← c.self.view_is) c.fill_payload.ensures.fills
