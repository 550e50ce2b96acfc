-- The reader's clause, read through the view.
use Rattle.multipart.proofs.reader.Multipart.consume.Goals as goal

pub returns-then-matches-clause-consumes : goal.returns-then-matches-clause-consumes
returns-then-matches-clause-consumes g c = λ _. rw (← c.self.view_is) c.consume_payload.ensures.consumes
