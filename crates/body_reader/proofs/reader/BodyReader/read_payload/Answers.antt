-- The step's clause, read through the reader's view, with an Ok answer noted and no other.
use Rattle.body_reader.proofs.Payload.{payload_read}
use Rattle.body_reader.proofs.Handing.{hands_bound}
use Rattle.body_reader.proofs.reader.BodyReader.read_payload.Goals as goal

pub invariant_of-self : goal.invariant_of-self
invariant_of-self g c =
    (payload_read _ _ _ (g.met.C.Coding.lawful _) _ _ _ _ _ c.self.invariant _ _ _ _ _ c.read_on-answer.ensures.hands
    c.read_on-answer.ensures.known c.read_on-answer.ensures.left c.read_on-answer.ensures.consumed _ c.note_ok.ensures).whole

pub returns-clause-reads : goal.returns-clause-reads
returns-clause-reads g c = rw (← c.self.view_is)
    (payload_read _ _ _ (g.met.C.Coding.lawful _) _ _ _ _ _ c.self.invariant _ _ _ _ _ c.read_on-answer.ensures.hands
    c.read_on-answer.ensures.known c.read_on-answer.ensures.left c.read_on-answer.ensures.consumed _ c.note_ok.ensures)

pub returns-clause-bound : goal.returns-clause-bound
returns-clause-bound g c = hands_bound _ _ _ _ _ c.read_on-answer.ensures.hands
