-- What the reader did, told of one in a body.
use Rattle.messages.proofs.Inside.{body_goes, front_taken}
use Rattle.messages.proofs.body.Body.consume_payload.Goals as goal

pub returns-clause-left : goal.returns-clause-left
returns-clause-left g c =
    let consumes = c.consume_payload.ensures.consumes in
    rw (← c.self.view_is) (front_taken consumes.went _ c.consume_payload.ensures.taken consumes.told)

pub returns-clause-goes : goal.returns-clause-goes
returns-clause-goes g c =
    let consumes = c.consume_payload.ensures.consumes in
    rw (← c.self.view_is) (body_goes consumes.went c.self.invariant.2 consumes.whole)
