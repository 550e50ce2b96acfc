-- What the reader did, told of one in a body.
use Rattle.messages.proofs.Inside.{body_goes}
use Rattle.messages.proofs.body.Body.read_buffered.Goals as goal

pub returns-clause-goes : goal.returns-clause-goes
returns-clause-goes g c =
    let reads = c.read_buffered.ensures.reads in
    rw (← c.self.view_is) (body_goes reads.went c.self.invariant.2 reads.whole)
