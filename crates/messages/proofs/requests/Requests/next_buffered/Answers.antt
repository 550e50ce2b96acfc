-- The head that the step lent is still buffered, so the body begins behind it; without one none begins there.
use Rattle.std.proofs.Common.{◌≡◌, ap, rules}
use Rattle.messages.specs.Names.{left_of, rest, StreamWent-unasked, unbuffered}
use Rattle.messages.specs.MessagesLaws.{Begun-went, lent_still}
use Rattle.messages.proofs.requests.Requests.next_buffered.Goals as goal

pub invariant_of-self : goal.invariant_of-self
invariant_of-self g c =
    let next = c.in-Some.ensures.next.0 in
    (c.self.invariant.0, (lent_still g.R.TellRead.remaining c.self.inside.pieces c.step_buffered.new.self _ next).1)

pub enter-requires-clause-head : goal.enter-requires-clause-head
enter-requires-clause-head g c =
    (lent_still g.R.TellRead.remaining c.self.inside.pieces c.step_buffered.new.self _ c.in-Some.ensures.next.0).0

pub returns-in-Some-clause-front : goal.returns-in-Some-clause-front
returns-in-Some-clause-front g c =
    let s = c.self.inside.pieces in
    let b = c.enter.result in
    let unasked : b.body.reader.log ≡ s.reader.log = search rules in
    rw (← c.self.view_is) (StreamWent-unasked g.R.TellRead.remaining (left_of s) (unbuffered b.body.reader) b.head
    (Begun-went g.R.TellRead.remaining s b (c.enter.ensures.begun s c.in-Some.ensures.next.0)) unasked)

pub returns-in-Some-clause-begun : goal.returns-in-Some-clause-begun
returns-in-Some-clause-begun g c = rw (← c.self.view_is) (c.enter.ensures.begun c.self.inside.pieces c.in-Some.ensures.next.0)

pub returns-in-None-clause-none : goal.returns-in-None-clause-none
returns-in-None-clause-none g c = λ begins.
    let here = rw (← c.self.view_is) at begins in
    c.in-None.ensures.next.1 (rw (← ap rest c.in-None.ensures.next.0.same) here)
