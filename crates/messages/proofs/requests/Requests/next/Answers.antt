-- The head that the step lent is still buffered, so the body begins behind it.
use Rattle.messages.specs.MessagesLaws.{Begun-went, lent_still}
use Rattle.messages.proofs.requests.Requests.next.Goals as goal

pub enter-requires-clause-head : goal.enter-requires-clause-head
enter-requires-clause-head g c =
    let next = rw c.in-Ok-Some.field-0-is at c.in-Ok-Some.ensures.next in
    (lent_still g.R.TellRead.remaining c.self.inside.pieces c.step.new.self _ next).0

pub returns-in-Ok-Some : goal.returns-in-Ok-Some
returns-in-Ok-Some g c =
    let s = c.self.inside.pieces in
    let begun = c.enter.ensures.begun s (rw c.in-Ok-Some.field-0-is at c.in-Ok-Some.ensures.next) in
    let order = (Begun-went g.R.TellRead.remaining s c.enter.result begun).order in
    rw (← c.self.view_is)
    (record { in_order = (order.got, order.given, order.equal); told = c.self.invariant.1; next = begun })

pub invariant_of-self : goal.invariant_of-self
invariant_of-self g c =
    let next = rw c.in-Ok-Some.field-0-is at c.in-Ok-Some.ensures.next in
    (c.self.invariant.0, (lent_still g.R.TellRead.remaining c.self.inside.pieces c.step.new.self _ next).1)
