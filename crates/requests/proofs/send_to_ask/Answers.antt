-- The reader tells whether it is settled under the usual limits, and only where it isn't what is held is sent.
use Rattle.std.proofs.Common.{◌↔◌, IsTrue, inl, inr, refl, subst}
use Rattle.requests.proofs.Names.{heads, IsSettled}
use Rattle.requests.proofs.send_to_ask.Goals as goal

pub returns-then-is_settled : goal.returns-then-is_settled
returns-then-is_settled g c =
    let settles = subst (λ l. IsTrue c.is_settled.result ↔ IsSettled (heads l) c.args.requests.now) c.requires.limits
    c.is_settled.ensures.settled in
    inl (settles.0 c.if-is_settled.true, refl, refl)

pub returns : goal.returns
returns g c =
    let settles = subst (λ l. IsTrue c.is_settled.result ↔ IsSettled (heads l) c.args.requests.now) c.requires.limits
    c.is_settled.ensures.settled in
    inr ((λ settled. let odd = settles.1 settled in absurd (cc)), c.send_held.ensures)
