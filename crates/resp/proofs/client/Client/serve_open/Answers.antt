-- The session is made of the client's request and the store, and is taken apart into these again.
use Rattle.std.proofs.Common.{ap, ◌∙◌}
use Rattle.resp.proofs.Closing.{closed_told}
use Rattle.resp.proofs.client.Client.serve_open.Goals as goal

pub returns-in-Ok-clause-serves : goal.returns-in-Ok-clause-serves
returns-in-Ok-clause-serves g c = (
  c.into_parts-request.ensures.closed
      ∙ closed_told _ _ _ _ _ _ _ _ (rw (← c.ending_of.ensures.served) at c.in-Ok.ensures.served)
      (ap (λ session. session.closed) c.new-session.ensures),
  c.ending_of.ensures.within,
  rw (
    c.requires.open,
    c.ending_of.ensures.served,
    c.into_parts-request.ensures.request,
    c.into_parts-request.ensures.store,
    c.into_parts-request.ensures.closed,
  )
      (rw (c.new-session.ensures, c.replace-request.ensures.value, c.replace-values.ensures.value) at c.in-Ok.ensures.served),
)

pub returns-in-Err-clause-serves : goal.returns-in-Err-clause-serves
returns-in-Err-clause-serves g c = (
  c.into_parts-request.result.2,
  c.closes_behind-self.ensures,
  rw (
    c.requires.open,
    c.into_parts-request.ensures.request,
    c.into_parts-request.ensures.store,
    c.into_parts-request.ensures.closed,
  )
      (rw (c.new-session.ensures, c.replace-request.ensures.value, c.replace-values.ensures.value) at c.in-Err.ensures.failed),
)
