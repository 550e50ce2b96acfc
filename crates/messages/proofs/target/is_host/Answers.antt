-- The escapes were found whole, so the rest decides.
use Rattle.messages.proofs.target.is_host.Goals as goal

pub returns-then-has_whole_escapes : goal.returns-then-has_whole_escapes
returns-then-has_whole_escapes c = (
  λ yes. (c.has_whole_escapes.ensures.0 c.if-has_whole_escapes.true, c.is_host_and_port.ensures.0 yes),
  λ is. c.is_host_and_port.ensures.1 is.1,
)
