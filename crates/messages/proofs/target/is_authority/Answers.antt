-- The slice from the host on is all that stands behind the user.
use Rattle.std.proofs.lemmas.List.{take_rest}
use Rattle.messages.proofs.target.is_authority.Goals as goal

pub returns : goal.returns
returns c =
    rw (c.if-web.false, ← c.host_at.ensures.value, ← take_rest c.args.text.now c.host_at.result) c.is_host_and_port-2.ensures
