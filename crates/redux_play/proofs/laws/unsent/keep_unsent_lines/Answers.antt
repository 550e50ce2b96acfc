-- The handler leaves the inner writer and the buffer, so what sending left is what comes back.
use Rattle.std.proofs.Common.{rules}
use Rattle.redux_play.proofs.Unwrapped.{keeps_unsent}
use Rattle.redux_play.proofs.laws.unsent.keep_unsent_lines.Goals as goal

pub returns : goal.returns
returns g c =
    keeps_unsent g.W.Tell.log g.W.TellWrite.trace _ c.args.lines (λ w w' b b' e called. search rules)
    _ _ c.finish.ensures.sent
