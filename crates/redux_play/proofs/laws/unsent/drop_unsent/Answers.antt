-- The handler leaves the inner writer and clears the buffer, and is called only where sending failed.
use Rattle.std.proofs.Common.{rules}
use Rattle.redux_play.proofs.Unwrapped.{drops_unsent}
use Rattle.redux_play.proofs.laws.unsent.drop_unsent.Goals as goal

pub returns-clause-dropped : goal.returns-clause-dropped
returns-clause-dropped g c =
    drops_unsent g.W.Tell.log g.W.TellWrite.trace _ c.args.writer (λ w w' b b' e called. search rules)
    _ _ c.finish.ensures.sent
