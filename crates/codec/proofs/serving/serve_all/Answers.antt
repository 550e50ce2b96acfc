-- Bytes that come pay for the interruptions in a row, and no end comes by `Interrupted` before as many were.
use Rattle.codec.specs.ServingLaws.{Serves-few, Serves-often}
use Rattle.codec.proofs.serving.serve_all.Goals as goal

pub returns-clause-few : goal.returns-clause-few
returns-clause-few g c = Serves-few _ _ _ _ _ _ _ _ _ _ c.serve_on.ensures.served c.serve_on.ensures.failed

pub returns-clause-often : goal.returns-clause-often
returns-clause-often g c = Serves-often _ _ _ _ _ _ _ _ _ _ c.serve_on.ensures.failed
