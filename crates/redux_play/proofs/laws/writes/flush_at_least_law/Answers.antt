-- The last flush is of all, or of more than is buffered: then fewer bytes than the number are there, and stay.
use Rattle.buffer_redux.specs.WriterPolicies.{at_least_rules}
use Rattle.redux_play.specs.WriterPolicyLaws.{Writes-at_least, Writes-policy}
use Rattle.redux_play.proofs.laws.writes.flush_at_least_law.Goals as goal

pub returns-clause-few_left : goal.returns-clause-few_left
returns-clause-few_left g c =
    Writes-at_least c.args.writer.now c.args.bytes.now (λ p. p.0)
    c.write.result c.write.new.self c.write.ensures.steps

pub returns-clause-policy : goal.returns-clause-policy
returns-clause-policy g c =
    Writes-policy (at_least_rules (λ p. p.0)) (λ p b incoming answer p' b' allowed. allowed.0)
    (λ p b amount p' allowed. allowed.0) c.args.writer.now c.args.bytes.now c.write.result c.write.new.self
    c.write.ensures.steps
