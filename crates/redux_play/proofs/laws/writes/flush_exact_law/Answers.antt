-- Each flush is of the amount that the policy's table says, and one that is Ok sent that many bytes or none.
use Rattle.buffer_redux.specs.WriterPolicies.{exact_rules}
use Rattle.redux_play.specs.WriterPolicyLaws.{Writes-exact, Writes-policy}
use Rattle.redux_play.proofs.laws.writes.flush_exact_law.Goals as goal

pub returns-clause-sent : goal.returns-clause-sent
returns-clause-sent g c =
    Writes-exact c.args.writer.now c.args.bytes.now (λ p. p.0)
    c.write.result c.write.new.self c.write.ensures.steps

pub returns-clause-policy : goal.returns-clause-policy
returns-clause-policy g c =
    Writes-policy (exact_rules (λ p. p.0)) (λ p b incoming answer p' b' allowed. allowed.0) (λ p b amount p' allowed. allowed.0)
    c.args.writer.now c.args.bytes.now c.write.result c.write.new.self c.write.ensures.steps
