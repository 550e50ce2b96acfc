-- The last flush goes through the last such byte, and doesn't fail where each inner write took something.
use Rattle.redux_play.specs.WriterPolicyLaws.{Writes-flush_on}
use Rattle.redux_play.proofs.laws.writes.flush_on_law.Goals as goal

pub returns-clause-none_left : goal.returns-clause-none_left
returns-clause-none_left g c =
    Writes-flush_on c.args.writer.now c.args.bytes.now (λ p. p.0)
    c.write.result c.write.new.self c.write.ensures.steps
