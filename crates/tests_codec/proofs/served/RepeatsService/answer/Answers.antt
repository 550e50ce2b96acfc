-- What is written behind a piece is the answer to it.
use Rattle.std.proofs.Common.{[], ◌∷◌, ◌++◌, refl, true}
use Rattle.codec.specs.AnsweringLaws.{AnswersBy-answered}
use Rattle.tests_codec.proofs.served.RepeatsService.answer.Goals as goal

pub returns : goal.returns
returns g c = AnswersBy-answered g.W.Tell.log g.W.TellWrite.trace c.args.writer.now c.write_answer.new.writer _ _
    (c.args.payload.now ++ 10 ∷ []) true c.args.self.now refl c.write_answer.result c.write_answer.ensures.answers
