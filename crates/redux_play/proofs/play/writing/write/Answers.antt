-- The write's own clauses are the step's: an Err has no portion, so nothing was taken in.
use Rattle.std.proofs.Common.{Ok, rules, ap}
use Rattle.buffer_redux.specs.WritesAlongLaws.{WriterKeeps-along}
use Rattle.redux_play.proofs.play.writing.write.Goals as goal

pub returns-in-Ok-clause-step : goal.returns-in-Ok-clause-step
returns-in-Ok-clause-step g c =
    let w = c.in-Ok.ensures in
    record {
      accepts = WriterKeeps-along _ _ g.P.WriterPolicy.rules c.args.writer.now _ c.write.new.self w.in_order w.keeps;
      answers = (w.bound, λ none some. w.empty (ap (λ n. Ok n) none) some, w.steps);
    }

pub returns-in-Err-clause-step : goal.returns-in-Err-clause-step
returns-in-Err-clause-step g c =
    let w = c.in-Err.ensures in
    record {
      accepts = WriterKeeps-along _ _ g.P.WriterPolicy.rules c.args.writer.now _ c.write.new.self w.in_order w.keeps;
      answers = (c.in-Err.e, search rules, (w.caused, w.steps));
    }
