-- A flush takes in no bytes, so the step accepts none; the rest is the flush's own clause.
use Rattle.std.proofs.Common.{Ok, Err, rules}
use Rattle.buffer_redux.specs.WritesAlongLaws.{WasFlushed-along}
use Rattle.redux_play.proofs.play.writing.flush.Goals as goal

pub returns-in-Ok-clause-step : goal.returns-in-Ok-clause-step
returns-in-Ok-clause-step g c =
    let w = c.in-Ok.ensures.flushed in
    record { accepts = WasFlushed-along _ _ _ c.args.writer.now (Ok tt) c.flush.new.self w; answers = w }

pub returns-in-Err-clause-step : goal.returns-in-Err-clause-step
returns-in-Err-clause-step g c =
    let w = c.in-Err.ensures.flushed in
    record {
      accepts = WasFlushed-along _ _ _ c.args.writer.now (Err c.in-Err.e) c.flush.new.self w;
      answers = (c.in-Err.e, search rules, w);
    }
