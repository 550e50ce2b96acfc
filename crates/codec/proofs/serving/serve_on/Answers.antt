-- The last flush goes on where the turns ended, so what they exchanged is what was served.
use Rattle.std.proofs.Common.{false, refl, sym, true, ◌∙◌}
use Rattle.codec.specs.ServingLaws.{ServingEnds-failed, ServingEnds-served}
use Rattle.codec.proofs.serving.serve_on.Goals as goal

pub returns-then-ends-clause-served : goal.returns-then-ends-clause-served
returns-then-ends-clause-served g c =
    let by = c.in_ok-ends.ensures.ended in
    ServingEnds-served _ _ _ _ _ _ _ _ g.met.W.TellWrite.trace_none g.met.W.TellWrite.trace_joins _ _ by.0 _ true
    (sym c.if-ends.true ∙ by.1) (refl, refl)

pub returns-then-ends-clause-flushed : goal.returns-then-ends-clause-flushed
returns-then-ends-clause-flushed g c =
    let by = c.in_ok-ends.ensures.ended in
    let serves = ServingEnds-served _ _ _ _ _ _ _ _ g.met.W.TellWrite.trace_none g.met.W.TellWrite.trace_joins _ _ by.0
    c.answer_pieces.new.writer true (sym c.if-ends.true ∙ by.1) (refl, refl) in
    serves.all.empty

pub returns-in-Ok-clause-served : goal.returns-in-Ok-clause-served
returns-in-Ok-clause-served g c =
    let by = c.in_ok-ends.ensures.ended in
    ServingEnds-served _ _ _ _ _ _ _ _ g.met.W.TellWrite.trace_none g.met.W.TellWrite.trace_joins _ _ by.0 _ false
    (sym c.if-ends.false ∙ by.1) c.in-Ok.ensures.flushed

pub returns-in-Err-clause-failed : goal.returns-in-Err-clause-failed
returns-in-Err-clause-failed g c =
    let by = c.in_ok-ends.ensures.ended in
    ServingEnds-failed _ _ _ _ _ _ _ _ g.met.W.TellWrite.trace_none g.met.W.TellWrite.trace_joins _ _ _ by.0 _ c.in-Err.e
    (sym c.if-ends.false ∙ by.1) c.in-Err.ensures.flushed
