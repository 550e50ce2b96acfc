-- Each turn adds one step to the run of the calls before it; a refusal leaves the next call unbegun.
use Rattle.std.proofs.Common.{true, false, [], ◌∷◌, ◌++◌, take, sym, ap, subst, ◌∙◌, arith, append_assoc, length-append}
use Rattle.std.proofs.lemmas.List.{take_more}
use Rattle.std.proofs.lemmas.Result.{err_from_is_err_and}
use Rattle.redux_play.proofs.PlayWriting.{WriterPlays-stops}
use Rattle.redux_play.proofs.play.play_writer.Goals as goal
use Rattle.redux_play.specs.PlayRoom.{Runs}
use Rattle.redux_play.specs.PlayWriter.{WriterStep}
use Rattle.redux_play.proofs.Runs.{Runs-more}

pub returns-in_err-reserve-clause-plays : goal.returns-in_err-reserve-clause-plays
returns-in_err-reserve-clause-plays g c =
    let inv = c.loop-call.invariant in
    let p = err_from_is_err_and c.from_residual.result c.from_residual.ensures.1 in
    rw (p.1)
    (WriterPlays-stops _ _ g.P.WriterPolicy.rules g.met.W.TellWrite.trace_none g.met.W.TellWrite.trace_joins
    c.args.writer.now c.args.calls.now c.args.run.now.answers.items inv.answers
    c.loop-call.writer c.reserve.new.self.items (c.in_err-reserve.ensures.items ∙ inv.gained) false
    c.loop-call.call-index inv.count inv.run c.loop-call-test.true)

pub loop-call-preserved : goal.loop-call-preserved
loop-call-preserved g c =
    let steps = WriterStep g.W.Tell.log g.W.TellWrite.trace g.P.WriterPolicy.rules in
    let inv = c.loop-call.invariant in
    let s = c.args.writer.now in
    let t = c.step.new.writer in
    let answer = c.step.result in
    record {
      answers = inv.answers ++ answer ∷ [];
      gained = c.record.ensures.added ∙ ap (λ l. l ++ answer ∷ []) (c.in_ok-reserve.ensures.items ∙ inv.gained)
          ∙ append_assoc c.args.run.now.answers.items inv.answers (answer ∷ []);
      count = length-append inv.answers (answer ∷ []) ∙ omega (arith, inv.count);
      run = subst (λ l. Runs steps s l (inv.answers ++ answer ∷ []) t)
          (sym (take_more c.args.calls.now c.loop-call.call-index _ c.loop-call-test.true))
          (Runs-more steps s (take c.loop-call.call-index c.args.calls.now) inv.answers c.loop-call.writer _ answer t
          inv.run c.step.ensures.step);
      room = omega (arith, inv.room, c.in_ok-reserve.ensures.capacity, c.record.ensures.room);
      whole = c.step.ensures.whole;
    }

pub returns-clause-plays : goal.returns-clause-plays
returns-clause-plays g c =
    let inv = c.loop-call.invariant in
    WriterPlays-stops _ _ g.P.WriterPolicy.rules g.met.W.TellWrite.trace_none g.met.W.TellWrite.trace_joins
    c.args.writer.now c.args.calls.now c.args.run.now.answers.items inv.answers
    c.loop-call.writer c.loop-call.run.answers.items inv.gained true c.loop-call.call-index inv.count inv.run
    (omega (arith, c.loop-call-test.false, c.loop-call.auto.call-index-end))
