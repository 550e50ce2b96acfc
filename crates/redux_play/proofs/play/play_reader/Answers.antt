-- Each turn adds one step to the run of the calls before it; to make room changes nothing of the run.
use Rattle.std.proofs.Common.{true, false, [], ◌∷◌, ◌++◌, take, sym, ap, subst, ◌∙◌, arith, append_assoc, length-append, get_or}
use Rattle.std.proofs.lemmas.List.{take_more}
use Rattle.std.proofs.lemmas.Result.{err_from_is_err_and}
use Rattle.redux_play.specs.declared.play.ReaderCall.TheVariants.{Read}
use Rattle.redux_play.specs.PlayReader.{ReaderStep, with_handed}
use Rattle.redux_play.proofs.PlayReading.{ReaderPlays-stops}
use Rattle.redux_play.proofs.play.play_reader.Goals as goal
use Rattle.redux_play.specs.PlayRoom.{Runs}
use Rattle.redux_play.proofs.Runs.{Runs-more}

pub returns-in_err-out-clause-plays : goal.returns-in_err-out-clause-plays
returns-in_err-out-clause-plays g c =
    let remaining = g.R.TellRead.remaining in
    let rules = g.P.ReaderPolicy.rules in
    let inv = c.loop-call.invariant in
    let stays = c.in_err-out.ensures in
    let p = err_from_is_err_and c.from_residual.result c.from_residual.ensures.1 in
    let s = with_handed c.args.reader.now c.args.run.now.handed.items in
    rw (p.1, stays.answers_stay, stays.handed_stays)
    (ReaderPlays-stops remaining rules s c.args.calls.now c.args.run.now.answers.items inv.answers
    (with_handed c.loop-call.reader c.loop-call.run.handed.items) c.loop-call.run.answers.items
    inv.gained false c.loop-call.call-index inv.count inv.run c.loop-call-test.true)

pub loop-call-preserved : goal.loop-call-preserved
loop-call-preserved g c =
    let remaining = g.R.TellRead.remaining in
    let rules = g.P.ReaderPolicy.rules in
    let inv = c.loop-call.invariant in
    let stays = c.in_ok-out.ensures in
    let s = with_handed c.args.reader.now c.args.run.now.handed.items in
    let m = with_handed c.loop-call.reader c.loop-call.run.handed.items in
    let t = with_handed c.step-answer.new.reader c.step-answer.new.handed.items in
    let answer = c.step-answer.result in
    let call = get_or c.args.calls.now c.loop-call.call-index (Read 0) in
    let step : ReaderStep remaining rules m call answer t =
    subst (λ l. ReaderStep remaining rules (with_handed c.loop-call.reader l) call answer t) stays.handed_stays
    c.step-answer.ensures.step in
    record {
      answers = inv.answers ++ answer ∷ [];
      gained = c.record.ensures.added ∙ ap (λ l. l ++ answer ∷ []) (stays.answers_stay ∙ inv.gained)
          ∙ append_assoc c.args.run.now.answers.items inv.answers (answer ∷ []);
      count = length-append inv.answers (answer ∷ []) ∙ omega (arith, inv.count);
      run = subst (λ l. Runs (ReaderStep remaining rules) s l (inv.answers ++ answer ∷ []) t)
          (sym (take_more c.args.calls.now c.loop-call.call-index (Read 0) c.loop-call-test.true))
          (Runs-more (ReaderStep remaining rules) s (take c.loop-call.call-index c.args.calls.now) inv.answers m
          call answer t inv.run step);
      answers_room = omega (arith, inv.answers_room, stays.more_answers, c.record.ensures.room);
      handed_room = omega (arith, inv.handed_room, stays.more_handed, c.step-answer.ensures.room);
      whole = c.step-answer.ensures.whole;
    }

pub returns-clause-plays : goal.returns-clause-plays
returns-clause-plays g c =
    let remaining = g.R.TellRead.remaining in
    let rules = g.P.ReaderPolicy.rules in
    let inv = c.loop-call.invariant in
    let s = with_handed c.args.reader.now c.args.run.now.handed.items in
    ReaderPlays-stops remaining rules s c.args.calls.now c.args.run.now.answers.items inv.answers
    (with_handed c.loop-call.reader c.loop-call.run.handed.items) c.loop-call.run.answers.items
    inv.gained true c.loop-call.call-index inv.count inv.run
    (omega (arith, c.loop-call-test.false, c.loop-call.auto.call-index-end))
