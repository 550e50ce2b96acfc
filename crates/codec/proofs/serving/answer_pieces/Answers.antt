-- Each turn adds its exchange to those before it, under the decoder of the first; one that fails stops them.
use Rattle.std.proofs.Common.{◌∷◌, Err, Ok, Some, ap, arith, false, not, refl, subst, true, ◌∙◌}
use Rattle.std.proofs.lemmas.Result.{err_from_is_err_and}
use Rattle.codec.specs.AskedAgainLaws.{StepRetried-went}
use Rattle.codec.specs.Serving.{ServesTurn, server}
use Rattle.codec.specs.ServingLaws.{stops, turn_failed_so}
use Rattle.codec.specs.declared.serving.Step.TheVariants.{Closed, End, Went}
use Rattle.codec.proofs.serving.answer_pieces.Goals as goal

pub loop-turn-preserved : goal.loop-turn-preserved
loop-turn-preserved g c =
    let m = server c.loop-turn.reader c.loop-turn.service c.loop-turn.writer in
    let before = c.loop-turn.invariant in
    let took = subst (λ d. ServesTurn c.args.limit g.R.TellRead.remaining g.W.Tell.log g.W.TellWrite.trace (g.D.Decoder.grammar d)
    (g.D.Items.item_of d) g.S.Service.answers g.S.Service.fails m (Ok Went)
    (server c.turn.new.reader c.turn.new.service c.turn.new.writer)) before.decoder (rw c.in-Went.is at c.in_ok-turn.ensures) in
    record {
      exchanges = took.0 ∷ before.exchanges;
      talked = (m, before.talked, took.1);
      decoder = (StepRetried-went g.R.TellRead.remaining (g.D.Decoder.grammar c.args.reader.now.decoder) m.pieces
          c.turn.new.reader c.args.limit (Ok (Some took.0.payload)) took.1.fetched.steps).decoder ∙ before.decoder;
      count = omega (arith, before.count);
    }

pub returns-in-Closed-clause-ended : goal.returns-in-Closed-clause-ended
returns-in-Closed-clause-ended g c =
    let m = server c.loop-turn.reader c.loop-turn.service c.loop-turn.writer in
    let t = server c.turn.new.reader c.turn.new.service c.turn.new.writer in
    let before = c.loop-turn.invariant in
    let took = subst (λ d. ServesTurn c.args.limit g.R.TellRead.remaining g.W.Tell.log g.W.TellWrite.trace (g.D.Decoder.grammar d)
    (g.D.Items.item_of d) g.S.Service.answers g.S.Service.fails m (Ok Closed) t) before.decoder
    (rw c.in-Closed.is at c.in_ok-turn.ensures) in (
      record {
        exchanges = took.0 ∷ before.exchanges;
        more = false;
        last = t;
        talked = (m, before.talked, took.1);
        ends = (refl, refl);
      },
      refl,
    )

pub returns-in-End-clause-ended : goal.returns-in-End-clause-ended
returns-in-End-clause-ended g c =
    let m = server c.loop-turn.reader c.loop-turn.service c.loop-turn.writer in
    let before = c.loop-turn.invariant in
    let none = subst (λ d. ServesTurn c.args.limit g.R.TellRead.remaining g.W.Tell.log g.W.TellWrite.trace (g.D.Decoder.grammar d)
    (g.D.Items.item_of d) g.S.Service.answers g.S.Service.fails m (Ok End)
    (server c.turn.new.reader c.turn.new.service c.turn.new.writer)) before.decoder (rw c.in-End.is at c.in_ok-turn.ensures) in (
      record { exchanges = before.exchanges; more = true; last = m; talked = before.talked; ends = (refl, none) },
      ap (λ told. not told) c.has_ended-told.ensures.value,
    )

pub returns-clause-ended : goal.returns-clause-ended
returns-clause-ended g c =
    let before = c.loop-turn.invariant in (
      record {
        exchanges = before.exchanges;
        more = true;
        last = server c.loop-turn.reader c.loop-turn.service c.loop-turn.writer;
        talked = before.talked;
        ends = (refl, omega (arith, before.count, c.loop-turn-test.false), refl);
      },
      refl,
    )

pub returns-in_err-turn-clause-failed : goal.returns-in_err-turn-clause-failed
returns-in_err-turn-clause-failed g c =
    let p = err_from_is_err_and c.from_residual.result c.from_residual.ensures.1 in
    let m = server c.loop-turn.reader c.loop-turn.service c.loop-turn.writer in
    let t = server c.turn.new.reader c.turn.new.service c.turn.new.writer in
    let before = c.loop-turn.invariant in
    let failed = subst (λ d. ServesTurn c.args.limit g.R.TellRead.remaining g.W.Tell.log g.W.TellWrite.trace
    (g.D.Decoder.grammar d) (g.D.Items.item_of d) g.S.Service.answers g.S.Service.fails m (Err c.in_err-turn.field-0.0) t)
    before.decoder c.in_err-turn.ensures in
    rw (p.1, p.2) (stops _ _ _ _ _ _ _ _ g.met.W.TellWrite.trace_none g.met.W.TellWrite.trace_joins _ before.exchanges true m
    before.talked c.in_err-turn.field-0.0 t
    (turn_failed_so _ _ _ _ _ _ _ _ before.exchanges m t c.in_err-turn.field-0.0 failed))
