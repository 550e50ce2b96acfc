-- The recorded calls answer the first asks; where memory is refused no further one was begun, or its line is lost.
use Rattle.std.proofs.Common.{[], ◌∷◌, ◌++◌, ◌∙◌, ap, append-nil, arith, length, map, refl, sym}
use Rattle.std.proofs.lemmas.List.{length-map, take_all}
use Rattle.line_play.specs.declared.calls.Ask.TheVariants.{Next}
use Rattle.line_play.specs.Played.{kept_call}
use Rattle.line_play.proofs.Playing.{asked_more, line_lost, none_begun, run_more}
use Rattle.piece_reader.specs.RunsLaws.{gains_more, on_err}
use Rattle.line_play.proofs.calls.play_calls.Goals as goal

pub loop-ask-init : goal.loop-ask-init
loop-ask-init g c = record {
  calls = [];
  gained = sym (append-nil (map kept_call c.args.played.now.items));
  asked = refl;
  capacity = omega arith;
  run = refl;
}

pub loop-ask-preserved : goal.loop-ask-preserved
loop-ask-preserved g c =
    let inv = c.loop-ask.invariant in
    let made = c.in_ok-play_one.ensures.made in
    let call = c.in_ok-play_one.field-0 in
    record {
      calls = inv.calls ++ kept_call call ∷ [];
      gained = gains_more kept_call c.args.played.now.items c.loop-ask.played.items c.push_reserved.new.self.items inv.calls
          call inv.gained (c.push_reserved.ensures.items ∙ ap (λ l. l ++ call ∷ []) c.reserve.ensures.items);
      asked = asked_more g.R.TellRead.remaining c.args.reader.now c.loop-ask.reader c.play_one.new.reader c.args.asks.now
          c.loop-ask.ask-index (omega (arith, c.loop-ask-test.true)) inv.calls inv.asked inv.run _ _ made;
      capacity = omega (arith, inv.capacity, c.in_ok-reserve.ensures.capacity, c.push_reserved.ensures.capacity);
      run = run_more g.R.TellRead.remaining c.args.reader.now c.loop-ask.reader c.play_one.new.reader c.args.asks.now
          c.loop-ask.ask-index (omega (arith, c.loop-ask-test.true)) inv.calls inv.asked inv.run _ _ made;
    }

pub returns-in_err-reserve-clause-stopped : goal.returns-in_err-reserve-clause-stopped
returns-in_err-reserve-clause-stopped g c =
    let inv = c.loop-ask.invariant in
    on_err c.from_residual.result
    (none_begun g.R.TellRead.remaining c.args.reader.now c.loop-ask.reader c.args.asks.now c.loop-ask.ask-index
    Next (omega (arith, c.loop-ask-test.true)) inv.calls inv.asked inv.run _ _ _
    (ap (λ l. map kept_call l) c.reserve.ensures.items ∙ inv.gained)
    (omega (
      arith,
      inv.capacity,
      c.in_err-reserve.ensures.full,
      c.in_err-reserve.ensures.len,
      ap length c.reserve.ensures.items,
      length-map c.reserve.new.self.items kept_call,
    )))

pub returns-in_err-play_one-clause-stopped : goal.returns-in_err-play_one-clause-stopped
returns-in_err-play_one-clause-stopped g c =
    let inv = c.loop-ask.invariant in
    let lost = c.in_err-play_one.ensures.lost in
    on_err c.from_residual-in_err-play_one.result
    (line_lost g.R.TellRead.remaining c.args.reader.now c.loop-ask.reader c.play_one.new.reader c.args.asks.now
    c.loop-ask.ask-index (omega (arith, c.loop-ask-test.true)) inv.calls inv.asked inv.run _ lost.0 lost.1 _ _ _
    (ap (λ l. map kept_call l) c.reserve.ensures.items ∙ inv.gained) lost.2)

pub returns-clause-played : goal.returns-clause-played
returns-clause-played g c =
    let inv = c.loop-ask.invariant in
    record {
      calls = inv.calls;
      gained = inv.gained;
      all = inv.asked ∙ take_all c.loop-ask.ask-index c.args.asks.now (omega (arith, c.loop-ask-test.false));
      run = inv.run;
    }
