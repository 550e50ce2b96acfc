-- Each close is over what came back of the one before, of which something was left.
use Rattle.std.proofs.Common.{[], ◌∙◌, append-nil, arith, inl, inr, refl, rules, suc}
use Rattle.std.proofs.lemmas.Bool.Decides.{nat_tests}
use Rattle.std.proofs.lemmas.List.{nil_from_length}
use Rattle.buffer_redux.specs.WriterLaws.{WritesInOrder-contents}
use Rattle.uses.proofs.full_log.close_patiently.Goals.{else-loop-test, then-loop-test+then-is_empty}
use Rattle.uses.proofs.full_log.close_patiently.Goals as goal

pub loop-init : goal.loop-init
loop-init g c = record {
  again = 0;
  counted = refl;
  run = c.close-device.ensures;
  none_lost = WritesInOrder-contents _ _ [] c.close-device.ensures.in_order ∙ append-nil _;
}

pub loop-preserved : goal.loop-preserved
loop-preserved g c =
    let before = c.loop.invariant in
    let closed = rw c.reopen.ensures at c.close.ensures in
    record {
      again = suc before.again;
      counted = omega (arith, before.counted);
      run = (c.loop.device, c.loop.unsent, before.run, search rules, closed);
      none_lost = WritesInOrder-contents _ _ [] closed.in_order ∙ append-nil _ ∙ before.none_lost;
    }

pub returns : goal.returns
returns g c =
    let closed = c.loop.invariant in
    record {
      often = (
        closed.again,
        omega (arith, closed.counted),
        elim c.loop-test.branch [
          | else-loop-test w ↦ inr (omega (arith, closed.counted, w.loop-test.false))
          | then-loop-test+then-is_empty w ↦ inl (nil_from_length c.loop.unsent.bytes
              (grind (arith, nat_tests, w.is_empty.ensures.value, w.if-is_empty.true)))
        ],
        closed.run,
      );
      none_lost = closed.none_lost;
    }
