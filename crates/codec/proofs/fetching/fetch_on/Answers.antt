-- An interrupted step lengthens the row, or begins it anew where bytes came; the step that isn't repeated is the answer.
use Rattle.std.proofs.Common.{ap, arith, length, refl}
use Rattle.codec.proofs.Asking.{ended, once_more, smaller}
use Rattle.codec.proofs.fetching.fetch_on.Goals as goal

pub tries-init : goal.tries-init
tries-init g c = record {
  asking = record {
    count = 0;
    last = c.args.reader.now;
    again = (refl, refl);
    step = c.in_ok-answer.ensures.next;
    first = c.in_ok-answer.ensures.first;
    found = ap length c.rest-had.ensures.value;
    few = omega arith;
  };
  lends = c.in_ok-answer.ensures.lends;
  most = c.requires;
}

pub tries-preserved : goal.tries-preserved
tries-preserved g c =
    let again = c.in-Some.ensures.again in
    record {
      asking = once_more _ _ _ _ _ _ _ _ _ _ _ _ _ c.tries.invariant.asking _ (ap length c.rest-has.ensures.value) again.0.0
          again.0.1 again.0.2 _ again.1 again.2 _ _ c.step_item-answer.ensures.next;
      lends = c.step_item-answer.ensures.lends;
      most = c.tries.invariant.most;
    }

pub tries-smaller : goal.tries-smaller
tries-smaller g c =
    let again = c.in-Some.ensures.again in
    smaller _ _ _ _ _ _ _ _ _ _ _ _ _ c.tries.invariant.asking _ (ap length c.rest-has.ensures.value) again.0.0 again.0.1
    c.tries.invariant.most _ again.1 again.2

pub returns-in-None-clause-next : goal.returns-in-None-clause-next
returns-in-None-clause-next g c =
    ended _ _ _ _ _ _ _ _ _ _ _ _ _ c.tries.invariant.asking _ (ap length c.rest-has.ensures.value) c.in-None.ensures.last
