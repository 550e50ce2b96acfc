-- Behind as many interrupted calls as the loop has counted, which are 64 at its end, the last one failed.
use Rattle.std.proofs.Common.{arith, rules, suc}
use Rattle.std.proofs.Math.Numerals.{add-one}
use Rattle.redux_buffer.proofs.retry.retry.Goals as goal

pub returns-in-Ok : goal.returns-in-Ok
returns-in-Ok g c = record {
  retried = λ s went.
      let before = c.loop.invariant.failed s went in record {
        count = suc c.loop.counter;
        last = c.loop.state;
        interrupted = (before.0, before.1, c.loop.last, search rules, before.2);
        most = omega (arith, c.loop.auto.counter-end);
        often = tt;
        went = c.in-Ok.ensures.step;
      };
}

pub loop-preserved : goal.loop-preserved
loop-preserved g c = record {
  failed = λ s went.
      let before = c.loop.invariant.failed s went in (
        c.loop.state,
        rw add-one (before.0, before.1, c.loop.last, search rules, before.2),
        c.in-Err.ensures.step,
      );
  may = g.met.A.Attempt.again _ _ _ _ c.loop.invariant.may c.in-Err.ensures.step;
}
