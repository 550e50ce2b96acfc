-- Behind as many interrupted reads as the loop has counted, which are 64 at its end, the last one failed.
use Rattle.std.proofs.Common.{arith, refl, rules, suc}
use Rattle.std.proofs.Math.Numerals.{add-one}
use Rattle.buffer_redux.proofs.all_bytes.read_again.Goals as goal

pub loop-init : goal.loop-init
loop-init g c = record { failed = λ s was one. ((s, was), refl, one) }

pub returns-then-ne : goal.returns-then-ne
returns-then-ne g c = record {
  row = λ s was one.
      let before = c.loop.invariant.failed s was one in record {
        count = c.loop.counter;
        last = before.0;
        interrupted = before.1;
        most = omega (arith, c.loop.auto.counter-end);
        often = search rules;
        went = before.2;
      };
}

pub returns : goal.returns
returns g c = record {
  row = λ s was one.
      let before = c.loop.invariant.failed s was one in record {
        count = c.loop.counter;
        last = before.0;
        interrupted = before.1;
        most = omega (arith, c.loop.auto.counter-end);
        often = λ is. omega (arith, c.loop.auto.counter-end, c.loop-test.false);
        went = before.2;
      };
}

pub returns-in-Ok : goal.returns-in-Ok
returns-in-Ok g c = record {
  row = λ s was one.
      let before = c.loop.invariant.failed s was one in record {
        count = suc c.loop.counter;
        last = (c.loop.reader, c.loop.out);
        interrupted = (before.0, before.1, c.loop.last, search rules, before.2);
        most = omega (arith, c.loop.auto.counter-end);
        often = tt;
        went = c.in-Ok.ensures.read;
      };
}

pub loop-preserved : goal.loop-preserved
loop-preserved g c = record {
  failed = λ s was one.
      let before = c.loop.invariant.failed s was one in (
        (c.loop.reader, c.loop.out),
        rw add-one (before.0, before.1, c.loop.last, search rules, before.2),
        c.in-Err.ensures.read,
      );
}
