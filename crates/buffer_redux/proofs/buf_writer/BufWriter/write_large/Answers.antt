-- The first write asks the policy itself, and the writes of what is left join it.
use Rattle.buffer_redux.proofs.buf_writer.BufWriter.write_large.Goals as goal

pub returns : goal.returns
returns g c =
    let w = c.write_asking-answer.ensures in record {
      all = c.write_on.ensures.all c.args.self.now (record {
        bound = w.bound;
        steps = w.steps.0;
        rows = w.steps.1;
        whole = (rw (← c.self.view_is) c.self.invariant, w.whole);
        went = w.trace;
      });
    }
