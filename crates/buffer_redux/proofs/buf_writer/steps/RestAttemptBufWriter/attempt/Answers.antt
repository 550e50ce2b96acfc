-- One attempt is one write, by the write's own clauses.
use Rattle.buffer_redux.proofs.buf_writer.steps.RestAttemptBufWriter.attempt.Goals as goal

pub returns : goal.returns
returns g c =
    let w = c.write.ensures in record {
      bound = w.bound;
      step = record {
        bound = w.bound;
        steps = w.steps;
        rows = w.rows;
        whole = (rw (← c.writer.view_is) c.writer.invariant, w.keeps.whole);
        went = w.keeps.went;
      };
    }
