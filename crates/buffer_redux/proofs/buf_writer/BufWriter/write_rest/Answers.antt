-- The first write goes on behind the policy's first question, and the writes of what is left join it.
use Rattle.buffer_redux.proofs.WriteOn.{went_first}
use Rattle.buffer_redux.proofs.buf_writer.BufWriter.write_rest.Goals as goal

pub returns : goal.returns
returns g c =
    let w = c.write_slowly-answer.ensures in record {
      all = λ s first. c.write_on.ensures.all s (record {
        bound = w.bound;
        steps = (w.steps s first).0;
        rows = (w.steps s first).1;
        whole = (first.whole, w.whole);
        went = went_first _ _ _ _ s _ _ first _ w.trace;
      });
    }
