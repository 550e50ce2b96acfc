-- The amount that the policy answered was flushed, and a flush that failed says in which row.
use Rattle.std.proofs.Common.{rules}
use Rattle.buffer_redux.proofs.buf_writer.BufWriter.flush_after.Goals as goal

pub returns-clause-finished : goal.returns-clause-finished
returns-clause-finished g c = (
  record {
    amount = c.after_write-last.result;
    flushed = c.flush_amount.result;
    asked = search rules;
    flush = search rules;
  },
  rw (← c.self.view_is) c.flush_amount.ensures.row,
)
