-- What `retried` says, where each step is a write: an interrupted one takes nothing, and traces join.
use Rattle.redux_buffer.proofs.Sending.{traced_retried, wrote_retried}
use Rattle.redux_buffer.proofs.buffer.transfer.write_retried.Goals as goal

pub returns : goal.returns
returns g c =
    let none = g.met.W.TellWrite.trace_none in
    let joins = g.met.W.TellWrite.trace_joins in
    let r = c.retried.ensures.retried in record {
      bound = r.went.bound;
      retried = r;
      wrote = wrote_retried _ _ none joins _ _ _ _ r;
      trace = traced_retried _ _ none joins _ _ _ _ r;
    }
