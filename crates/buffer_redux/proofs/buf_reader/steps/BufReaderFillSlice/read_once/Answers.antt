-- By the read's own clauses.
use Rattle.buffer_redux.proofs.ReadAll.{one_read}
use Rattle.buffer_redux.proofs.buf_reader.steps.BufReaderFillSlice.read_once.Goals as goal

pub returns : goal.returns
returns g c =
    let r = c.read.ensures in record {
      bound = r.bound;
      read = one_read _ _ _ _ _ c.read.new.out _ (rw (← c.self.view_is) c.self.invariant) r.bound r.steps r.in_order r.keeps
          r.caused r.empty;
    }
