-- The inner writer that comes back is that of the writer as the flush left it.
use Rattle.std.proofs.Common.{◌∙◌, ap, sym}
use Rattle.buffer_redux.proofs.buf_writer.BufWriter.into_inner_with_err.Goals as goal
use Rattle.buffer_redux.proofs.buf_writer.BufWriter.into_inner_with_err.Goals.{in-Ok, in-Err}

pub returns : goal.returns
returns g c = elim c.match-flush.branch [
  | in-Ok w ↦ rw w.fault-is (record {
    all = ap (λ b. b.log.writes.received) c.self.view_is ∙ w.in-Ok.ensures.flushed.ok.received;
    flushed = record {
      left = c.flush.new.self;
      flushed = w.in-Ok.ensures.flushed;
      is_inner = ap (λ b. b.inner) (sym c.self.view_is);
    };
  })
  | in-Err w ↦ rw w.fault-is (record {
    all = tt;
    flushed = record {
      left = c.flush.new.self;
      flushed = w.in-Err.ensures.flushed;
      is_inner = ap (λ b. b.inner) (sym c.self.view_is);
    };
  })
]
