-- The inner writer that comes back is that of the writer as the flush left it.
use Rattle.std.proofs.Common.{◌∙◌, ap, sym}
use Rattle.buffer_redux.proofs.buf_writer.BufWriter.into_inner.Goals as goal

pub returns-in-Ok : goal.returns-in-Ok
returns-in-Ok g c = record {
  all = ap (λ b. b.log.writes.received) c.self.view_is ∙ c.in-Ok.ensures.flushed.ok.received;
  flushed = record {
    left = c.flush.new.self;
    flushed = c.in-Ok.ensures.flushed;
    is_inner = ap (λ b. b.inner) (sym c.self.view_is);
  };
}
