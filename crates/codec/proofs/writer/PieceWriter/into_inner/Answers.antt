-- A flush that went well received all that was buffered, and taking the writer apart keeps its log.
use Rattle.std.proofs.Common.{◌∙◌, ap, sym}
use Rattle.codec.proofs.writer.PieceWriter.into_inner.Goals as goal

pub returns-in-Ok : goal.returns-in-Ok
returns-in-Ok g c = record {
  all = ap (λ l. l.writes.received) c.into_inner_with_buffer-inner.ensures.log ∙ c.in-Ok.ensures.flushed.ok.received;
  flushed = record {
    left = c.flush.new.self.writer;
    flushed = c.in-Ok.ensures.flushed;
    is_inner = sym c.into_inner_with_buffer-inner.ensures.inner;
  };
}
