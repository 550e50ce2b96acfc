-- One piece is pieces too.
use Rattle.buffer_redux.proofs.TextPieces.{TakesPieces-one}
use Rattle.buffer_redux.proofs.buf_writer.text.PiecesWrite.TheImpl.Goals as goal

pub write_str-tells : goal.write_str-tells
write_str-tells g c = record {
  ok = λ _. TakesPieces-one g.W.Tell.log g.W.TellWrite.trace g.P.WriterPolicy.rules g.met.W.TellWrite.trace_none
      g.met.W.TellWrite.trace_joins _ _ _ _ _ c.ensures.takes;
}
