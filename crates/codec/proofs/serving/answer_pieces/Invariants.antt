use Rattle.std.proofs.Common.{◌≡◌, List, length, true}
use Rattle.codec.specs.Serving.{Exchange, Talked, server}
use Rattle.codec.proofs.serving.answer_pieces.Given as goal

-- the pieces so far were answered
abbrev pub invariant-loop-turn : goal.invariant-loop-turn
invariant-loop-turn g l = record {
  exchanges : List Exchange;
  talked : Talked l.limit g.R.TellRead.remaining g.W.Tell.log g.W.TellWrite.trace (g.D.Decoder.grammar l.fn.reader.decoder)
      (g.D.Items.item_of l.fn.reader.decoder) g.S.Service.answers (server l.fn.reader l.fn.service l.fn.writer) exchanges true
      (server l.reader l.service l.writer);
  decoder : l.reader.decoder ≡ l.fn.reader.decoder;
  count : length exchanges ≡ l._turn;
}
