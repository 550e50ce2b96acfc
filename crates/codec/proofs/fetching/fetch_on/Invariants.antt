use Rattle.std.proofs.Common.{◌+◌, ◌-◌, ◌*◌, ◌≤◌, IfOk, IfSome}
use Rattle.codec.proofs.Asking.{Asking}
use Rattle.piece_reader.specs.Decoding.{IsLent}
use Rattle.codec.proofs.fetching.fetch_on.Given as goal

abbrev pub invariant-tries : goal.invariant-tries
invariant-tries g l = record {
  asking : Asking l.limit g.R.TellRead.remaining g.D.Decoder.grammar g.D.Items.item_of g.W.Tell.log g.W.TellWrite.trace
      l.fn.reader l.fn.writer l.row l.had l.answer l.reader l.writer;
  lends : IfOk l.answer (λ found. IfSome found (λ said.
      IsLent (g.D.Decoder.grammar l.reader.decoder) l.reader.handed l.reader.reader.block.bytes said.1));
  most : l.limit ≤ 64;
}

abbrev pub decreases-tries : goal.decreases-tries
decreases-tries g l = ((g.D.Decoder.grammar l.fn.reader.decoder).most - l.had) * 65 + (64 - l.row)
