-- But for what the end of the stream makes a piece, the grammar is the other decoder's, its reasons renamed.
use Rattle.std.proofs.Common.{subst, sym, take}
use Rattle.codec.specs.Ended.{ended}
use Rattle.codec.specs.EndedLaws.{ended_decodes, ended_open}
use Rattle.piece_reader.specs.Decoding.{Decodes}
use Rattle.codec.proofs.ended.EndedDecoder.decode.Goals as goal

pub decode-requires-clause-open : goal.decode-requires-clause-open
decode-requires-clause-open g c =
    ended_open (g.D.Decoder.grammar c.args.self.now.0) (take c.args.seen c.args.bytes.now) c.requires.open

pub returns-clause-finds : goal.returns-clause-finds
returns-clause-finds g c =
    let gram = g.D.Decoder.grammar c.args.self.now.0 in
    subst (Decodes (ended gram) c.args.bytes.now) (sym c.as_ended.ensures)
    (ended_decodes gram c.args.bytes.now c.decode.result c.decode.ensures.finds)

pub returns-clause-looks : goal.returns-clause-looks
returns-clause-looks g c = (c.decode.result, c.decode.ensures.looks, c.as_ended.ensures)
