-- Where more is wanted, or no piece can come, what is left begins with no piece, and only a look was done.
use Rattle.std.proofs.Common.{ap}
use Rattle.piece_reader.proofs.Lending.{lends_piece}
use Rattle.piece_reader.proofs.Loading.{takes_shown}
use Rattle.piece_reader.proofs.reader.PieceReader.step_buffered.Goals as goal

pub returns-in-Piece-clause-next : goal.returns-in-Piece-clause-next
returns-in-Piece-clause-next g c =
    let remaining = g.R.TellRead.remaining in
    let s = c.args.self.now in
    let t = c.take.new.self in
    let gram = g.D.Decoder.grammar s.decoder in (
      takes_shown remaining gram (g.met.D.Decoder.lawful s.decoder) s t c.self.inside.handed
          (ap (λ x. x.handed) c.self.view_is) c.take.ensures.before c.take.ensures.whole c.in-Piece.span c.in-Piece.field-1
          c.in-Piece.ensures.takes,
      ap (λ x. x.reader) c.in-Piece.ensures.takes.1,
    )

pub returns-in-Piece-clause-lends : goal.returns-in-Piece-clause-lends
returns-in-Piece-clause-lends g c =
    lends_piece g.D.Decoder.grammar c.args.self.now c.take.new.self c.self.inside.handed (ap (λ x. x.handed) c.self.view_is)
    c.take.ensures.whole c.in-Piece.span c.in-Piece.field-1 c.in-Piece.ensures.takes
