-- What was handed out since is the piece itself, so it says the item; else what is left begins with none.
use Rattle.std.proofs.Common.{ap}
use Rattle.piece_reader.proofs.Lending.{lends_piece}
use Rattle.piece_reader.proofs.Saying.{says_piece, whole_piece}
use Rattle.piece_reader.proofs.reader.PieceReader.step_item_buffered.Goals as goal

pub said-item-requires-clause-whole : goal.said-item-requires-clause-whole
said-item-requires-clause-whole g c =
    whole_piece g.D.Decoder.grammar c.args.self.now c.take.new.self c.self.inside.handed c.in-Piece.span c.in-Piece.field-1
    (ap (λ x. x.handed) c.self.view_is) c.in-Piece.ensures.takes

pub returns-in-Piece-clause-next : goal.returns-in-Piece-clause-next
returns-in-Piece-clause-next g c =
    let s = c.args.self.now in
    says_piece g.R.TellRead.remaining g.D.Decoder.grammar g.D.Items.item_of s c.take.new.self
    (g.met.D.Decoder.lawful s.decoder) c.take.ensures.before c.take.ensures.whole c.self.inside.handed
    (ap (λ x. x.handed) c.self.view_is) c.in-Piece.span c.in-Piece.field-1 c.in-Piece.ensures.takes _ c.said-item.ensures

pub returns-in-Piece-clause-lends : goal.returns-in-Piece-clause-lends
returns-in-Piece-clause-lends g c =
    lends_piece g.D.Decoder.grammar c.args.self.now c.take.new.self c.self.inside.handed (ap (λ x. x.handed) c.self.view_is)
    c.take.ensures.whole c.in-Piece.span c.in-Piece.field-1 c.in-Piece.ensures.takes
