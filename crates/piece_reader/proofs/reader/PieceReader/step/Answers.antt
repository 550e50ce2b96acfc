-- A look alone hands nothing out, so a step behind it is this one; what is ready or wrong follows from that.
use Rattle.std.proofs.Common.{ap}
use Rattle.piece_reader.specs.NextPiece.{load_answer}
use Rattle.piece_reader.specs.NextPieceLaws.{NextPiece-kept, NextPiece-ready, NextPiece-wrong}
use Rattle.piece_reader.proofs.Lending.{lends_piece}
use Rattle.piece_reader.proofs.Loading.{next_looked, takes_shown}
use Rattle.piece_reader.proofs.Looking.{looks_on}
use Rattle.piece_reader.proofs.reader.PieceReader.step.Goals as goal

pub returns-in-Piece-clause-next : goal.returns-in-Piece-clause-next
returns-in-Piece-clause-next g c =
    let remaining = g.R.TellRead.remaining in
    let s = c.args.self.now in
    let t = c.take.new.self in
    let gram = g.D.Decoder.grammar s.decoder in
    takes_shown remaining gram (g.met.D.Decoder.lawful s.decoder) s t c.self.inside.handed
    (ap (λ x. x.handed) c.self.view_is) c.take.ensures.before c.take.ensures.whole c.in-Piece.span c.in-Piece.field-1
    c.in-Piece.ensures.takes

pub returns-in-Piece-clause-ready : goal.returns-in-Piece-clause-ready
returns-in-Piece-clause-ready g c piece payload more is front =
    (NextPiece-ready _ _ (g.met.D.Decoder.lawful c.args.self.now.decoder) _ _ _ (returns-in-Piece-clause-next g c)
    piece payload more is front).0

pub returns-in-Piece-clause-wrong : goal.returns-in-Piece-clause-wrong
returns-in-Piece-clause-wrong g c e wrong =
    (NextPiece-wrong _ _ (g.met.D.Decoder.lawful c.args.self.now.decoder) _ _ _ (returns-in-Piece-clause-next g c)
    e wrong).0

pub returns-in-More-clause-next : goal.returns-in-More-clause-next
returns-in-More-clause-next g c =
    let t = c.load_apart.new.self in
    next_looked g.R.TellRead.remaining g.D.Decoder.grammar c.args.self.now c.take.new.self t c.in-More.need
    (load_answer c.load_apart.result t) c.take.ensures.before c.in-More.ensures.takes c.load_apart.ensures.next

pub returns-in-More-clause-kept : goal.returns-in-More-clause-kept
returns-in-More-clause-kept g c = NextPiece-kept _ _ _ _ c.load_apart.result (returns-in-More-clause-next g c)

pub returns-in-Piece-clause-lends : goal.returns-in-Piece-clause-lends
returns-in-Piece-clause-lends g c =
    lends_piece g.D.Decoder.grammar c.args.self.now c.take.new.self c.self.inside.handed (ap (λ x. x.handed) c.self.view_is)
    c.take.ensures.whole c.in-Piece.span c.in-Piece.field-1 c.in-Piece.ensures.takes

pub returns-in-More-clause-looked : goal.returns-in-More-clause-looked
returns-in-More-clause-looked g c =
    looks_on _ c.args.self.now c.take.new.self c.load_apart.new.self c.in-More.need c.in-More.ensures.looks
    c.in-More.ensures.takes.3 c.load_apart.ensures.looked
