-- Where a piece was found what is left begins with it, and no bytes begin with a piece.
use Rattle.std.proofs.Common.{ap, refl}
use Rattle.piece_reader.specs.GrammarLaws.{begins_none}
use Rattle.piece_reader.specs.Looking.{LookSays}
use Rattle.piece_reader.proofs.Buffered.{found_begins, looked_rest}
use Rattle.piece_reader.proofs.reader.PieceReader.has_piece.Goals as goal

pub returns-in-Piece : goal.returns-in-Piece
returns-in-Piece g c =
    let s = c.args.self.now in
    let begins = found_begins g.D.Decoder.grammar s _ (ap (λ x. x.decoder) c.self.view_is) _ c.rest.ensures.value _ _
    c.in-Piece.ensures.finds in
    record {
      none = λ none. absurd (begins_none (g.D.Decoder.grammar s.decoder) (g.met.D.Decoder.lawful s.decoder) begins none);
      looked = looked_rest (LookSays g.D.Decoder.grammar g.D.Decoder.looks) _ c.self.view_is c.rest.ensures.value
          (c.in-Piece.ensures.finds, c.in-Piece.ensures.looks);
      buffered = (λ _. begins, λ _. refl);
    }
