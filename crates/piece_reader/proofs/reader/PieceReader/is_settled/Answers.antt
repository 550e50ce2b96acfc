-- Where a piece was found what is left begins with it, and no bytes begin with a piece.
use Rattle.std.proofs.Common.{◌≡◌, ap, false, inl, inr, refl, subst, sym, true, ◌∙◌}
use Rattle.piece_reader.specs.Grammar.{IsOpen}
use Rattle.piece_reader.specs.GrammarLaws.{begins_none, open_of}
use Rattle.piece_reader.specs.Looking.{LookSays}
use Rattle.piece_reader.specs.PieceReader.{rest}
use Rattle.piece_reader.proofs.Buffered.{found_begins, looked_rest}
use Rattle.piece_reader.proofs.reader.PieceReader.is_settled.Goals as goal

pub returns-in-Piece : goal.returns-in-Piece
returns-in-Piece g c =
    let s = c.args.self.now in
    let begins = found_begins g.D.Decoder.grammar s _ (ap (λ x. x.decoder) c.self.view_is) _ c.rest.ensures.value _ _
    c.in-Piece.ensures.finds in
    record {
      none = λ none. absurd (begins_none (g.D.Decoder.grammar s.decoder) (g.met.D.Decoder.lawful s.decoder) begins none);
      looked = λ _. looked_rest (LookSays g.D.Decoder.grammar g.D.Decoder.looks) _ c.self.view_is c.rest.ensures.value
          (c.in-Piece.ensures.finds, c.in-Piece.ensures.looks);
      settled = (λ _. inr (inl begins), λ _. refl);
    }

pub returns-in-More-clause-settled : goal.returns-in-More-clause-settled
returns-in-More-clause-settled g c =
    let s = c.args.self.now in
    let gram = g.D.Decoder.grammar c.self.inside.decoder in
    let is = c.in-More.ensures.finds in
    let open' = subst (λ d. IsOpen (g.D.Decoder.grammar d) (rest s)) (ap (λ x. x.decoder) c.self.view_is)
    (subst (IsOpen gram) c.rest.ensures.value (open_of gram c.in-More.field-0 c.rest.result.now is.0 is.2)) in (
      λ odd. cc,
      λ settled. absurd (elim settled [
        | inl ended ↦
            (let odd : true ≡ false = sym ended ∙ sym (ap (λ x. x.ended) c.self.view_is) ∙ c.if-self.false in cc)
        | inr (inl begins) ↦ open'.no_piece begins
        | inr (inr (e, wrong)) ↦ open'.not_wrong e wrong
      ]),
    )
