-- A payload stands in front in its piece, so it begins as what was left does.
use Rattle.std.proofs.Common.{[], ◌∷◌, ap, arith, length, refl}
use Rattle.piece_reader.specs.Delimited.{delimited}
use Rattle.piece_reader.specs.DelimitedLaws.{open_plain}
use Rattle.piece_reader.specs.NextPiece.{NextPiece}
use Rattle.piece_reader.specs.NextPieceLaws.{NextPiece-begins, NextPiece-fits, shows_lent}
use Rattle.piece_reader.proofs.delimited_reader.PieceReader+R+Delimited.next.Goals as goal

pub returns-in-Some : goal.returns-in-Some
returns-in-Some g c =
    let remaining = g.R.TellRead.remaining in
    let s = c.args.self.now in
    let t = c.step.new.self in
    let found = c.lent.result.now in
    let grammar = delimited s.decoder.end s.decoder.max in
    let lends = shows_lent (λ o. NextPiece remaining grammar s o t) t _ c.in-Some.span found c.in-Some.is c.lent.ensures
    c.in_ok-span.ensures.next in (
      (refl, (λ _. tt), lends),
      record {
        begins = NextPiece-begins remaining grammar (λ bytes payload is. (s.decoder.end ∷ [], is.2))
            (λ bytes payload is. is) s t found lends;
        fits = NextPiece-fits remaining grammar s.decoder.max (λ bytes payload is. is.1)
            (λ bytes payload is open'. omega (arith, (open_plain s.decoder.end s.decoder.max bytes open').1, ap length is))
            s t found lends;
        after_borrow = tt;
      },
    )
