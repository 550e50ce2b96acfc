-- A payload stands in front in its piece, so it begins as what was left does.
use Rattle.std.proofs.Common.{ap, arith, length, refl}
use Rattle.piece_reader.specs.Terminated.{terminated}
use Rattle.piece_reader.specs.NextPiece.{NextPiece}
use Rattle.piece_reader.specs.NextPieceLaws.{NextPiece-begins, NextPiece-fits, shows_lent}
use Rattle.piece_reader.proofs.terminated_reader.PieceReader+R+Terminated.next.Goals as goal

pub returns-in-Some : goal.returns-in-Some
returns-in-Some g c =
    let remaining = g.R.TellRead.remaining in
    let s = c.args.self.now in
    let t = c.step.new.self in
    let found = c.lent.result.now in
    let grammar = terminated s.decoder.end.items s.decoder.max in
    let lends = shows_lent (λ o. NextPiece remaining grammar s o t) t _ c.in-Some.span found c.in-Some.is c.lent.ensures
    c.in_ok-span.ensures.next in (
      (refl, (λ _. tt), lends),
      record {
        begins = NextPiece-begins remaining grammar (λ bytes payload is. (s.decoder.end.items, is.0))
            (λ bytes payload is. is.0) s t found lends;
        fits = NextPiece-fits remaining grammar s.decoder.max (λ bytes payload is. is.1)
            (λ bytes payload is open'. omega (arith, is.1, ap length is.0)) s t found lends;
        after_borrow = tt;
      },
    )
