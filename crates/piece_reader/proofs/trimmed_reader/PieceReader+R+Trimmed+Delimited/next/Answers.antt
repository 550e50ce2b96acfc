-- What is shown stands in front in the payload, and that in its piece, so it begins as what was left does.
use Rattle.std.proofs.Common.{[], ◌∷◌, ap, arith, length, length-append, refl}
use Rattle.piece_reader.specs.Delimited.{delimited}
use Rattle.piece_reader.specs.DelimitedLaws.{open_plain}
use Rattle.piece_reader.specs.Trimming.{trimming}
use Rattle.piece_reader.specs.NextPiece.{NextPiece}
use Rattle.piece_reader.specs.NextPieceLaws.{NextPiece-begins, NextPiece-fits, shows_lent}
use Rattle.piece_reader.specs.TrimmingLaws.{open_shown, trimmed_front, trimming_front}
use Rattle.piece_reader.proofs.trimmed_reader.PieceReader+R+Trimmed+Delimited.next.Goals as goal

pub returns-in-Some : goal.returns-in-Some
returns-in-Some g c =
    let remaining = g.R.TellRead.remaining in
    let s = c.args.self.now in
    let t = c.step.new.self in
    let found = c.lent.result.now in
    let grammar = trimming (delimited s.decoder.0.end s.decoder.0.max) in
    let lends = shows_lent (λ o. NextPiece remaining grammar s o t) t _ c.in-Some.span found c.in-Some.is c.lent.ensures
    c.in_ok-span.ensures.next in (
      (refl, (λ _. tt), lends),
      record {
        begins = NextPiece-begins remaining grammar (trimming_front (delimited s.decoder.0.end s.decoder.0.max)
            (λ bytes payload is. (s.decoder.0.end ∷ [], is.2)))
            (λ bytes payload is. is) s t found lends;
        fits = NextPiece-fits remaining grammar s.decoder.0.max
            (λ bytes shown is.
            let front = trimmed_front is.0 shown is.2 in
            omega (arith, is.1.1, ap length front.1, length-append shown front.0))
            (λ bytes shown is open'.
            let plain = open_plain s.decoder.0.end s.decoder.0.max bytes
            (open_shown (delimited s.decoder.0.end s.decoder.0.max) bytes open') in
            omega (arith, plain.1, ap length is))
            s t found lends;
        after_borrow = tt;
      },
    )
