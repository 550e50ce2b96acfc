-- What is lent is the payload that the step says, and the last ask has room for what its looks ask for.
use Rattle.std.proofs.Common.{Err, None, Ok, Some, refl, rules, subst}
use Rattle.std.proofs.lemmas.Result.{err_from_is_err_and}
use Rattle.piece_reader.specs.HeaderFormat.{length_prefixed}
use Rattle.piece_reader.specs.NextPiece.{NextPiece, load_answer}
use Rattle.piece_reader.specs.NextPieceLaws.{shows_lent}
use Rattle.piece_reader.proofs.Prefixed.{payload_next}
use Rattle.piece_reader.proofs.length_prefixed_reader.PieceReader+R+ByHeader+H.next.Goals as goal

pub returns-in_err-span : goal.returns-in_err-span
returns-in_err-span g c =
    let p = err_from_is_err_and c.from_residual.result c.from_residual.ensures.1 in
    rw (p.1, p.2) (
      (
        refl,
        (λ _. tt),
        payload_next g.R.TellRead.remaining (λ d. g.H.LengthPrefixed.header_format d.0)
            (λ d. g.met.H.LengthPrefixed.headers d.0) c.args.self.now c.step.new.self (Err c.in_err-span.field-0.0)
            c.in_err-span.ensures.next c.in_err-span.ensures.looked,
      ),
      record { after_borrow = tt; fits = tt },
    )

pub returns-in-Some : goal.returns-in-Some
returns-in-Some g c =
    let remaining = g.R.TellRead.remaining in
    let s = c.args.self.now in
    let h = g.H.LengthPrefixed.header_format s.decoder.0 in
    let t = c.step.new.self in
    let lends = shows_lent (λ o. NextPiece remaining (length_prefixed h) s o t) t _ c.in-Some.span
    c.lent.result.now c.in-Some.is c.lent.ensures c.in_ok-span.ensures.next in (
      (
        refl,
        (λ _. tt),
        payload_next remaining (λ d. g.H.LengthPrefixed.header_format d.0)
            (λ d. g.met.H.LengthPrefixed.headers d.0) s t (Ok (Some c.lent.result.now)) lends
            c.in_ok-span.ensures.looked,
      ),
      record { fits = search rules; after_borrow = tt },
    )

pub returns-in-None : goal.returns-in-None
returns-in-None g c =
    let remaining = g.R.TellRead.remaining in
    let s = c.args.self.now in
    let h = g.H.LengthPrefixed.header_format s.decoder.0 in
    let t = c.step.new.self in
    let none = subst (λ o. NextPiece remaining (length_prefixed h) s (load_answer (Ok o) t) t) c.in-None.is
    c.in_ok-span.ensures.next in (
      (
        refl,
        (λ _. tt),
        payload_next remaining (λ d. g.H.LengthPrefixed.header_format d.0)
            (λ d. g.met.H.LengthPrefixed.headers d.0) s t (Ok None) none
            c.in_ok-span.ensures.looked,
      ),
      record { fits = tt; after_borrow = tt },
    )
