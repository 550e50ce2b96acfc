-- Each turn keeps that what went holds no end; where none was there nothing is left, and the stream is asked.
use Rattle.std.proofs.Common.{Ok, Err, ap, subst, refl, ◌∙◌, arith}
use Rattle.std.proofs.lemmas.Result.{err_from_is_err_and}
use Rattle.piece_reader.specs.NextPiece.{Refills}
use Rattle.line_reader.specs.LineReader.{lined}
use Rattle.line_reader.proofs.Skipping.{SkipHead-none, none_left, skip_all, skip_ends, skip_fails, skip_found, skip_more, skip_too_long}
use Rattle.line_reader.proofs.reader.LineReader.drop_through.Goals as goal

pub turns-init : goal.turns-init
turns-init g c = record {
  head = SkipHead-none g.R.TellRead.remaining c.args.self.now.pieces;
  skipping = refl;
  few = omega arith;
}

pub returns-then-found : goal.returns-then-found
returns-then-found g c =
    skip_found g.R.TellRead.remaining _ _ c.turns.dropped c.turns.invariant.head _ _ _ c.drop_line-count.ensures.drops
    c.if-found.true

pub returns-then-dropped-gt-MOST_SKIPPED : goal.returns-then-dropped-gt-MOST_SKIPPED
returns-then-dropped-gt-MOST_SKIPPED g c =
    skip_too_long g.R.TellRead.remaining _ _ c.turns.dropped c.turns.invariant.head _ _ _ c.drop_line-count.ensures.drops
    c.if-found.false c.from.result c.from.ensures c.turns.invariant.few c.if-dropped-gt-MOST_SKIPPED.true

pub returns-in_err-refill : goal.returns-in_err-refill
returns-in_err-refill g c =
    let remaining = g.R.TellRead.remaining in
    let drops = c.drop_line-count.ensures.drops in
    let head = c.turns.invariant.head in
    let t = c.refill.new.self in
    let e = c.in_err-refill.field-0.0 in
    let asked = subst (λ x. Refills remaining (lined x.pieces.decoder.max) x.pieces (Err e) t) c.self.view_is
    c.in_err-refill.ensures.refills in
    let p = err_from_is_err_and c.from_residual.result c.from_residual.ensures.1 in
    rw (p.1, p.2)
    (skip_fails remaining _ _ _ (skip_all remaining _ _ _ head _ _ _ drops c.if-found.false)
    (none_left remaining _ _ _ head _ _ _ drops c.if-found.false) (Err e) t asked e refl)

pub returns-then-not-branch : goal.returns-then-not-branch
returns-then-not-branch g c =
    let remaining = g.R.TellRead.remaining in
    let drops = c.drop_line-count.ensures.drops in
    let head = c.turns.invariant.head in
    let t = c.refill.new.self in
    let asked = subst (λ x. Refills remaining (lined x.pieces.decoder.max) x.pieces (Ok c.in_ok-refill.field-0) t)
    c.self.view_is c.in_ok-refill.ensures.refills in
    skip_ends remaining _ _ _ (skip_all remaining _ _ _ head _ _ _ drops c.if-found.false)
    (none_left remaining _ _ _ head _ _ _ drops c.if-found.false) _ t asked (ap (λ b. Ok b) c.if-not-branch.true)

pub turns-preserved : goal.turns-preserved
turns-preserved g c =
    let remaining = g.R.TellRead.remaining in
    let drops = c.drop_line-count.ensures.drops in
    let head = c.turns.invariant.head in
    let t = c.refill.new.self in
    let asked = subst (λ x. Refills remaining (lined x.pieces.decoder.max) x.pieces (Ok c.in_ok-refill.field-0) t)
    c.self.view_is c.in_ok-refill.ensures.refills in
    record {
      head = skip_more remaining _ _ _ (skip_all remaining _ _ _ head _ _ _ drops c.if-found.false)
          (none_left remaining _ _ _ head _ _ _ drops c.if-found.false) _ t asked (ap (λ b. Ok b) c.if-not-branch.false);
      skipping = ap (λ x. x.skipping) c.self.view_is ∙ c.drop_line-count.ensures.skipping ∙ c.turns.invariant.skipping;
      few = omega (arith, c.if-dropped-gt-MOST_SKIPPED.false);
    }
