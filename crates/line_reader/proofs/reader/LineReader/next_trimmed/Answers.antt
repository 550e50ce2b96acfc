-- What is shown stands in front in the line, and the line in what was left, then what came.
use Rattle.std.proofs.Common.{◌≡◌, Ok, Err, Some, None, refl, subst, sym}
use Rattle.std.proofs.lemmas.Result.{err_from_is_err_and}
use Rattle.std.specs.Prelude.{MatchBool}
use Rattle.piece_reader.specs.NextPiece.{load_answer}
use Rattle.piece_reader.specs.Trimming.{IsTrimmed}
use Rattle.line_reader.specs.NextLine.{NextBufferedLine, NextLine, NextTrimmed}
use Rattle.line_reader.proofs.Fronts.{NextTrimmed-begins}
use Rattle.line_reader.proofs.Going.{NextLine-found, NextLine-looked}
use Rattle.line_reader.proofs.Trimming.{trims_line}
use Rattle.line_reader.proofs.reader.LineReader.next_trimmed.Goals as goal

pub returns-in-Some : goal.returns-in-Some
returns-in-Some g c =
    let remaining = g.R.TellRead.remaining in
    let s = c.args.self.now in
    let t = c.step_buffered.new.self in
    let line = c.lent.result.now in
    let shown = c.trimmed.result.now in
    let next : NextTrimmed remaining s (Ok (Some shown)) t = record {
      whole = Ok (Some line);
      next = NextLine-found remaining s t line
          (subst (λ l. NextBufferedLine remaining s (Some l) t) (sym c.lent.ensures) c.in-Some.ensures.next);
      trims = subst (λ b. MatchBool b (shown ≡ line) (IsTrimmed line shown)) (sym c.in-Some.ensures.going) c.trimmed.ensures;
    } in (
      (refl, (λ _. tt), next),
      record {
        begins = NextTrimmed-begins remaining s t shown c.step_buffered.ensures.before next;
        after_borrow = tt;
      },
    )

pub returns-in_err-span : goal.returns-in_err-span
returns-in_err-span g c =
    let next = NextLine-looked g.R.TellRead.remaining c.args.self.now c.step_buffered.new.self c.load.new.self
    (Err c.in_err-span.field-0.0) c.step_buffered.ensures.before c.in_default.ensures.next c.in_err-span.ensures.next in
    let p = err_from_is_err_and c.from_residual.result c.from_residual.ensures.1 in
    rw (p.1, p.2) (
      (refl, (λ _. tt), record { whole = Err c.in_err-span.field-0.0; next = next; trims = refl }),
      record { begins = tt; after_borrow = tt },
    )

pub returns-in-Some-2 : goal.returns-in-Some-2
returns-in-Some-2 g c =
    let remaining = g.R.TellRead.remaining in
    let s = c.args.self.now in
    let t = c.load.new.self in
    let loads = NextLine-looked remaining s c.step_buffered.new.self t (load_answer (Ok c.in_ok-span.field-0) t.pieces)
    c.step_buffered.ensures.before c.in_default.ensures.next c.in_ok-span.ensures.next in
    let shown = c.shown.result.now in
    let next : NextTrimmed remaining s (Ok (Some shown)) t =
    trims_line remaining s t _ shown (subst (λ o. NextLine remaining s (load_answer (Ok o) t.pieces) t) c.in-Some-2.is loads)
    c.shown.ensures.last c.shown.ensures.trimmed in (
      (refl, (λ _. tt), next),
      record {
        begins = NextTrimmed-begins remaining s t shown c.step_buffered.ensures.before next;
        after_borrow = tt;
      },
    )

pub returns-in-None : goal.returns-in-None
returns-in-None g c =
    let remaining = g.R.TellRead.remaining in
    let s = c.args.self.now in
    let t = c.load.new.self in
    let loads = NextLine-looked remaining s c.step_buffered.new.self t (load_answer (Ok c.in_ok-span.field-0) t.pieces)
    c.step_buffered.ensures.before c.in_default.ensures.next c.in_ok-span.ensures.next in
    let next = subst (λ o. NextLine remaining s (load_answer (Ok o) t.pieces) t) c.in-None.is loads in
    ((refl, (λ _. tt), record { whole = Ok None; next = next; trims = refl }), record { begins = tt; after_borrow = tt })
