-- A call behind a look that found no line is what it would have been; what each answer says follows from that.
use Rattle.std.proofs.Common.{Ok, Err, Some, None, refl, subst, sym}
use Rattle.std.proofs.lemmas.Result.{err_from_is_err_and}
use Rattle.piece_reader.specs.NextPiece.{load_answer}
use Rattle.piece_reader.specs.NextPieceLaws.{shows_lent}
use Rattle.line_reader.specs.NextLine.{NextBufferedLine, NextLine}
use Rattle.line_reader.proofs.Fronts.{NextLine-begins}
use Rattle.line_reader.proofs.Going.{NextLine-fits, NextLine-found, NextLine-looked, NextLine-says}
use Rattle.line_reader.proofs.reader.LineReader.next.Goals as goal

pub returns-in-Some : goal.returns-in-Some
returns-in-Some g c =
    let remaining = g.R.TellRead.remaining in
    let s = c.args.self.now in
    let whole = c.step_buffered.ensures.before in
    let t = c.step_buffered.new.self in
    let found = c.lent.result.now in
    let next : NextLine remaining s (Ok (Some found)) t =
    NextLine-found remaining s t found
    (subst (λ l. NextBufferedLine remaining s (Some l) t) (sym c.lent.ensures) c.in-Some.ensures.next) in
    let says = NextLine-says remaining s t (Ok (Some found)) whole next _ _ (NextLine-begins remaining s t found whole next)
    (NextLine-fits remaining s t found next) in (
      (refl, (λ _. tt), next),
      record {
        begins = says.begins;
        fits = says.fits;
        ready = says.ready;
        too_long = says.too_long;
        ended = says.ended;
        after_borrow = tt;
      },
    )

pub returns-in_err-span : goal.returns-in_err-span
returns-in_err-span g c =
    let remaining = g.R.TellRead.remaining in
    let s = c.args.self.now in
    let whole = c.step_buffered.ensures.before in
    let t = c.load.new.self in
    let e = c.in_err-span.field-0.0 in
    let next : NextLine remaining s (Err e) t =
    NextLine-looked remaining s c.step_buffered.new.self t (Err e) whole c.in_default.ensures.next c.in_err-span.ensures.next in
    let p = err_from_is_err_and c.from_residual.result c.from_residual.ensures.1 in
    rw (p.1, p.2) (
      (refl, (λ _. tt), next),
      NextLine-says remaining s t (Err e) whole next _ _ tt tt,
    )

pub returns-in-Some-2 : goal.returns-in-Some-2
returns-in-Some-2 g c =
    let remaining = g.R.TellRead.remaining in
    let s = c.args.self.now in
    let whole = c.step_buffered.ensures.before in
    let t = c.load.new.self in
    let found = c.lent-in-Some-2.result.now in
    let loads = NextLine-looked remaining s c.step_buffered.new.self t (load_answer (Ok c.in_ok-span.field-0) t.pieces) whole
    c.in_default.ensures.next c.in_ok-span.ensures.next in
    let next = shows_lent (λ o. NextLine remaining s o t) t.pieces _ c.in-Some-2.span found c.in-Some-2.is
    c.lent-in-Some-2.ensures loads in (
      (refl, (λ _. tt), next),
      NextLine-says remaining s t (Ok (Some found)) whole next _ _ (NextLine-begins remaining s t found whole next)
          (NextLine-fits remaining s t found next),
    )

pub returns-in-None : goal.returns-in-None
returns-in-None g c =
    let remaining = g.R.TellRead.remaining in
    let s = c.args.self.now in
    let whole = c.step_buffered.ensures.before in
    let t = c.load.new.self in
    let loads = NextLine-looked remaining s c.step_buffered.new.self t (load_answer (Ok c.in_ok-span.field-0) t.pieces) whole
    c.in_default.ensures.next c.in_ok-span.ensures.next in
    let next : NextLine remaining s (Ok None) t =
    subst (λ o. NextLine remaining s (load_answer (Ok o) t.pieces) t) c.in-None.is loads in (
      (refl, (λ _. tt), next),
      NextLine-says remaining s t (Ok None) whole next _ _ tt tt,
    )
