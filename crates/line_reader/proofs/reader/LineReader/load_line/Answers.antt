-- What is left begins with no line, so above `max` bytes it is too long; else the answer is that of the pieces.
use Rattle.std.proofs.Common.{◌≡◌, Ok, Err, false, ap, arith, length, subst, sym, ◌∙◌}
use Rattle.piece_reader.specs.Grammar.{Begins}
use Rattle.piece_reader.specs.NextPiece.{NextPiece, load_answer}
use Rattle.piece_reader.specs.PieceReader.{rest}
use Rattle.line_reader.specs.declared.error.LineError.TheVariants.{TooLong, Io}
use Rattle.line_reader.specs.LineReader.{LineState, lined}
use Rattle.line_reader.specs.NextLine.{NextLine, piece_answer}
use Rattle.line_reader.specs.NextLineLaws.{NextLine-of}
use Rattle.line_reader.proofs.Going.{NextLine-long, piece_loaded}
use Rattle.line_reader.proofs.reader.LineReader.load_line.Goals.{in-Ok, in-Err-Wrong, in-Err-Io}
use Rattle.line_reader.proofs.reader.LineReader.load_line.Goals as goal

pub returns-then-have-max-clause-next : goal.returns-then-have-max-clause-next
returns-then-have-max-clause-next g c =
    let remaining = g.R.TellRead.remaining in
    let s = c.args.self.now in
    let f = c.self.inside.pieces in
    let max = ap (λ d. d.max) c.decoder.ensures in
    subst (λ n. NextLine remaining s (Err (TooLong n)) s) (sym max)
    (subst (λ x. NextLine remaining x (Err (TooLong f.decoder.max)) x) c.self.view_is
    (NextLine-long remaining _ c.self.invariant (ap (λ x. x.skipping) c.self.view_is ∙ c.requires.open)
    (omega (arith, c.if-have-max.true, ap length c.rest-have.ensures.value, max))
    (subst (λ x. ¬ (Begins (lined x.pieces.decoder.max) (rest x.pieces))) (sym c.self.view_is) c.requires.none)))

pub returns-clause-next : goal.returns-clause-next
returns-clause-next g c =
    let remaining = g.R.TellRead.remaining in
    let f = c.self.inside.pieces in
    let skipping = c.self.inside.skipping in
    let t = c.step_on.new.self in
    let before : LineState g.row.R.Denot = record { pieces = f; skipping = skipping } in
    let after : LineState g.row.R.Denot = record { pieces = t; skipping = skipping } in
    let open' : skipping ≡ false = ap (λ x. x.skipping) c.self.view_is ∙ c.requires.open in
    let finish : (r : _) → c.match-step_on.result ≡ r
    → NextPiece remaining (lined f.decoder.max) f (piece_answer (load_answer r t)) t
    → NextLine remaining c.args.self.now (load_answer c.match-step_on.result t) after =
    λ r is next. subst (λ x. NextLine remaining x (load_answer c.match-step_on.result t) after) c.self.view_is
    (subst (λ r. NextLine remaining before (load_answer r t) after) (sym is)
    (NextLine-of remaining before after (load_answer r t) open' (next, open'))) in
    elim c.match-step_on.branch [
      | in-Ok w ↦ finish (Ok w.in-Ok.found) w.result-is (piece_loaded remaining f t w.in-Ok.found w.in-Ok.ensures.next)
      | in-Err-Wrong w ↦ finish (Err (TooLong w.in-Err-Wrong.field-0-0.0)) w.result-is
          (subst (λ e. NextPiece remaining (lined f.decoder.max) f (Err e) t) w.in-Err-Wrong.field-0-is
          w.in-Err-Wrong.ensures.next)
      | in-Err-Io w ↦ finish (Err (Io w.in-Err-Io.e)) w.result-is
          (subst (λ e. NextPiece remaining (lined f.decoder.max) f (Err e) t) w.in-Err-Io.field-0-is w.in-Err-Io.ensures.next)
    ]
