-- A line that is held has a frame, which has some bytes; where it couldn't be taken in, the line is held still.
use Rattle.std.proofs.Common.{[], None, ap, arith, refl}
use Rattle.std.proofs.lemmas.Result.{err_from_is_err_and}
use Rattle.piece_filter.specs.PiecesCalls.{answered, lost, took_held, took_none}
use Rattle.frames.specs.Packing.{packing}
use Rattle.frames.specs.PackingLaws.{some_frame}
use Rattle.frames.specs.Words.{frame}
use Rattle.frames.proofs.Packs.{lines_on}
use Rattle.frames.proofs.packing.pass_held.Goals as goal

pub returns-in_err-write_line : goal.returns-in_err-write_line
returns-in_err-write_line g c =
    let ready = c.requires.ready in
    let t = record c.args.filter.now { target = c.write_line.new.target } in
    let p = err_from_is_err_and c.from_residual.result c.from_residual.ensures.1 in
    let wrote = c.in_err-write_line.ensures in
    rw (p.1, p.2) (lost g.R.TellRead.remaining packing ready t [] (omega arith)
    (took_none g.R.TellRead.remaining packing ready t refl
    (lines_on c.args.filter.now t ready.also refl wrote.none.encoder ready.also.open' ready.also.fits) refl) refl _ wrote.takes
    (λ no. no) wrote.none.capacity)

pub returns : goal.returns
returns g c =
    let ready = c.requires.ready in
    let s = c.args.filter.now in
    let t = record s { target = c.write_line.new.target; held = None } in
    let wrote = c.in_ok-write_line.ensures in
    answered g.R.TellRead.remaining packing ready t _ _
    (took_held g.R.TellRead.remaining packing ready t refl
    (lines_on c.args.filter.now t ready.also refl wrote.taken.encoder ready.also.open' tt) c.args.span c.requires.held refl)
    (ap (λ l. frame l) c.lent.ensures) wrote.takes (omega arith) (some_frame c.lent.result.now) (λ _. wrote.taken.capacity)
    (omega (arith, wrote.taken.capacity))
