-- Each line has a frame, which has some bytes; where it couldn't be taken in, that one buffered line is lost.
use Rattle.std.proofs.Common.{◌∷◌, [], ap, arith, refl, ◌∙◌}
use Rattle.std.proofs.lemmas.Result.{err_from_is_err_and}
use Rattle.line_reader.specs.LinesAlongLaws.{NextBufferedLine-none, NextBufferedLine-some}
use Rattle.piece_filter.specs.PiecesCalls.{answered, lost, none_passed, not_held, took_next}
use Rattle.frames.specs.Packing.{packing}
use Rattle.frames.specs.PackingLaws.{some_frame}
use Rattle.frames.proofs.Packs.{lines_on, none_fits}
use Rattle.frames.proofs.packing.PackingFilter.pass.Goals as goal

pub returns-in_err-write_line-in-Some-next_buffered : goal.returns-in_err-write_line-in-Some-next_buffered
returns-in_err-write_line-in-Some-next_buffered g c =
    let m = c.next_buffered.follows.lender-at-none in
    let t = record c.args.self.now { source = m; target = c.write_line.new.target } in
    let line = c.in-Some-next_buffered.line.now in
    let next = NextBufferedLine-some _ c.args.self.now.source m _ _ c.in-Some-next_buffered.is
    c.next_buffered.follows.holds-at-none in
    let p = err_from_is_err_and c.from_residual.result c.from_residual.ensures.1 in
    let wrote = c.in_err-write_line-in-Some-next_buffered.ensures in
    let none = not_held c.args.self.now.held c.in_default.not-Some in
    rw (p.1, p.2) (lost g.R.TellRead.remaining packing c.requires t (line ∷ []) (omega arith)
    (took_next g.R.TellRead.remaining packing c.requires t none none
    (lines_on c.args.self.now t c.requires.also next.0.0.went.decoder wrote.none.encoder next.0.1 (none_fits m _ none))
    line next.0.0 next.1) refl _ wrote.takes (λ no. no) wrote.none.capacity)

pub returns-in_ok-write_line-in-Some-next_buffered : goal.returns-in_ok-write_line-in-Some-next_buffered
returns-in_ok-write_line-in-Some-next_buffered g c =
    let m = c.next_buffered.follows.lender-at-none in
    let t = record c.args.self.now { source = m; target = c.write_line.new.target } in
    let line = c.in-Some-next_buffered.line.now in
    let next = NextBufferedLine-some _ c.args.self.now.source m _ _ c.in-Some-next_buffered.is
    c.next_buffered.follows.holds-at-none in
    let wrote = c.in_ok-write_line-in-Some-next_buffered.ensures in
    let none = not_held c.args.self.now.held c.in_default.not-Some in
    answered g.R.TellRead.remaining packing c.requires t line _
    (took_next g.R.TellRead.remaining packing c.requires t none none
    (lines_on c.args.self.now t c.requires.also next.0.0.went.decoder wrote.taken.encoder next.0.1 (none_fits m _ none))
    line next.0.0 next.1) refl wrote.takes (omega arith) (some_frame line) (λ _. wrote.taken.capacity)
    (omega (arith, wrote.taken.capacity))

pub returns-in-None : goal.returns-in-None
returns-in-None g c =
    let s = c.args.self.now in
    let m = c.next_buffered.follows.lender-at-none in
    let t = record s { source = m } in
    let looked = NextBufferedLine-none _ s.source m _ c.in-None.is c.next_buffered.follows.holds-at-none in
    let none = not_held s.held c.in_default.not-Some in
    none_passed g.R.TellRead.remaining packing c.requires t none
    (record { target = refl; service = refl; sent = λ sent. sent })
    (lines_on c.args.self.now t c.requires.also (ap (λ x. x.decoder) looked.0.same) refl (looked.2 ∙ c.requires.also.open')
    (none_fits m _ none)) none looked.0 looked.1
