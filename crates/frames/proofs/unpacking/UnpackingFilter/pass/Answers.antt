-- Each payload has a line; where it couldn't be taken in, one that was held still is, and a buffered one is lost.
use Rattle.std.proofs.Common.{◌∷◌, [], None, ap, arith, refl, ◌∙◌}
use Rattle.std.proofs.lemmas.Result.{err_from_is_err_and}
use Rattle.frame_reader.specs.NextLaws.{NextPiece-reads}
use Rattle.piece_filter.specs.PiecesCalls.{answered, lost, none_passed, not_held, took_held, took_next, took_none}
use Rattle.frames.specs.Words.{with_newline}
use Rattle.frames.specs.Unpacking.{unpacking}
use Rattle.frames.specs.UnpackingLaws.{line_length}
use Rattle.frames.proofs.Unpacks.{frames_on}
use Rattle.frames.proofs.unpacking.UnpackingFilter.pass.Goals as goal

pub returns-in_err-put_all : goal.returns-in_err-put_all
returns-in_err-put_all g c =
    let t = record c.args.self.now { target = c.put_all.new.target } in
    let p = err_from_is_err_and c.from_residual.result c.from_residual.ensures.1 in
    let put = c.in_err-put_all.ensures in
    rw (p.1, p.2) (lost g.R.TellRead.remaining unpacking c.requires t [] (omega arith)
    (took_none g.R.TellRead.remaining unpacking c.requires t refl
    (frames_on c.args.self.now t c.requires.also refl c.requires.also.told put.kind put.capacity) refl) refl _ put.takes
    (λ no. no) put.capacity)

pub returns-in-Some : goal.returns-in-Some
returns-in-Some g c =
    let s = c.args.self.now in
    let t = record s { target = c.put_all.new.target; held = None } in
    let put = c.in_ok-put_all.ensures in
    let frames = c.requires.also in
    let long = line_length c.lent.result.now in
    answered g.R.TellRead.remaining unpacking c.requires t _ _
    (took_held g.R.TellRead.remaining unpacking c.requires t refl (frames_on s t frames refl frames.told put.kind put.capacity)
    c.in-Some.span c.in-Some.is refl) (ap (λ l. with_newline l) c.lent.ensures) put.takes (omega (arith, long))
    (omega (arith, long)) (λ _. put.capacity) (omega (arith, put.capacity))

pub returns-in_err-put_all-in-Some-next_buffered : goal.returns-in_err-put_all-in-Some-next_buffered
returns-in_err-put_all-in-Some-next_buffered g c =
    let s = c.args.self.now in
    let m = c.next_buffered.follows.lender-at-none in
    let t = record s { source = m; target = c.put_all-in-Some-next_buffered.new.target } in
    let some = c.in-Some-next_buffered in
    let next = rw some.is at c.next_buffered.follows.holds-at-none in
    let from = c.from_residual-in_err-put_all-in-Some-next_buffered in
    let p = err_from_is_err_and from.result from.ensures.1 in
    let put = c.in_err-put_all-in-Some-next_buffered.ensures in
    let none = not_held s.held c.in_default.not-Some in
    rw (p.1, p.2) (lost g.R.TellRead.remaining unpacking c.requires t (some.payload.now ∷ []) (omega arith)
    (took_next g.R.TellRead.remaining unpacking c.requires t none none
    (frames_on s t c.requires.also next.0.went.decoder (NextPiece-reads g.R.TellRead.remaining s.source m _ next.0).told
    put.kind put.capacity) some.payload.now next.0 next.1) refl _ put.takes (λ no. no) put.capacity)

pub returns-in_ok-put_all-in-Some-next_buffered : goal.returns-in_ok-put_all-in-Some-next_buffered
returns-in_ok-put_all-in-Some-next_buffered g c =
    let s = c.args.self.now in
    let m = c.next_buffered.follows.lender-at-none in
    let t = record s { source = m; target = c.put_all-in-Some-next_buffered.new.target } in
    let some = c.in-Some-next_buffered in
    let next = rw some.is at c.next_buffered.follows.holds-at-none in
    let put = c.in_ok-put_all-in-Some-next_buffered.ensures in
    let none = not_held s.held c.in_default.not-Some in
    let long = line_length some.payload.now in
    answered g.R.TellRead.remaining unpacking c.requires t some.payload.now _
    (took_next g.R.TellRead.remaining unpacking c.requires t none none
    (frames_on s t c.requires.also next.0.went.decoder
    (NextPiece-reads g.R.TellRead.remaining s.source m _ next.0).told put.kind put.capacity) some.payload.now next.0 next.1)
    refl put.takes (omega (arith, long)) (omega (arith, long)) (λ _. put.capacity) (omega (arith, put.capacity))

pub returns-in-None : goal.returns-in-None
returns-in-None g c =
    let s = c.args.self.now in
    let m = c.next_buffered.follows.lender-at-none in
    let t = record s { source = m } in
    let stays = rw c.in-None.is at c.next_buffered.follows.holds-at-none in
    let none = not_held s.held c.in_default.not-Some in
    none_passed g.R.TellRead.remaining unpacking c.requires t none
    (record { target = refl; service = refl; sent = λ sent. sent })
    (frames_on s t c.requires.also (ap (λ x. x.decoder) stays.0.same)
    (ap (λ x. x.ended) stays.0.same ∙ c.requires.also.told) refl refl) none stays.0 stays.1
