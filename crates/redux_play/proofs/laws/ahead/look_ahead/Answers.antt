-- What a fill says holds once its loan has ended: at Ok the minimum is buffered, or the source ran dry.
use Rattle.std.proofs.Common.{refl, le_refl}
use Rattle.std.proofs.lemmas.Result.{err_from_is_err_and}
use Rattle.buffer_redux.specs.MinBuffered.{min_read_rules}
use Rattle.buffer_redux.specs.FillLaws.{Fills-ok, Fills-err}
use Rattle.buffer_redux.specs.ReaderLaws.{FillBuf-first, FillBuf-keeps}
use Rattle.redux_play.proofs.laws.ahead.look_ahead.Goals as goal

pub returns-in_err-fill_buf-clause-fills : goal.returns-in_err-fill_buf-clause-fills
returns-in_err-fill_buf-clause-fills g c =
    let p = err_from_is_err_and c.from_residual.result c.from_residual.ensures.1 in
    let f = (rw c.in_err-fill_buf.was at c.fill_buf.follows.holds-at-none) in
    rw (p.1, p.2) (Fills-err min_read_rules c.args.reader.now (c.in_err-fill_buf.field-0.0)
    c.fill_buf.follows.lender-at-none f.fills)

pub returns-clause-fills : goal.returns-clause-fills
returns-clause-fills g c =
    let f = rw c.in_ok-fill_buf.was at c.fill_buf.follows.holds-at-none in
    Fills-ok min_read_rules c.args.reader.now _ _ c.fill_buf.follows.lender-at-none f.fills

pub returns-in_err-fill_buf-clause-left : goal.returns-in_err-fill_buf-clause-left
returns-in_err-fill_buf-clause-left g c = FillBuf-keeps g.R.TellRead.remaining min_read_rules _ _ _
    c.fill_buf.follows.holds-at-none

pub returns-clause-left : goal.returns-clause-left
returns-clause-left g c = FillBuf-keeps g.R.TellRead.remaining min_read_rules _ _ _
    c.fill_buf.follows.holds-at-none

pub returns-clause-first : goal.returns-clause-first
returns-clause-first g c =
    let f = rw c.in_ok-fill_buf.was at c.fill_buf.follows.holds-at-none in
    rw f.shown at (FillBuf-first g.R.TellRead.remaining min_read_rules c.args.reader.now.policy.0 _ c.args.reader.now
    _ c.fill_buf.follows.lender-at-none (le_refl _) refl f)
