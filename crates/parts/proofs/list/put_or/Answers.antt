-- What is said, and then a tab.
use Rattle.std.proofs.Common.{refl}
use Rattle.std.proofs.lemmas.Result.{err_from_is_err_and}
use Rattle.parts.proofs.Listing.{puts_all, puts_no_more, puts_then}
use Rattle.parts.proofs.list.put_or.Goals as goal

pub returns-in_err-put_printed : goal.returns-in_err-put_printed
returns-in_err-put_printed g c =
    let log = g.W.Tell.log in
    let trace = g.W.TellWrite.trace in
    let p = err_from_is_err_and c.from_residual.result c.from_residual.ensures.1 in
    rw (p.1, p.2) (puts_no_more log trace _ _ _ _ _ (rw c.or_hyphen.ensures at c.in_err-put_printed.ensures))

pub returns : goal.returns
returns g c =
    let log = g.W.Tell.log in
    let trace = g.W.TellWrite.trace in
    puts_then log trace g.met.W.TellWrite.trace_joins _ _ _ _ _ _ (rw c.or_hyphen.ensures at c.in_ok-put_printed.ensures)
    (puts_all log trace _ _ _ _ c.write_all.ensures.steps (c.write_all.ensures.often refl))
