-- One text behind another.
use Rattle.std.proofs.Common.{refl}
use Rattle.std.proofs.lemmas.Result.{err_from_is_err_and}
use Rattle.parts.proofs.Listing.{puts_all, puts_no_more, puts_then}
use Rattle.parts.proofs.list.put_line.Goals as goal

pub returns-in_err-put_or : goal.returns-in_err-put_or
returns-in_err-put_or g c =
    let p = err_from_is_err_and c.from_residual.result c.from_residual.ensures.1 in
    rw (p.1, p.2) (puts_no_more g.W.Tell.log g.W.TellWrite.trace _ _ _ _ _ (rw c.said.ensures at c.in_err-put_or.ensures))

pub returns-in_err-put_or-2 : goal.returns-in_err-put_or-2
returns-in_err-put_or-2 g c =
    let log = g.W.Tell.log in
    let trace = g.W.TellWrite.trace in
    let p = err_from_is_err_and c.from_residual-in_err-put_or-2.result c.from_residual-in_err-put_or-2.ensures.1 in
    let name = rw c.said.ensures at c.in_ok-put_or.ensures in
    let file = rw c.said-2.ensures at c.in_err-put_or-2.ensures in
    rw (p.1, p.2) (puts_then log trace g.met.W.TellWrite.trace_joins _ _ _ _ _ _ name (puts_no_more log trace _ _ _ _ _ file))

pub returns-in_err-put_or-3 : goal.returns-in_err-put_or-3
returns-in_err-put_or-3 g c =
    let log = g.W.Tell.log in
    let trace = g.W.TellWrite.trace in
    let joins = g.met.W.TellWrite.trace_joins in
    let p = err_from_is_err_and c.from_residual-in_err-put_or-3.result c.from_residual-in_err-put_or-3.ensures.1 in
    let name = rw c.said.ensures at c.in_ok-put_or.ensures in
    let file = rw c.said-2.ensures at c.in_ok-put_or-2.ensures in
    let kind = rw c.field.ensures.value at c.in_err-put_or-3.ensures in
    rw (p.1, p.2) (puts_then log trace joins _ _ _ _ _ _ name (puts_then log trace joins _ _ _ _ _ _ file
    (puts_no_more log trace _ _ _ _ _ kind)))

pub returns-in_err-write_all : goal.returns-in_err-write_all
returns-in_err-write_all g c =
    let log = g.W.Tell.log in
    let trace = g.W.TellWrite.trace in
    let joins = g.met.W.TellWrite.trace_joins in
    let p = err_from_is_err_and c.from_residual-in_err-write_all.result c.from_residual-in_err-write_all.ensures.1 in
    let name = rw c.said.ensures at c.in_ok-put_or.ensures in
    let file = rw c.said-2.ensures at c.in_ok-put_or-2.ensures in
    let kind = rw c.field.ensures.value at c.in_ok-put_or-3.ensures in
    let len = rw (c.as_bytes.ensures.value, c.format.ensures.text) at c.in_err-write_all.ensures.steps in
    rw (p.1, p.2) (puts_then log trace joins _ _ _ _ _ _ name (puts_then log trace joins _ _ _ _ _ _ file
    (puts_then log trace joins _ _ _ _ _ _ kind (puts_no_more log trace _ _ _ _ _
    (puts_all log trace _ _ _ _ len (c.in_err-write_all.ensures.often refl))))))

pub returns : goal.returns
returns g c =
    let log = g.W.Tell.log in
    let trace = g.W.TellWrite.trace in
    let joins = g.met.W.TellWrite.trace_joins in
    let name = rw c.said.ensures at c.in_ok-put_or.ensures in
    let file = rw c.said-2.ensures at c.in_ok-put_or-2.ensures in
    let kind = rw c.field.ensures.value at c.in_ok-put_or-3.ensures in
    let len = rw (c.as_bytes.ensures.value, c.format.ensures.text) at c.in_ok-write_all.ensures.steps in
    puts_then log trace joins _ _ _ _ _ _ name (puts_then log trace joins _ _ _ _ _ _ file
    (puts_then log trace joins _ _ _ _ _ _ kind (puts_then log trace joins _ _ _ _ _ _ (puts_all log trace _ _ _ _ len tt)
    (puts_all log trace _ _ _ _ c.write_all-2.ensures.steps (c.write_all-2.ensures.often refl)))))
