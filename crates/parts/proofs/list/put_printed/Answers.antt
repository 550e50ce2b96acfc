-- Each byte is written as it is printed.
use Rattle.std.proofs.Common.{◌+◌, arith, refl}
use Rattle.std.proofs.lemmas.Result.{err_from_is_err_and}
use Rattle.parts.specs.Sections.{printed}
use Rattle.parts.proofs.Listing.{puts_all, puts_next, puts_none, puts_stopped}
use Rattle.parts.proofs.list.put_printed.Goals as goal

pub loop-byte-init : goal.loop-byte-init
loop-byte-init g c = puts_none g.W.Tell.log g.W.TellWrite.trace g.met.W.TellWrite.trace_none c.args.target.now

pub returns-in_err-write_all : goal.returns-in_err-write_all
returns-in_err-write_all g c =
    let log = g.W.Tell.log in
    let trace = g.W.TellWrite.trace in
    let text = c.args.text.now in
    let i = c.loop-byte.byte-index in
    let p = err_from_is_err_and c.from_residual.result c.from_residual.ensures.1 in
    let byte = puts_all log trace _ _ _ _ (rw c.printed.ensures at c.in_err-write_all.ensures.steps)
    (c.in_err-write_all.ensures.often refl) in
    rw (p.1, p.2) (puts_stopped log trace printed text (i + 1) _ _ _
    (puts_next log trace g.met.W.TellWrite.trace_joins printed text i (omega arith) _ _ _ _ c.loop-byte.invariant byte))

pub loop-byte-preserved : goal.loop-byte-preserved
loop-byte-preserved g c =
    let log = g.W.Tell.log in
    let trace = g.W.TellWrite.trace in
    let byte = puts_all log trace _ _ _ _ (rw c.printed.ensures at c.in_ok-write_all.ensures.steps) tt in
    puts_next log trace g.met.W.TellWrite.trace_joins printed c.args.text.now c.loop-byte.byte-index (omega arith) _ _ _ _
    c.loop-byte.invariant byte
