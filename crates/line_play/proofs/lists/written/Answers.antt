-- A writer of memory fails for want of memory alone, in a write as in the last flush.
use Rattle.std.proofs.Common.{ap, subst, sym}
use Rattle.std.proofs.lemmas.Result.{err_from_is_err_and}
use Rattle.buffer_redux.specs.BufWriter.{WriterStopped}
use Rattle.buffer_redux.specs.WritesAlongLaws.{WasFlushed-memory, WriterStopped-memory}
use Rattle.line_play.proofs.lists.written.Goals as goal

pub returns-in-Err-clause-memory : goal.returns-in-Err-clause-memory
returns-in-Err-clause-memory c =
    let old = c.in_ok-writer.writer.log.writes in
    let told = ap (λ l. l.writes) c.get_ref.ensures.log in
    let e = c.in-Err.e.error in
    WriterStopped-memory c.get_ref.result.now old e (subst (λ l. WriterStopped old l e) (sym told) c.in-Err.ensures.caused)

pub returns-in_err-into_inner-clause-memory : goal.returns-in_err-into_inner-clause-memory
returns-in_err-into_inner-clause-memory c =
    let r = c.from_residual-in_err-into_inner in
    let p = err_from_is_err_and r.result r.ensures.1 in
    rw (p.1, p.2) (WasFlushed-memory _ _ _ _ c.in_err-into_inner.ensures.flushed)
