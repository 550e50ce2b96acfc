-- A writer of memory fails for want of memory alone, in a write as in the last flush.
use Rattle.std.proofs.Common.{ap, subst, refl}
use Rattle.std.proofs.lemmas.Result.{err_from_is_err_and}
use Rattle.buffer_redux.specs.BufWriter.{WriterStopped}
use Rattle.buffer_redux.specs.WritesAlongLaws.{WasFlushed-memory, WriterStopped-memory}
use Rattle.uses.proofs.packed.packed.Goals as goal

pub returns-in_err-pack_record-clause-memory : goal.returns-in_err-pack_record-clause-memory
returns-in_err-pack_record-clause-memory c =
    let r = c.from_residual-in_err-pack_record in
    let p = err_from_is_err_and r.result r.ensures.1 in
    let old = c.loop-bytes.writer.log.writes in
    let e = c.in_err-pack_record.field-0.0 in
    let told = ap (λ l. l.writes) c.in_err-pack_record.ensures.went.told_after in
    rw (p.1, p.2) (WriterStopped-memory c.pack_record.new.writer.inner old e
    (subst (λ l. WriterStopped old l e) told (c.in_err-pack_record.ensures.caused refl)))

pub returns-in_err-into_inner-clause-memory : goal.returns-in_err-into_inner-clause-memory
returns-in_err-into_inner-clause-memory c =
    let r = c.from_residual-in_err-into_inner in
    let p = err_from_is_err_and r.result r.ensures.1 in
    rw (p.1, p.2) (WasFlushed-memory _ _ _ _ c.in_err-into_inner.ensures.flushed)
