-- A writer of memory fails for want of memory alone, and the writer keeps the encoder that it was made with.
use Rattle.std.proofs.Common.{◌≡◌, map, sym, subst, rules, inl}
use Rattle.buffer_redux.specs.Faults.{IsMemory}
use Rattle.buffer_redux.specs.WritesAlongLaws.{WasFlushed-memory}
use Rattle.codec.specs.WriteRuns.{IfRefused, RefusesOne}
use Rattle.codec.specs.WriteRunsLaws.{CallPlays-ok}
use Rattle.codec.proofs.Refusing.{or_larger, write_reason, write_refused}
use Rattle.codec.proofs.laws.lists.written.Goals as goal

pub returns-in-Err-clause-refused : goal.returns-in-Err-clause-refused
returns-in-Err-clause-refused g c =
    let e = c.in-Err.e in
    or_larger _ e.error
    (write_refused _ _ _ _ _ c.get_ref.result.now c.get_ref.ensures.log _ e c.in-Err.ensures.each)

pub returns-in-Err-clause-reason : goal.returns-in-Err-clause-reason
returns-in-Err-clause-reason g c =
    let same : c.in_ok-writer.writer.encoder ≡ c.args.encoder = search rules in
    subst (λ e. IfRefused (RefusesOne (g.E.Encoder.encoding e) (map (λ v. v.items) c.args.payloads.now)) c.in-Err.e.error) same
    (write_reason _ g.E.Encoder.encoding c.in_ok-writer.writer c.write_each-wrote.new.writer _ c.in-Err.e c.in-Err.ensures.each)

pub returns-in-Err-into_inner-clause-refused : goal.returns-in-Err-into_inner-clause-refused
returns-in-Err-into_inner-clause-refused g c =
    inl (subst IsMemory (sym c.into_error.ensures) (WasFlushed-memory _ _ _ _ c.in-Err-into_inner.ensures.flushed.0))

pub returns-in-Ok-into_inner-clause-fit : goal.returns-in-Ok-into_inner-clause-fit
returns-in-Ok-into_inner-clause-fit g c =
    let taken = CallPlays-ok _ _ c.in_ok-writer.writer (map (λ v. v.items) c.args.payloads.now)
    c.write_each-wrote.new.writer c.in-Ok.ensures.each in
    search rules

pub returns-in-Ok-into_inner-clause-pieces : goal.returns-in-Ok-into_inner-clause-pieces
returns-in-Ok-into_inner-clause-pieces g c =
    let taken = CallPlays-ok _ _ c.in_ok-writer.writer (map (λ v. v.items) c.args.payloads.now)
    c.write_each-wrote.new.writer c.in-Ok.ensures.each in
    search rules
