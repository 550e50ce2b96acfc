-- The line and its end are taken in one after the other, and flushed then; or the first that stopped is why.
use Rattle.std.proofs.lemmas.Result.{err_from_is_err_and}
use Rattle.buffer_redux.specs.WritesAlongLaws.{AllFlushed-of, StoppedAlong-after, StoppedAlong-more, WritesAll-all, WritesAll-took, WritesAlong-joins, WritesAlong-steady}
use Rattle.tests_calls.proofs.example.log_line.Goals as goal

-- the line was refused
pub returns-in_err-write_all : goal.returns-in_err-write_all
returns-in_err-write_all g c =
    let p = err_from_is_err_and c.from_residual.result c.from_residual.ensures.1 in
    let e = c.in_err-write_all.ensures in
    let s = c.args.writer.now in
    let m = c.write_all.new.self in
    rw (p.1, p.2) (StoppedAlong-more _ _ _ s m _ _ _
    (WritesAll-all _ _ _ s _ _ m e.steps c.requires.steady))

-- its end was
pub returns-in_err-write_all-2 : goal.returns-in_err-write_all-2
returns-in_err-write_all-2 g c =
    let p = err_from_is_err_and c.from_residual-in_err-write_all-2.result c.from_residual-in_err-write_all-2.ensures.1 in
    let s = c.args.writer.now in
    let m = c.write_all.new.self in
    let e = c.in_err-write_all-2.ensures in
    let line = WritesAll-took _ _ _ s _ _ m c.in_ok-write_all.ensures.steps in
    rw (p.1, p.2) (StoppedAlong-after _ _ _ g.met.W.TellWrite.trace_joins s m c.write_all-2.new.self _ _ _ line
    (WritesAll-all _ _ _ m _ _ c.write_all-2.new.self e.steps (WritesAlong-steady _ _ _ s m _ line c.requires.steady)))

pub returns : goal.returns
returns g c =
    let s = c.args.writer.now in
    let m = c.write_all.new.self in
    let n = c.write_all-2.new.self in
    let joins = g.met.W.TellWrite.trace_joins in
    let both = WritesAlong-joins _ _ _ joins s m n _ _
    (WritesAll-took _ _ _ s _ _ m c.in_ok-write_all.ensures.steps)
    (WritesAll-took _ _ _ m _ _ n c.in_ok-write_all-2.ensures.steps) in
    AllFlushed-of _ _ _ joins s n c.flush.new.self _ c.flush.result both c.flush.ensures.flushed
