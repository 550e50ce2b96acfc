-- The flush, the turn of asks and the pass join; a payload that was asked for is there, so the pass moves it.
use Rattle.forward.proofs.Forwarding.{came_not_passed, came_passed, no_more, none_read, not_flushed, some_read, wrong_next}
use Rattle.forward.proofs.pump.forward_asked.Goals as goal

pub returns-in-Err : goal.returns-in-Err
returns-in-Err g c =
    not_flushed g.F.Filter.rules g.met.F.Filter.lawful c.args.link.now c.flush.new.self c.requires.lacks c.in-Err.e
    c.in-Err.ensures.flushes

pub returns-in-Ok : goal.returns-in-Ok
returns-in-Ok g c =
    came_passed _ g.met.F.Filter.lawful _ _ _ c.in_default.ensures.flushes
    (rw c.in-Ok-true.field-0-test at c.in-Ok-true.ensures) _ c.in-Ok.passed c.in-Ok.ensures.passes

pub returns-in-Err-pass : goal.returns-in-Err-pass
returns-in-Err-pass g c =
    came_not_passed _ g.met.F.Filter.lawful _ _ _ c.in_default.ensures.flushes
    (rw c.in-Ok-true.field-0-test at c.in-Ok-true.ensures) _ c.in-Err-pass.e c.in-Err-pass.ensures.passes

pub returns-in-Ok-false : goal.returns-in-Ok-false
returns-in-Ok-false g c =
    no_more _ g.met.F.Filter.lawful _ _ _ c.in_default.ensures.flushes (rw c.in-Ok-false.field-0-test at c.in-Ok-false.ensures)

pub returns-in-Err-Wrong : goal.returns-in-Err-Wrong
returns-in-Err-Wrong g c =
    wrong_next _ g.met.F.Filter.lawful _ _ _ c.in_default.ensures.flushes c.in-Err-Wrong.why
    (rw c.in-Err-Wrong.field-0-is at c.in-Err-Wrong.ensures)

pub returns-in-Err-Io : goal.returns-in-Err-Io
returns-in-Err-Io g c =
    none_read _ g.met.F.Filter.lawful _ _ _ c.in_default.ensures.flushes c.in-Err-Io.e
    (rw c.in-Err-Io.field-0-is at c.in-Err-Io.ensures)

pub returns-in-Err-IoBehind : goal.returns-in-Err-IoBehind
returns-in-Err-IoBehind g c =
    some_read _ g.met.F.Filter.lawful _ _ _ c.in_default.ensures.flushes c.in-Err-IoBehind.e
    (rw c.in-Err-IoBehind.field-0-is at c.in-Err-IoBehind.ensures)
