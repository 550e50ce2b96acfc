-- The next payload follows those that went over; it adds a byte for the next flush to send, unless it was dropped.
use Rattle.std.proofs.Common.{arith, lit≤}
use Rattle.forward.specs.declared.error.Cause.TheVariants.{Write}
use Rattle.forward.proofs.Forwarded.{all_forwarded, counted_all, going_more, going_none, stopped_by}
use Rattle.forward.proofs.Forwarding.{not_passed, passed, then_asked}
use Rattle.forward.proofs.Said.{forward_says}
use Rattle.forward.proofs.pump.forward.Goals as goal

pub loop-count-init : goal.loop-count-init
loop-count-init g c = going_none _ g.met.F.Filter.lawful _ c.requires.fresh c.requires.ready

-- a payload that was there went over
pub loop-count-preserved-in-Ok-true : goal.loop-count-preserved-in-Ok-true
loop-count-preserved-in-Ok-true g c =
    going_more _ g.met.F.Filter.lawful _ c.requires.fresh _ _ _ c.loop-count.invariant
    (passed _ g.met.F.Filter.lawful _ _ (rw c.in-Ok-true.field-0-test at c.in-Ok-true.ensures.passes))

-- a payload that was there couldn't be written
pub returns-in-Err : goal.returns-in-Err
returns-in-Err g c =
    forward_says _ _ _ _
    (stopped_by _ g.met.F.Filter.lawful _ c.requires.fresh _ _ _ c.loop-count.invariant (Write c.in-Err.e)
    (not_passed _ g.met.F.Filter.lawful _ _ c.in-Err.e c.in-Err.ensures.passes))

-- none was there, and one was asked for
pub loop-count-preserved : goal.loop-count-preserved
loop-count-preserved g c =
    going_more _ g.met.F.Filter.lawful _ c.requires.fresh _ _ _ c.loop-count.invariant
    (then_asked _ g.met.F.Filter.lawful _ _ (rw c.in-Ok-false.field-0-test at c.in-Ok-false.ensures.passes) _ _
    (rw c.in-Ok-true-forward_asked.field-0-test at c.in-Ok-true-forward_asked.ensures))

pub returns-in-Ok-false-forward_asked : goal.returns-in-Ok-false-forward_asked
returns-in-Ok-false-forward_asked g c =
    forward_says _ _ _ _
    (all_forwarded _ g.met.F.Filter.lawful _ c.requires.fresh _ _ _ c.loop-count.invariant
    (then_asked _ g.met.F.Filter.lawful _ _ (rw c.in-Ok-false.field-0-test at c.in-Ok-false.ensures.passes) _ _
    (rw c.in-Ok-false-forward_asked.field-0-test at c.in-Ok-false-forward_asked.ensures)))

pub returns-in-Err-forward_asked : goal.returns-in-Err-forward_asked
returns-in-Err-forward_asked g c =
    forward_says _ _ _ _
    (stopped_by _ g.met.F.Filter.lawful _ c.requires.fresh _ _ _ c.loop-count.invariant c.in-Err-forward_asked.cause
    (then_asked _ g.met.F.Filter.lawful _ _ (rw c.in-Ok-false.field-0-test at c.in-Ok-false.ensures.passes) _ _
    c.in-Err-forward_asked.ensures))

pub returns : goal.returns
returns g c =
    forward_says _ _ _ _
    (counted_all _ g.met.F.Filter.lawful _ c.requires.fresh _ _ c.loop-count.invariant _
    (omega (arith, c.loop-count-test.false, c.loop-count.auto.count-end)) (lit≤ tt))
