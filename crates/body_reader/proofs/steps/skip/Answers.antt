-- As many bytes as a look needs fit the buffer, so fewer are shown only where the stream gave none.
use Rattle.std.proofs.Common.{arith}
use Rattle.std.proofs.lemmas.Result.{err_from_is_err_and}
use Rattle.body_reader.proofs.Skipping.{shows_here, skipped_more, skipped_none, skipped_there, skips_cut, skips_fails}
use Rattle.body_reader.proofs.steps.skip.Goals as goal

pub loop-look-init : goal.loop-look-init
loop-look-init g c = (skipped_none _ _ _ _ _ c.requires.place c.requires.room, c.requires.next)

pub pass-look-requires : goal.pass-look-requires
pass-look-requires g c = record { place = (c.loop-look.invariant.0.way 0).takes.place }

pub returns-in_err-shown-in-More : goal.returns-in_err-shown-in-More
returns-in_err-shown-in-More g c =
    let found = rw c.in_err-shown-in-More.was at c.peek.follows.holds-at-none in
    let p = err_from_is_err_and c.from_residual.result c.from_residual.ensures.1 in
    let at = c.loop-look.invariant in
    rw (p.1, p.2) (skips_fails _ _ _ _ _ _ _ at.0 _ at.1.0 _ c.in-More.is _ _ found.0)

pub returns-then-shown-need : goal.returns-then-shown-need
returns-then-shown-need g c =
    let found = rw c.in_ok-shown-in-More.was at c.peek.follows.holds-at-none in
    let at = c.loop-look.invariant in
    let count = shows_here _ _ _ _ _ _ _ at.0 _ at.1.0 c.in-More.need c.in-More.is _ _ found.1 in
    skips_cut _ _ _ _ _ _ _ at.0 _ at.1.0 _ c.in-More.is _ _ found.0 (omega (arith, c.if-shown-need.true, count))

pub loop-look-preserved : goal.loop-look-preserved
loop-look-preserved g c =
    let found = rw c.in_ok-shown-in-More.was at c.peek.follows.holds-at-none in
    let at = c.loop-look.invariant in
    let count = shows_here _ _ _ _ _ _ _ at.0 _ at.1.0 c.in-More.need c.in-More.is _ _ found.1 in
    let more = skipped_more _ _ _ _ _ _ _ at.0 _ at.1.0 _ c.in-More.is _ _ found.0
    (omega (arith, c.if-shown-need.false, count)) in
    (skipped_there _ _ _ _ _ _ _ more _ _ c.pass-look.ensures.passes, c.pass-look.ensures.next)
