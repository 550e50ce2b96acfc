-- The body goes on here, so no bytes settle nothing, and of others the first lead on or the next is wrong.
use Rattle.std.proofs.Common.{arith, sym}
use Rattle.chunked.specs.Names.{Data, eqb-true, nil_from_length}
use Rattle.chunked.specs.CodingLaws.{looks_comes, looks_none, looks_wrong, open_of}
use Rattle.chunked.proofs.coding.look_on.Goals as goal

pub returns-then-is_empty : goal.returns-then-is_empty
returns-then-is_empty c =
    looks_none c.args.limits.now c.args.place c.args.shown.now c.requires.place c.requires.open
    (nil_from_length c.args.shown.now (eqb-true _ _ (sym c.if-is_empty.ensures)))

pub returns-in-Some : goal.returns-in-Some
returns-in-Some c =
    looks_comes c.args.limits.now c.args.place c.args.shown.now c.in-Some.taken (Data c.in-Some.size)
    (open_of c.args.limits.now c.args.place c.requires.open) c.in-Some.ensures.1 c.in-Some.ensures.0 c.in-Some.ensures.2

pub returns-then-reached-gt0 : goal.returns-then-reached-gt0
returns-then-reached-gt0 c =
    looks_comes c.args.limits.now c.args.place c.args.shown.now c.advance-reached.result.taken c.advance-reached.result.place
    (open_of c.args.limits.now c.args.place c.requires.open) (omega arith) c.advance-reached.ensures.within
    c.advance-reached.ensures.comes

pub returns : goal.returns
returns c =
    looks_wrong c.args.limits.now c.args.place c.args.shown.now c.advance-reached.result c.in-Some-wrong.why
    (open_of c.args.limits.now c.args.place c.requires.open) c.advance-reached.ensures
    (omega (arith, c.if-reached-gt0.false)) c.in-Some-wrong.is
