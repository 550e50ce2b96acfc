-- What is handed out next follows what was so far, and where none is known none is shown.
use Rattle.std.proofs.Common.{arith, refl}
use Rattle.body_reader.proofs.Showing.{full_shown, none_shown, rest_kept, shown_more, shown_none}
use Rattle.body_reader.proofs.steps.hand_buffered.Goals as goal

pub loop-handed-init : goal.loop-handed-init
loop-handed-init g c = (shown_none _ _ _ _ _ _ _ c.requires.place c.requires.known, refl)

pub returns-in-Some-clause-hands : goal.returns-in-Some-clause-hands
returns-in-Some-clause-hands g c =
    let finds = c.in-Some.ensures in
    none_shown _ _ _ _ _ _ _ _ _ _ _ c.loop-handed.invariant.0 (omega (arith, c.loop-handed-test.true)) _ _ _ _ finds
    finds.none.0 finds.none.1 finds.none.3

pub loop-handed-preserved : goal.loop-handed-preserved
loop-handed-preserved g c =
    let finds = c.in_default.ensures in
    let hands = c.hand_out-handed in (
      shown_more _ _ _ _ _ _ _ _ _ _ _ c.loop-handed.invariant.0 (omega (arith, c.loop-handed-test.true)) _ _ _ _ finds _ _ _ _ _
          (omega (arith, hands.ensures.count, finds.none, c.loop-handed-test.true, hands.auto.out)) hands.ensures.count
          hands.ensures.bytes hands.ensures.took,
      rest_kept _ _ _ _ _ c.loop-handed.invariant.0.within c.loop-handed.invariant.1 hands.ensures.rest,
    )

pub returns-clause-hands : goal.returns-clause-hands
returns-clause-hands g c = full_shown _ _ _ _ _ _ _ _ _ _ _ c.loop-handed.invariant.0 (omega (arith, c.loop-handed-test.false))
