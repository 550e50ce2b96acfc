-- What is known is handed out at once, and into an empty slice nothing.
use Rattle.std.proofs.Common.{◌<◌, length, rules, arith}
use Rattle.body_reader.specs.BetweenLaws.{EachGave-same, PassesOn-way}
use Rattle.body_reader.proofs.Handing.{hands_after, hands_ended, hands_front, hands_nothing, hands_passed}
use Rattle.body_reader.proofs.steps.read_on.Goals as goal

pub returns-then-is_empty-clause-hands : goal.returns-then-is_empty-clause-hands
returns-then-is_empty-clause-hands g c = hands_nothing _ _ _ _ _ _ _ c.requires.place (search rules)

pub returns-in-Payload-clause-hands : goal.returns-in-Payload-clause-hands
returns-in-Payload-clause-hands g c =
    let room : 0 < length c.read_sure.new.out = search rules in
    hands_passed _ _ _ _ _ _ _ _ _ _ room _ _ c.in-Some.ensures _ _ _ c.read_sure.ensures.hands

pub returns-in-Ended-clause-hands : goal.returns-in-Ended-clause-hands
returns-in-Ended-clause-hands g c = grind (arith, hands_ended, PassesOn-way, EachGave-same)

pub returns-in_default-look-clause-hands : goal.returns-in_default-look-clause-hands
returns-in_default-look-clause-hands g c =
    let room : 0 < length c.read_slowly.new.out = search rules in
    hands_passed _ _ _ _ _ _ _ _ _ _ room _ _ c.in-Some.ensures _ _ _ c.read_slowly.ensures.hands

pub returns-clause-hands : goal.returns-clause-hands
returns-clause-hands g c =
    let finds = c.in_default.ensures in
    let hands = c.hand_out in
    let room : 0 < length hands.new.out = search rules in
    hands_after _ _ _ _ _ _ _ _ _ _ room (PassesOn-way finds.passes) (EachGave-same _ _ finds.passes.told) _ _ _
    (hands_front _ _ _ _ _ _ _ _ _ _ _ hands.ensures.took finds.known finds.none hands.ensures.count room hands.ensures.bytes
    finds.passes.takes.place _ (λ none. finds.all none finds.none))
