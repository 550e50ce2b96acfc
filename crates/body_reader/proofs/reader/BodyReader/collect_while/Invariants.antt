use Rattle.std.proofs.Common.{◌-◌, ◌≤◌, length, vec_capacity, vec_items}
use Rattle.body_reader.proofs.Collecting.{Collected}
use Rattle.body_reader.proofs.reader.BodyReader.collect_while.Given as goal

-- what came so far was collected, and the room for it is no less
abbrev pub invariant-loop-came : goal.invariant-loop-came
invariant-loop-came g l = Collected g.R.TellRead.remaining g.P.ReaderPolicy.rules (g.C.Coding.grammar l.initial.self.coding)
    (g.A.Allows.allowed l.allows) l.most l.initial.self (vec_items l.initial.out) l.self (vec_items l.out)
    × (vec_capacity l.initial.out ≤ vec_capacity l.out)

abbrev pub decreases-loop-came : goal.decreases-loop-came
decreases-loop-came g l = l.most - length (vec_items l.out)
