use Rattle.std.proofs.Common.{◌≡◌, ◌-◌, drop, length}
use Rattle.body_reader.proofs.Showing.{Shown}
use Rattle.body_reader.proofs.steps.hand_buffered.Given as goal

-- so much was handed out so far, and behind that the slice is as it was
abbrev pub invariant-loop-handed : goal.invariant-loop-handed
invariant-loop-handed g l = Shown g.R.TellRead.remaining g.P.ReaderPolicy.rules (g.C.Coding.grammar l.coding)
    l.initial.reader l.initial.progress l.initial.known l.out l.handed l.reader l.progress l.known
    × (drop l.handed l.out ≡ drop l.handed l.initial.out)

abbrev pub decreases-loop-handed : goal.decreases-loop-handed
decreases-loop-handed g l = length l.out - l.handed
