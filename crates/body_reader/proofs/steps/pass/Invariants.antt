use Rattle.body_reader.specs.Between.{PassesOn}
use Rattle.body_reader.proofs.steps.pass.Given as goal

-- the bytes that were taken lead here, and hold no payload
abbrev pub invariant-loop-count : goal.invariant-loop-count
invariant-loop-count g l = PassesOn g.R.TellRead.remaining g.P.ReaderPolicy.rules (g.C.Coding.grammar l.coding)
    l.initial.reader l.initial.progress l.reader l.progress

abbrev pub decreases-loop-count : goal.decreases-loop-count
decreases-loop-count g l = (g.C.Coding.grammar l.coding).between l.progress.place
