use Rattle.body_reader.specs.Between.{LooksNext, spend}
use Rattle.body_reader.proofs.Skipping.{Skipped}
use Rattle.body_reader.proofs.steps.skip.Given as goal

-- the bytes that were taken lead here, and hold no payload; and what comes next was looked at
abbrev pub invariant-loop-look : goal.invariant-loop-look
invariant-loop-look g l = Skipped g.R.TellRead.remaining g.P.ReaderPolicy.rules (g.C.Coding.grammar l.coding)
    l.initial.reader l.initial.progress l.reader l.progress
    × LooksNext (g.C.Coding.grammar l.coding) l.progress.place l.reader.block.bytes l.look

abbrev pub decreases-loop-look : goal.decreases-loop-look
decreases-loop-look g l = spend (g.C.Coding.grammar l.coding) l.progress.place l.reader.block.bytes
