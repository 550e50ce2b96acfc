use Rattle.replay.specs.Answers.{CountsUp}
use Rattle.replay.proofs.play.counting.Given as goal

abbrev pub invariant-loop-i : goal.invariant-loop-i
invariant-loop-i l = CountsUp l.first l.i l.bytes.items
