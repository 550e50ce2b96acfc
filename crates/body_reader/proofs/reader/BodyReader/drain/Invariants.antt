use Rattle.body_reader.proofs.Draining.{Dropped}
use Rattle.body_reader.proofs.reader.BodyReader.drain.Given as goal

-- each piece so far was dropped
abbrev pub invariant-loop-piece : goal.invariant-loop-piece
invariant-loop-piece g l = Dropped g.R.TellRead.remaining g.P.ReaderPolicy.rules (g.C.Coding.grammar l.initial.self.coding)
    l.initial.self l._piece l.self
