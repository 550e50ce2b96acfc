use Rattle.std.proofs.Common.{◌-◌, length}
use Rattle.buffer_redux.proofs.AheadSteps.{AheadTurns}
use Rattle.buffer_redux.proofs.buf_reader.BufReader.read_ahead_slowly.Given as goal

abbrev pub invariant-loop-self : goal.invariant-loop-self
invariant-loop-self g l = record {
  turns : AheadTurns g.R.TellRead.remaining g.P.ReaderPolicy.rules l.n l.initial.self l.self;
}

abbrev pub decreases-loop-self : goal.decreases-loop-self
decreases-loop-self g l = l.n - length l.self.block.bytes
