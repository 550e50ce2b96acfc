use Rattle.std.proofs.Common.{◌+◌, ◌-◌, ◌^◌, length}
use Rattle.buffer_redux.specs.ReadUntil.{Lacks}
use Rattle.buffer_redux.proofs.HandSteps.{Handed}
use Rattle.buffer_redux.proofs.buf_reader.BufReader.hand_until.Given as goal

abbrev pub invariant-fills : goal.invariant-fills
invariant-fills g l = record {
  handed : Handed g.R.TellRead.remaining g.P.ReaderPolicy.rules g.K.Sink.rules l.byte l.initial.self l.initial.sink l.self
      l.sink;
  behind : Lacks l.byte l.self.block.bytes;
}

abbrev pub decreases-fills : goal.decreases-fills
decreases-fills g l = 2 ^ 65 - (g.K.Sink.rules.held l.sink + length l.self.block.bytes)
