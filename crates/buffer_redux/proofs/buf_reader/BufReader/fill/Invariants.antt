use Rattle.std.proofs.Common.{◌≡◌, ℕ, ◌-◌, ◌^◌, length}
use Rattle.buffer_redux.specs.BufReader.{InnerGives}
use Rattle.buffer_redux.specs.Fill.{Turns}
use Rattle.buffer_redux.proofs.buf_reader.BufReader.fill.Given as goal

-- the turns so far, and what they took from the reader inside
abbrev pub invariant-loop-self : goal.invariant-loop-self
invariant-loop-self g l = record {
  count : ℕ;
  turns : Turns g.P.ReaderPolicy.rules count l.initial.self l.self;
  noted : l.self.own_calls ≡ l.initial.self.own_calls;
  known : InnerGives g.R.TellRead.remaining l.initial.self l.self;
}

abbrev pub decreases-loop-self : goal.decreases-loop-self
decreases-loop-self g l = 2 ^ 62 - length l.self.block.bytes
