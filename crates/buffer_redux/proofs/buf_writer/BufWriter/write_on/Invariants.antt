-- turns took the bytes before `at` in
use Rattle.std.proofs.Common.{ℕ, ◌-◌, length}
use Rattle.buffer_redux.specs.Buffered.{Buffered}
use Rattle.buffer_redux.specs.WriteAll.{OneWrite}
use Rattle.buffer_redux.proofs.WriteAll.{Turned}
use Rattle.buffer_redux.proofs.buf_writer.BufWriter.write_on.Given as goal

abbrev pub invariant-loop-at : goal.invariant-loop-at
invariant-loop-at g l = record {
  turned : (s : Buffered g.row.W.Denot g.row.P.Denot)
      → OneWrite g.W.Tell.log g.W.TellWrite.trace g.P.WriterPolicy.rules l.bytes s l.fn.answer l.fn.self
      → (turns : ℕ) × Turned g.W.Tell.log g.W.TellWrite.trace g.P.WriterPolicy.rules s l.bytes turns l.at l.self;
}

abbrev pub decreases-loop-at : goal.decreases-loop-at
decreases-loop-at g l = length l.bytes - l.at
