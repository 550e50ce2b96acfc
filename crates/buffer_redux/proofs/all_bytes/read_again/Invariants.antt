-- behind reads that were interrupted the last one failed
use Rattle.std.proofs.Common.{ℕ, List, Err}
use Rattle.redux_buffer.specs.Retried.{InterruptedSteps}
use Rattle.buffer_redux.specs.ReadAll.{SliceStep}
use Rattle.buffer_redux.proofs.all_bytes.read_again.Given as goal

abbrev pub invariant-loop : goal.invariant-loop
invariant-loop g l = record {
  failed : (s : _) (was : List ℕ) → g.R.FillSlice.reads s was (Err l.fn.e) l.fn.out l.fn.reader → (m : _)
      × InterruptedSteps (SliceStep g.R.FillSlice.reads) l.counter (s, was) m
      × SliceStep g.R.FillSlice.reads m (Err l.last) (l.reader, l.out);
}
