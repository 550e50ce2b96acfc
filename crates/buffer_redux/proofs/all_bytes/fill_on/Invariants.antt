-- turns filled the slice up to `at`
use Rattle.std.proofs.Common.{ℕ, List, ◌-◌, [], length}
use Rattle.buffer_redux.proofs.ReadAll.{Turned}
use Rattle.buffer_redux.proofs.all_bytes.fill_on.Given as goal

abbrev pub invariant-loop-at : goal.invariant-loop-at
invariant-loop-at g l = record {
  turned : (s : _) (was : List ℕ) → g.R.FillSlice.handed s [] s → g.R.FillSlice.reads s was l.fn.answer l.fn.out l.fn.reader
      → (turns : ℕ) × Turned g.R.FillSlice.reads g.R.FillSlice.handed s was turns l.at l.out l.reader;
}

abbrev pub decreases-loop-at : goal.decreases-loop-at
decreases-loop-at g l = length l.out - l.at
