use Rattle.std.proofs.Common.{◌≡◌, ℕ, ◌+◌, ◌≤◌}
use Rattle.std.specs.Io.Iter.{u64_saturate}
use Rattle.buffer_redux.specs.Copy.{CopiesOn, faults_met}
use Rattle.uses.specs.Progress.{Reports}
use Rattle.uses.proofs.progress.copy_with_progress.Given as goal

-- the bytes that went over were counted, and the callback was told how many
abbrev pub invariant-loop : goal.invariant-loop
invariant-loop g l = record {
  count : ℕ;
  copies : CopiesOn count (g.B.Tell.log l.initial.from).fills (g.B.Tell.log l.from).fills
      (g.W.Tell.log l.initial.to).writes (g.W.Tell.log l.to).writes;
  total : l.total ≡ u64_saturate count;
  calls : ℕ;
  made : (g.B.Tell.log l.from).fills.consumes ≡ (g.B.Tell.log l.initial.from).fills.consumes + calls;
  none : faults_met (g.B.Tell.log l.from).fills (g.W.Tell.log l.to).writes
      ≡ faults_met (g.B.Tell.log l.initial.from).fills (g.W.Tell.log l.initial.to).writes;
  turns : l.counter ≤ count;
  told : Reports (λ p n q. goal.F-step g p n tt q) l.fn.report calls (u64_saturate count) l.report;
  reader : g.B.TellBufRead.trace l.initial.from l.from;
  writer : g.W.TellWrite.trace l.initial.to l.to;
}
