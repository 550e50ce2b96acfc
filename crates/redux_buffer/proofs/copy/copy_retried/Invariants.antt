use Rattle.std.proofs.Common.{◌≡◌, ◌+◌}
use Rattle.redux_buffer.specs.Copy.{CopiesOn, CopyStep, faults_met, TakesNothing}
use Rattle.redux_buffer.specs.Retried.{InterruptedSteps}
use Rattle.redux_buffer.proofs.copy.copy_retried.Given as goal

abbrev pub invariant-loop : goal.invariant-loop
invariant-loop g l = record {
  row : InterruptedSteps (CopyStep g.B.Tell.log g.W.Tell.log g.B.TellBufRead.trace g.W.TellWrite.trace g.W.TellWrite.call)
      l.counter (record { source = l.initial.b; target = l.initial.w }) (record { source = l.b; target = l.w });
  copies : CopiesOn 0 (g.B.Tell.log l.initial.b).fills (g.B.Tell.log l.b).fills
      (g.W.Tell.log l.initial.w).writes (g.W.Tell.log l.w).writes;
  faults : faults_met (g.B.Tell.log l.initial.b).fills (g.W.Tell.log l.initial.w).writes + l.counter
      ≡ faults_met (g.B.Tell.log l.b).fills (g.W.Tell.log l.w).writes;
  reader : g.B.TellBufRead.trace l.initial.b l.b;
  writer : g.W.TellWrite.trace l.initial.w l.w;
  still : TakesNothing g.W.Tell.log g.W.TellWrite.trace g.W.TellWrite.call l.initial.w
      → (g.B.Tell.log l.b).fills.zero_fills ≡ (g.B.Tell.log l.initial.b).fills.zero_fills;
}
