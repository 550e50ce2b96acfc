use Rattle.std.proofs.Common.{◌≡◌, ℕ, ◌≤◌, ◌+◌, ◌-◌, ◌*◌, ◌^◌}
use Rattle.redux_buffer.specs.Copy.{CopiesOn, MovingRows, faults_met, TakesNothing}
use Rattle.redux_buffer.proofs.copy.copy_buf.Given as goal

abbrev pub invariant-turns : goal.invariant-turns
invariant-turns g l = record {
  copies : CopiesOn l.total (g.B.Tell.log l.initial.b).fills (g.B.Tell.log l.b).fills
      (g.W.Tell.log l.initial.w).writes (g.W.Tell.log l.w).writes;
  few : faults_met (g.B.Tell.log l.b).fills (g.W.Tell.log l.w).writes
      ≤ faults_met (g.B.Tell.log l.initial.b).fills (g.W.Tell.log l.initial.w).writes + 64 * l.total;
  reader : g.B.TellBufRead.trace l.initial.b l.b;
  writer : g.W.TellWrite.trace l.initial.w l.w;
  rows : (count : ℕ) × MovingRows g.B.Tell.log g.W.Tell.log g.B.TellBufRead.trace g.W.TellWrite.trace g.W.TellWrite.call
      count (record { source = l.initial.b; target = l.initial.w }) (record { source = l.b; target = l.w });
  still : TakesNothing g.W.Tell.log g.W.TellWrite.trace g.W.TellWrite.call l.initial.w
      → (g.B.Tell.log l.b).fills.zero_fills ≡ (g.B.Tell.log l.initial.b).fills.zero_fills;
}

abbrev pub decreases-turns : goal.decreases-turns
decreases-turns g l = 2 ^ 64 - l.total
