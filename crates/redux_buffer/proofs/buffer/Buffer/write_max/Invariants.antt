use Rattle.std.proofs.Common.{◌≡◌, ◌<◌, ◌≤◌, ◌+◌, ◌*◌, ℕ, List, length, min}
use Rattle.std.specs.declared.io.Error.{Error}
use Rattle.redux_buffer.specs.Block.{IsBlock}
use Rattle.redux_buffer.specs.Faults.{OnlyInterrupted}
use Rattle.redux_buffer.specs.Transfer.{BeginsRow, Sent}
use Rattle.redux_buffer.proofs.Sending.{WholeWrites}
use Rattle.redux_buffer.proofs.buffer.Buffer.write_max.Given as goal

abbrev pub invariant-loop-left : goal.invariant-loop-left
invariant-loop-left g l = record {
  count : ℕ;
  interrupts : List Error;
  sent : Sent count l.initial.self (g.W.Tell.log l.initial.wrt) l.self (g.W.Tell.log l.wrt);
  rest : count + l.left ≡ min l.fn.max (length l.initial.self.bytes);
  room : l.left ≤ length l.self.bytes;
  only : OnlyInterrupted interrupts (g.W.Tell.log l.initial.wrt).writes (g.W.Tell.log l.wrt).writes;
  few : length interrupts ≤ 64 * count;
  offered : 0 < count → 0 < (g.W.Tell.log l.wrt).writes.offer;
  short : 0 < l.left → WholeWrites 0 (g.W.Tell.log l.initial.wrt).writes (g.W.Tell.log l.wrt).writes;
  last : l.left ≡ 0 → 0 < count → WholeWrites 1 (g.W.Tell.log l.initial.wrt).writes (g.W.Tell.log l.wrt).writes;
  untouched : count ≡ 0 → (l.wrt ≡ l.initial.wrt) × (l.self ≡ l.initial.self);
  trace : g.W.TellWrite.trace l.initial.wrt l.wrt;
  begins : BeginsRow g.W.Tell.log g.W.TellWrite.trace l.initial.wrt l.wrt;
  whole : IsBlock l.self;
}

abbrev pub decreases-loop-left : goal.decreases-loop-left
decreases-loop-left g l = l.left
