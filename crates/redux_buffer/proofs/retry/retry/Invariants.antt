use Rattle.std.proofs.Common.{Err}
use Rattle.redux_buffer.specs.Retried.{InterruptedSteps}
use Rattle.redux_buffer.proofs.retry.retry.Given as goal

-- behind calls that were interrupted the last one failed
abbrev pub invariant-loop : goal.invariant-loop
invariant-loop g l = record {
  failed : (s : _) → g.A.Attempt.step l.fn.call s (Err l.fn.e) l.initial.state → (m : _)
      × InterruptedSteps (g.A.Attempt.step l.fn.call) l.counter s m × g.A.Attempt.step l.fn.call m (Err l.last) l.state;
  may : g.A.Attempt.may l.fn.call l.state;
}
