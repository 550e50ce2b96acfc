use Rattle.std.proofs.Common.{◌≡◌, length}
use Rattle.redux_script.specs.Script.{step_from}
use Rattle.redux_script.proofs.Script.next.Given as goal

abbrev pub invariant-loop-self : goal.invariant-loop-self
invariant-loop-self l = record {
  step : step_from l.self.interrupts l.self.most l.self.answers.items
      ≡ step_from l.initial.self.interrupts l.initial.self.most l.initial.self.answers.items;
  offers : l.self.offers.items ≡ l.initial.self.offers.items;
}

abbrev pub decreases-loop-self : goal.decreases-loop-self
decreases-loop-self l = length l.self.answers.items
