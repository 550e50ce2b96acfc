-- What is known stays so with nothing done; else the step's clause, read through the reader's view.
use Rattle.std.proofs.Common.{arith}
use Rattle.body_reader.proofs.Payload.{fill_known, filled, not_filled}
use Rattle.body_reader.proofs.reader.BodyReader.fill_payload.Goals as goal

pub returns-then-self-gt0-clause-fills : goal.returns-then-self-gt0-clause-fills
returns-then-self-gt0-clause-fills g c = rw (← c.self.view_is) (fill_known _ _ _ _ c.self.invariant c.if-self-gt0.true)

pub invariant_of-self : goal.invariant_of-self
invariant_of-self g c = (filled _ _ _ (g.met.C.Coding.lawful _) _ _ _ _ _ c.self.invariant (omega (arith, c.if-self-gt0.false))
    _ _ _ c.in-Ok.ensures).whole

pub invariant_of-self-in-Err : goal.invariant_of-self-in-Err
invariant_of-self-in-Err g c = (not_filled _ _ _ (g.met.C.Coding.lawful _) _ _ _ _ _ c.self.invariant
    (omega (arith, c.if-self-gt0.false)) _ _ _ c.in-Err.ensures).whole

pub returns-in-Ok-clause-fills : goal.returns-in-Ok-clause-fills
returns-in-Ok-clause-fills g c = rw (← c.self.view_is) (filled _ _ _ (g.met.C.Coding.lawful _) _ _ _ _ _ c.self.invariant
    (omega (arith, c.if-self-gt0.false)) _ _ _ c.in-Ok.ensures)

pub returns-in-Ok-clause-count : goal.returns-in-Ok-clause-count
returns-in-Ok-clause-count g c =
    let fills = filled _ _ _ (g.met.C.Coding.lawful _) _ _ _ _ _ c.self.invariant (omega (arith, c.if-self-gt0.false)) _ _
    c.in-Ok.known c.in-Ok.ensures in
    rw (← c.self.view_is) (fills.answers.0, fills.answers.2)

pub returns-in-Err-clause-fills : goal.returns-in-Err-clause-fills
returns-in-Err-clause-fills g c = rw (← c.self.view_is) (not_filled _ _ _ (g.met.C.Coding.lawful _) _ _ _ _ _ c.self.invariant
    (omega (arith, c.if-self-gt0.false)) _ _ _ c.in-Err.ensures)
