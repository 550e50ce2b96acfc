-- What is no digit is told of as behind a size in an extension.
use Rattle.std.proofs.Common.{ℕ, ◌<◌, inr, Result, Ok, Err}
use Rattle.chunked.specs.Names.{Behind, digit_value, Extension, Limits, Malformed, Place, Size, StepsOver}
use Rattle.chunked.proofs.step.in_size.Goals as goal

as_extension : (l : Limits) (b number room : ℕ) (answer : Result Place Malformed) → ¬ (digit_value b < 16)
    → StepsOver l (Extension Behind number room) b answer → StepsOver l (Size number room) b answer
as_extension l b number room (Ok q) none steps = (inr (none, steps.0.0, steps.0.1), steps.1)
as_extension l b number room (Err why) none steps = inr (none, steps)

pub returns-in-None : goal.returns-in-None
returns-in-None c = λ l. as_extension l c.args.byte c.args.number c.args.room _ c.in-None.ensures.exact (c.in_extension.ensures l)
