-- How a run ends, and what the program says of input that is wrong.
use Rattle.std.proofs.Common.{◌≡◌, ◌≤◌, ℕ, List, Result, Ok, Err, lit≤}
use Rattle.std.specs.Prelude.{codes}
use Rattle.body_reader.specs.declared.error.BodyError.TheVariants as body
use Rattle.multipart.specs.declared.error.PartError.{PartError}
use Rattle.multipart.specs.declared.error.PartError.TheVariants as part
use Rattle.programs.specs.Outcome.{FaultEnds}
use Rattle.programs.specs.declared.ending.Ending.TheVariants.{Done, Failed, ReadFailed, WriteFailed, Memory}
use Rattle.programs.specs.declared.outcome.Outcome.{Outcome}
use Rattle.programs.specs.declared.outcome.Outcome.TheVariants.{Usual, Wrong}
use Rattle.parts.specs.declared.ending.InputFault.{InputFault}
use Rattle.parts.specs.declared.ending.InputFault.TheVariants.{Boundary, LongHead, ManyParts, Truncated, Missing}
use Rattle.parts.specs.declared.error.RunError.{RunError}
use Rattle.parts.specs.declared.error.RunError.TheVariants as Why

-- how a run ends in which no part came for this reason
abbrev pub PartEndsAs : PartError → Outcome InputFault → Type 0
PartEndsAs part.Truncated outcome = outcome ≡ Wrong Truncated
PartEndsAs (part.Io e) outcome = FaultEnds ReadFailed e outcome
PartEndsAs part.Boundary outcome = outcome ≡ Wrong Boundary
PartEndsAs part.LongHead outcome = outcome ≡ Wrong LongHead
PartEndsAs part.ManyParts outcome = outcome ≡ Wrong ManyParts
PartEndsAs part.Memory outcome = outcome ≡ Usual Memory

-- how a run ends that returned this
abbrev pub EndsAs : Result (Unit {0}) RunError → Outcome InputFault → Type 0
EndsAs (Ok _) outcome = outcome ≡ Usual Done
EndsAs (Err (Why.Parts e)) outcome = PartEndsAs e outcome
EndsAs (Err (Why.Body (body.Wrong why right))) outcome = outcome ≡ Wrong Truncated
EndsAs (Err (Why.Body (body.Truncated right))) outcome = outcome ≡ Wrong Truncated
EndsAs (Err (Why.Body (body.Io e))) outcome = FaultEnds ReadFailed e outcome
EndsAs (Err (Why.Write e)) outcome = FaultEnds WriteFailed e outcome
EndsAs (Err Why.Missing) outcome = outcome ≡ Wrong Missing
EndsAs (Err Why.Many) outcome = outcome ≡ Usual Failed

-- the status that the process ends with
abbrev pub status_of : InputFault → ℕ
status_of Boundary = 4
status_of LongHead = 4
status_of ManyParts = 4
status_of Truncated = 5
status_of Missing = 6

pub status_own : (fault : InputFault) → 4 ≤ status_of fault
status_own Boundary = lit≤ tt
status_own LongHead = lit≤ tt
status_own ManyParts = lit≤ tt
status_own Truncated = lit≤ tt
status_own Missing = lit≤ tt

-- what is printed behind the program's name
abbrev pub text_of : InputFault → List ℕ
text_of Boundary = codes "a boundary is not alone in its line, or in a head"
text_of LongHead = codes "the head of a part is too long"
text_of ManyParts = codes "there are too many parts"
text_of Truncated = codes "the input ends within the body"
text_of Missing = codes "no part has this name"
