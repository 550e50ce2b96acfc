-- What is said of input that is wrong.
use Rattle.std.proofs.Common.{◌≤◌, ℕ, List, lit≤}
use Rattle.std.specs.Prelude.{codes}
use Rattle.frames.specs.declared.fault.InputFault.{InputFault}
use Rattle.frames.specs.declared.fault.InputFault.TheVariants.{TooLong, Truncated}

-- the status that the process ends with
abbrev pub status_of : InputFault → ℕ
status_of TooLong = 4
status_of Truncated = 5

pub status_own : (fault : InputFault) → 4 ≤ status_of fault
status_own TooLong = lit≤ tt
status_own Truncated = lit≤ tt

-- what is printed behind the program's name
abbrev pub text_of : InputFault → List ℕ
text_of TooLong = codes "a line or a frame has more than 65535 bytes"
text_of Truncated = codes "the input ends within a frame"
