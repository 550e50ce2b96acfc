-- What is said of input that is wrong.
use Rattle.std.proofs.Common.{◌≤◌, ℕ, List, ◌++◌, lit≤}
use Rattle.std.specs.Prelude.{codes}
use Rattle.std.specs.Fmt.{decimal}
use Rattle.chunked.specs.Error.{malformed_text}
use Rattle.bodies.specs.Words.{InputFault}
use Rattle.bodies.specs.declared.fault.InputFault.TheVariants.{NotChunked, Truncated, Behind}

-- the status that the process ends with
abbrev pub status_of : InputFault → ℕ
status_of (NotChunked why right) = 4
status_of (Truncated right) = 5
status_of (Behind right) = 6

pub status_own : (fault : InputFault) → 4 ≤ status_of fault
status_own (NotChunked why right) = lit≤ tt
status_own (Truncated right) = lit≤ tt
status_own (Behind right) = lit≤ tt

-- what is printed behind the program's name
abbrev pub text_of : InputFault → List ℕ
text_of (NotChunked why right) = malformed_text why ++ codes ", behind " ++ decimal right ++ codes " bytes of a body"
text_of (Truncated right) = codes "the input ends after " ++ decimal right ++ codes " bytes of a body"
text_of (Behind right) = codes "the input goes on behind a body of " ++ decimal right ++ codes " bytes"
