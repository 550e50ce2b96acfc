use Rattle.std.proofs.Common.{◌≡◌, length}
use Rattle.std.specs.List.{list_all}
use Rattle.messages.specs.Names.{elements, is_expected}
use Rattle.messages.proofs.expect.are_expected.Given as goal

-- those before are so
abbrev pub invariant-loop-comma : goal.invariant-loop-comma
invariant-loop-comma l = list_all is_expected (elements l.rest) ≡ list_all is_expected (elements l.fn.value)

abbrev pub decreases-loop-comma : goal.decreases-loop-comma
decreases-loop-comma l = length l.rest
