use Rattle.std.proofs.Common.{◌≡◌, length, false}
use Rattle.part_fields.specs.Fields.{first_said}
use Rattle.part_fields.proofs.fields.first_said.Given as goal

-- no place before says anything
abbrev pub invariant-loop-rest : goal.invariant-loop-rest
invariant-loop-rest l = first_said l.sought l.name false l.text ≡ first_said l.sought l.name l.quoted l.rest

abbrev pub decreases-loop-rest : goal.decreases-loop-rest
decreases-loop-rest l = length l.rest
