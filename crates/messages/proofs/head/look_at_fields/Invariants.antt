use Rattle.std.proofs.Common.{IsTrue}
use Rattle.messages.specs.Names.{is_met, IsPlainField}
use Rattle.messages.proofs.Spans.{SoFar}
use Rattle.messages.proofs.head.look_at_fields.Given as goal

-- those before are so, or one is not
abbrev pub invariant-loop-span : goal.invariant-loop-span
invariant-loop-span l = record {
  hosts : SoFar IsPlainField l.head l.spans l.span-index l.hosts;
  met : SoFar (λ h. IsTrue (is_met h)) l.head l.spans l.span-index l.met;
}
