use Rattle.std.proofs.Common.{◌≡◌, ◌^◌, ◌-◌, List, Ok, ℕ, length, min}
use Rattle.parts.specs.Sections.{PutsWanted}
use Rattle.parts.proofs.Putting.{TextSoFar}
use Rattle.parts.proofs.text.take_text.Given as goal

-- what came of the text was counted, and accepted if it is wanted
abbrev pub invariant-loop-piece : goal.invariant-loop-piece
invariant-loop-piece g l = record {
  payload : List ℕ;
  so : TextSoFar g.R.TellRead.remaining l.initial.parts l._piece payload l.parts;
  len : l.len ≡ min (length payload) (2 ^ 64 - 1);
  puts : PutsWanted g.W.Tell.log g.W.TellWrite.trace l.wanted l.initial.target payload (Ok tt) l.target;
}
