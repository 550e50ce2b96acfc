use Rattle.std.proofs.Common.{◌≡◌, List}
use Rattle.parts.specs.Sections.{NoneNamed, Turn}
use Rattle.parts.proofs.Parts.{PartsSoFar}
use Rattle.parts.proofs.get.get.Given as goal

-- each turn passed one part, of another name
abbrev pub invariant-loop-part : goal.invariant-loop-part
invariant-loop-part g l = record {
  turns : List Turn;
  so : PartsSoFar l.initial.parts l._part turns l.parts;
  none : NoneNamed l.name turns;
  still : l.target ≡ l.initial.target;
}
