use Rattle.std.proofs.Common.{◌≡◌, ◌⊎◌, List, [], Ok}
use Rattle.body_reader.specs.BodyReader.{TookWholeBody, handed_of}
use Rattle.multipart.specs.Multipart.{codes}
use Rattle.parts.specs.Sections.{PutsBytes, Turn, list_lines}
use Rattle.parts.proofs.Parts.{PartsSoFar}
use Rattle.parts.proofs.list.list.Given as goal

-- each turn passed one part, and wrote its line
abbrev pub invariant-loop-part : goal.invariant-loop-part
invariant-loop-part g l = record {
  turns : List Turn;
  so : PartsSoFar l.initial.parts l._part turns l.parts;
  ended : (turns ≡ []) ⊎ TookWholeBody (codes l.initial.parts.body.coding) l.parts.body;
  puts : PutsBytes g.W.Tell.log g.W.TellWrite.trace l.initial.target (list_lines turns (handed_of l.parts.body)) (Ok tt)
      l.target;
}
