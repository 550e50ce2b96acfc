use Rattle.std.proofs.Common.{Ok, map, take}
use Rattle.parts.specs.Sections.{PutsBytes, printed}
use Rattle.parts.proofs.list.put_printed.Given as goal

-- the bytes before were written as they are printed
abbrev pub invariant-loop-byte : goal.invariant-loop-byte
invariant-loop-byte g l = PutsBytes g.W.Tell.log g.W.TellWrite.trace l.initial.target (map printed (take l.byte-index l.text))
    (Ok tt) l.target
