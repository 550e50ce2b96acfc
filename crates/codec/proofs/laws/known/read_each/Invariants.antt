use Rattle.std.proofs.Common.{map, drop}
use Rattle.codec.proofs.Stepping.{ReadsAll}
use Rattle.codec.proofs.laws.known.read_each.Given as goal

abbrev pub invariant-loop : goal.invariant-loop
invariant-loop g l = ReadsAll g.P.KnownReader.has_left g.P.KnownReader.faults g.P.PayloadReader.plays l.fn.reader
    (map (λ v. v.items) l.fn.payloads) (map (λ v. v.items) l.kept.items) (map (λ v. v.items) (drop l.index l.payloads))
    l.reader
