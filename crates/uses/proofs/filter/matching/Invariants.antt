use Rattle.std.proofs.Common.{◌≡◌, List, ℕ, length}
use Rattle.uses.specs.Filter.{FiltersLines}
use Rattle.uses.proofs.filter.matching.Given as goal

-- just what goes on of the lines so far was accepted
abbrev pub invariant-loop : goal.invariant-loop
invariant-loop g l = record {
  lines : List (List ℕ);
  counted : l.counter ≡ length lines;
  went : FiltersLines g.R.TellRead.remaining g.W.Tell.log g.W.TellWrite.trace l.fn.word lines l.initial.reader l.reader
      l.initial.writer l.writer;
}
