use Rattle.std.proofs.Common.{◌≡◌, ℕ, List, length}
use Rattle.uses.specs.Tally.{HandsLines}
use Rattle.uses.proofs.tally.count_pieces.Given as goal

-- as many lines were handed out as were counted
abbrev pub invariant-loop-count : goal.invariant-loop-count
invariant-loop-count g l = record {
  lines : List (List ℕ);
  counted : l.count ≡ length lines;
  hands : HandsLines g.R.TellRead.remaining g.P.ReaderPolicy.rules lines l.initial.reader l.reader;
}
