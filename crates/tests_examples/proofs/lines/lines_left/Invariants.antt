use Rattle.std.proofs.Common.{◌≡◌, ℕ, List, map, length, Ok, Some}
use Rattle.line_reader.specs.Runs.{LineRuns}
use Rattle.tests_examples.proofs.lines.lines_left.Given as goal

-- this many calls of `next` were made, and each handed a line out
abbrev pub invariant-loop-count : goal.invariant-loop-count
invariant-loop-count g l = record {
  lines : List (List ℕ);
  counted : l.count ≡ length lines;
  run : LineRuns g.R.TellRead.remaining l.initial.reader (map (λ line. Ok (Some line)) lines) l.reader;
}
