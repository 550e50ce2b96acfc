use Rattle.std.proofs.Common.{◌≡◌, ◌≤◌, [], ◌++◌, drop, length}
use Rattle.chunked.specs.Names.{digits_of, line_end, size_digits}
use Rattle.chunked.proofs.chunk.SizeLine.new.Given as goal

-- the digits of what is left, and then those that stand already
abbrev pub invariant-loop-left : goal.invariant-loop-left
invariant-loop-left l = record {
  written : size_digits l.left ++ drop l.start l.bytes ≡ size_digits l.size ++ line_end [];
  room : length (digits_of 16 l.left) ≤ l.start;
  start : l.start ≤ 16;
  size : length l.bytes ≡ 18;
}

abbrev pub decreases-loop-left : goal.decreases-loop-left
decreases-loop-left l = l.left
