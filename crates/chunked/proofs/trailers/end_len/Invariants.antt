use Rattle.std.proofs.Common.{◌≡◌, ◌+◌, ◌-◌, ◌^◌, length, min, take}
use Rattle.chunked.specs.Names.{AllByRecursion, IsTrailer, lines_of}
use Rattle.chunked.proofs.Fields.{front}
use Rattle.chunked.proofs.trailers.end_len.Given as goal

-- the lines so far are such, and counted with the last chunk and an empty line
abbrev pub invariant-loop-i : goal.invariant-loop-i
invariant-loop-i l = record {
  lines : AllByRecursion IsTrailer (take l.i (lines_of l.fields));
  counted : l.len ≡ min (length (front (take l.i (lines_of l.fields))) + 2) (2 ^ 64 - 1);
}
