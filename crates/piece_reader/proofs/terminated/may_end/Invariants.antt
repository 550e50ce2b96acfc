use Rattle.std.proofs.Common.{◌≢◌, ◌+◌, ◌<◌, ℕ, List, ◌++◌, length, drop}
use Rattle.piece_reader.proofs.terminated.may_end.Given as goal

-- from no place before on are the bytes the front of the end
abbrev pub invariant-loop-at : goal.invariant-loop-at
invariant-loop-at l = record {
  short : length l.bytes < l.at + length l.end;
  clear : (k : ℕ) → k < l.at → length l.bytes < k + length l.end → (rest : List ℕ) → l.end ≢ drop k l.bytes ++ rest;
}
