use Rattle.std.proofs.Common.{◌≡◌, ◌≢◌, ◌+◌, ◌<◌, ◌≤◌, ℕ, List, ◌++◌, length, drop}
use Rattle.body_reader.proofs.until.may_begin.Given as goal

-- the delimiter begins nowhere before
abbrev pub invariant-loop-at : goal.invariant-loop-at
invariant-loop-at l = record {
  within : l.at ≤ length l.shown;
  short : l.at ≡ 0 → length l.shown < length l.needle;
  clear : (k : ℕ) → k < l.at → length l.shown < k + length l.needle → (rest : List ℕ) → l.needle ≢ drop k l.shown ++ rest;
}
