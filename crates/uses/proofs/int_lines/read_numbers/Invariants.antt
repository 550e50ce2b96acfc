use Rattle.std.proofs.Common.{ℕ, List, ◌++◌, vec_items}
use Rattle.std.specs.Io.Iter.{lines_known_bytes}
use Rattle.uses.specs.IntLines.{AreKnownNumbers}
use Rattle.uses.proofs.int_lines.read_numbers.Given as goal

-- whatever numbers the rest has, those behind the ones so far are the numbers of all
abbrev pub invariant-loop-turn : goal.invariant-loop-turn
invariant-loop-turn g l = (rest : List ℕ) → AreKnownNumbers (lines_known_bytes g.R.Read.remaining l.lines) rest
    → AreKnownNumbers (g.R.Read.remaining l.fn.reader) (vec_items l.numbers ++ rest)
