use Rattle.std.proofs.Common.{◌≡◌}
use Rattle.buffer_redux.specs.LineWriter.{line_rules}
use Rattle.codec.specs.WriteEachLaws.{WroteSo}
use Rattle.codec.specs.WriteRuns.{CallRuns}
use Rattle.line_play.specs.WrittenLines.{WritesLine}
use Rattle.line_play.proofs.lists.write_each.Given as goal

-- the lines so far were written
abbrev pub invariant-loop-line : goal.invariant-loop-line
invariant-loop-line g l =
    WroteSo (CallRuns (WritesLine g.W.Tell.log g.W.TellWrite.trace line_rules)) (λ _ _. Unit {0}) l.fn.writer l.lines l.line-index
    l.writer × (l.taken ≡ l.line-index)
