-- Memory is refused only for a copy of a line, so the call that is lost handed one out.
use Rattle.std.proofs.Common.{Ok, Some, arith, sym}
use Rattle.line_reader.specs.Calls.{Nexts, NextsBuffered, NextsTrimmed}
use Rattle.piece_reader.specs.RunsLaws.{on_err}
use Rattle.line_play.proofs.calls.play_one.Goals as goal

pub returns-in_err-next_copied-in-Next-clause-lost : goal.returns-in_err-next_copied-in-Next-clause-lost
returns-in_err-next_copied-in-Next-clause-lost g c =
    let lost = c.in_err-next_copied-in-Next.ensures.lost in
    on_err c.from_residual.result
    (Nexts (Ok (Some lost.payload)), record { asked = sym c.in-Next.is; goes = lost.next }, omega arith)

pub returns-in_err-trimmed_copied-in-NextTrimmed-clause-lost :
    goal.returns-in_err-trimmed_copied-in-NextTrimmed-clause-lost
returns-in_err-trimmed_copied-in-NextTrimmed-clause-lost g c =
    let lost = c.in_err-trimmed_copied-in-NextTrimmed.ensures.lost in
    on_err c.from_residual-in_err-trimmed_copied-in-NextTrimmed.result
    (NextsTrimmed (Ok (Some lost.payload)), record { asked = sym c.in-NextTrimmed.is; goes = lost.next }, omega arith)

pub returns-in_err-buffered_copied-in-NextBuffered-clause-lost :
    goal.returns-in_err-buffered_copied-in-NextBuffered-clause-lost
returns-in_err-buffered_copied-in-NextBuffered-clause-lost g c =
    let lost = c.in_err-buffered_copied-in-NextBuffered.ensures.lost in
    on_err c.from_residual-in_err-buffered_copied-in-NextBuffered.result
    (NextsBuffered (Some lost.0), record { asked = sym c.in-NextBuffered.is; goes = lost.1 }, omega arith)
