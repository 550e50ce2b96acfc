-- Where memory for the copy is refused the call was made, and its line is the one that is lost.
use Rattle.std.proofs.Common.{option_copied, subst}
use Rattle.line_reader.specs.NextLine.{NextBufferedLine}
use Rattle.piece_reader.specs.RunsLaws.{on_err}
use Rattle.line_play.proofs.calls.buffered_copied.Goals as goal

pub returns-in_err-from_slice-in-Some-clause-lost : goal.returns-in_err-from_slice-in-Some-clause-lost
returns-in_err-from_slice-in-Some-clause-lost g c = on_err c.from_residual.result (
  c.in-Some.line.now,
  subst (λ found. NextBufferedLine g.R.TellRead.remaining c.args.reader.now (option_copied found)
      c.next_buffered.follows.lender-at-none) c.in-Some.is c.next_buffered.follows.holds-at-none,
)
