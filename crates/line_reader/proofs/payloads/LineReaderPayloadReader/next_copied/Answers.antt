-- Each arm's answer is the call's own, and its line is lost where memory for the copy is refused.
use Rattle.std.proofs.Common.{Ok, Some, refl, subst, sym}
use Rattle.piece_reader.specs.RunsLaws.{on_err}
use Rattle.line_reader.specs.LinesAlongLaws.{NextLine-err, NextLine-none, NextLine-some}
use Rattle.line_reader.specs.NextLine.{NextLine}
use Rattle.line_reader.proofs.payloads.LineReaderPayloadReader.next_copied.Goals as goal

pub returns-in_err-from_slice-in-Ok-Some-clause-lost : goal.returns-in_err-from_slice-in-Ok-Some-clause-lost
returns-in_err-from_slice-in-Ok-Some-clause-lost g c =
    on_err c.from_residual.result (record {
      payload = c.in-Ok-Some.line.now;
      next = NextLine-some g.R.TellRead.remaining c.args.self.now c.next.follows.lender-at-none _ _ c.in-Ok-Some.line
          c.in-Ok-Some.is c.in-Ok-Some.field-0-is c.next.follows.holds-at-none;
    })

pub returns-in_ok-from_slice-in-Ok-Some-clause-next : goal.returns-in_ok-from_slice-in-Ok-Some-clause-next
returns-in_ok-from_slice-in-Ok-Some-clause-next g c =
    subst (λ l. NextLine g.R.TellRead.remaining c.args.self.now (Ok (Some l)) c.next.follows.lender-at-none)
    (sym c.in_ok-from_slice-in-Ok-Some.ensures.items)
    (NextLine-some _ _ _ _ _ c.in-Ok-Some.line c.in-Ok-Some.is c.in-Ok-Some.field-0-is c.next.follows.holds-at-none)

pub returns-in-Ok-None-clause-next : goal.returns-in-Ok-None-clause-next
returns-in-Ok-None-clause-next g c =
    NextLine-none _ _ _ _ _ c.in-Ok-None.is c.in-Ok-None.field-0-is c.next.follows.holds-at-none

pub returns-in-Err-clause-next : goal.returns-in-Err-clause-next
returns-in-Err-clause-next g c = NextLine-err _ _ _ _ _ _ c.in-Err.is refl c.next.follows.holds-at-none
