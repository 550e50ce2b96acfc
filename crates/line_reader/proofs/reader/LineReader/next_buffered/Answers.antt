-- The stream wasn't asked, and the line isn't the last one, so it stood in what was left with its end.
use Rattle.std.proofs.Common.{Some, refl, subst, sym}
use Rattle.line_reader.specs.NextLine.{NextBufferedLine}
use Rattle.line_reader.proofs.Fronts.{NextBufferedLine-there}
use Rattle.line_reader.proofs.reader.LineReader.next_buffered.Goals as goal

pub returns-in-Some : goal.returns-in-Some
returns-in-Some g c =
    let remaining = g.R.TellRead.remaining in
    let s = c.args.self.now in
    let t = c.step_buffered.new.self in
    let line = c.lent.result.now in
    let next : NextBufferedLine remaining s (Some line) t =
    subst (λ l. NextBufferedLine remaining s (Some l) t) (sym c.lent.ensures) c.in-Some.ensures.next in (
      (refl, (λ _. tt), next),
      record { front = NextBufferedLine-there remaining s t line c.in-Some.ensures.going next; after_borrow = tt },
    )
