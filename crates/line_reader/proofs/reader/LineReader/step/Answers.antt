-- A call behind a look that found no line is what it would have been before the look.
use Rattle.line_reader.proofs.Going.{NextLine-found, NextLine-looked}
use Rattle.line_reader.proofs.reader.LineReader.step.Goals as goal

pub returns-in-Some-clause-next : goal.returns-in-Some-clause-next
returns-in-Some-clause-next g c = NextLine-found _ _ _ _ c.in-Some.ensures.next

pub returns-in-None-clause-next : goal.returns-in-None-clause-next
returns-in-None-clause-next g c =
    NextLine-looked _ _ _ _ _ c.step_buffered.ensures.before c.in-None.ensures.next c.load.ensures.next
