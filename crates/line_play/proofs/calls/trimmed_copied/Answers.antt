-- Where the stream ended nothing is copied, and the call's answer is handed on as it is.
use Rattle.line_reader.specs.LinesAlongLaws.{NextTrimmed-none}
use Rattle.line_play.proofs.calls.trimmed_copied.Goals as goal

pub returns-in-Ok-None-clause-next : goal.returns-in-Ok-None-clause-next
returns-in-Ok-None-clause-next g c =
    NextTrimmed-none _ _ _ _ _ c.in-Ok-None.is c.in-Ok-None.field-0-is c.next_trimmed.follows.holds-at-none
