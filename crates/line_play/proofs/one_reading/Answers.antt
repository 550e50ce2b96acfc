-- No line is longer than its text, so its lines are pieces of it, and a text is cut into pieces in one way.
use Rattle.line_reader.specs.TextLaws.{Lines-same}
use Rattle.line_play.proofs.one_reading.Goals as goal

pub returns : goal.returns
returns c = Lines-same
