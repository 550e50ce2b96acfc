-- A call asks the stream only where what is left settles nothing, and a skip only where that holds no end.
use Rattle.line_reader.specs.LinesAlongLaws.{NextLine-quiet, NextTrimmed-quiet, SkipsLine-quiet}
use Rattle.line_play.proofs.asks_nobody.Goals as goal

pub returns : goal.returns
returns g c = record {
  next = λ s answer. NextLine-quiet g.R.TellRead.remaining s c.args.reader.now answer;
  trimmed = λ s answer. NextTrimmed-quiet g.R.TellRead.remaining s c.args.reader.now answer;
  skips = λ s answer. SkipsLine-quiet g.R.TellRead.remaining s c.args.reader.now answer;
}
