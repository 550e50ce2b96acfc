-- A new reader stands before a line, none of which has gone, so what its calls took is cut at ends of lines.
use Rattle.std.proofs.Common.{[], refl}
use Rattle.line_reader.specs.CallsLaws.{no_line}
use Rattle.line_reader.specs.CallsWentLaws.{Calls-went}
use Rattle.line_play.proofs.whole_lines.Goals as goal

pub returns : goal.returns
returns g c = record {
  went = λ least greatest stream first calls fresh whole run.
      Calls-went g.R.TellRead.remaining first calls _ run [] no_line (λ _. refl) whole;
}
