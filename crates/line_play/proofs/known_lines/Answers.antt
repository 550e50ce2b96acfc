-- Each call takes the first of the lines that are left, and a new reader leaves all that its stream has.
use Rattle.line_reader.specs.KnownCallsLaws.{Calls-takes, LeavesBehind-fresh}
use Rattle.line_play.proofs.known_lines.Goals as goal

pub returns : goal.returns
returns g c = record {
  took = λ s before lines calls behind run.
      Calls-takes g.R.TellRead.remaining s calls c.args.reader.now run before lines behind;
  fresh = λ least most stream first text lines.
      LeavesBehind-fresh g.R.TellRead.remaining _ least most stream first text lines;
}
