-- Where nothing is due the writer holds whole chunks, which are a body with the end behind them.
use Rattle.std.proofs.Common.{ap, ◌∙◌}
use Rattle.chunked.proofs.Writing.{finishes}
use Rattle.chunked.proofs.writer.ChunkedWriter.end.Goals as goal

pub returns-in-Ok : goal.returns-in-Ok
returns-in-Ok g c =
    finishes g.W.Tell.log g.W.TellWrite.trace g.met.W.TellWrite.trace_none g.met.W.TellWrite.trace_joins _ _ c.self.view_is
    c.self.invariant (ap (λ x. x.due) c.self.view_is ∙ c.requires.between) c.make_space.new.writer c.put_end.new.writer _
    c.requires.lines c.args.len c.requires.len c.in-Ok.ensures c.put_end.ensures.put
