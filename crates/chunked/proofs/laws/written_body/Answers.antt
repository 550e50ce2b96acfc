-- What was written since is the chunks, and then the end with the trailers: a body, as `Finishes` says.
use Rattle.chunked.proofs.Written.{written_body}
use Rattle.chunked.proofs.laws.written_body.Goals as goal

pub returns-clause-chunks : goal.returns-clause-chunks
returns-clause-chunks g c = c.get_ref.ensures.whole.whole

pub returns-clause-body : goal.returns-clause-body
returns-clause-body g c = λ first last payload fields wrote limits h lets.
    written_body g.W.Tell.log g.W.TellWrite.trace first payload fields c.args.writer.now last wrote h limits lets
