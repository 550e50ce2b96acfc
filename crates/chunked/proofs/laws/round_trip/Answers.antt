-- What was written is a body with this payload, and of a body that is given a reader hands out just the payload.
use Rattle.chunked.specs.ChunkLaws.{chunks_body}
use Rattle.chunked.proofs.Written.{written_body}
use Rattle.chunked.proofs.laws.round_trip.Goals as goal

pub returns-clause-front : goal.returns-clause-front
returns-clause-front g c = λ chunks behind rest carried line same.
    c.given_body.ensures.front _ _ behind rest (chunks_body c.args.reader.now.coding.0 line chunks carried) same

pub returns-clause-given : goal.returns-clause-given
returns-clause-given g c = λ first last payload fields wrote h behind rest lets given.
    c.given_body.ensures.given wrote payload behind rest
    (written_body g.W.Tell.log g.W.TellWrite.trace first payload fields c.args.writer.now last wrote h
    c.args.reader.now.coding.0 lets) given
