-- The law that bodies of chunks that begin the same bytes are one, with one payload, whatever the limits: so those that are
-- written are.
use Rattle.std.proofs.Common.{arith}
use Rattle.chunked.specs.BodyLaws.{IsBodyOfChunks-same}
use Rattle.chunked.specs.ChunkLaws.{chunks_body}
use Rattle.chunked.specs.Names.{Limits}
use Rattle.chunked.proofs.laws.one_body.Goals as goal

pub returns-clause-written : goal.returns-clause-written
returns-clause-written c = λ p q xs ys carried carried' same.
    let limits : Limits = record { line = 16; trailers = 0 } in
    let found = IsBodyOfChunks-same limits limits _ _ _ _ xs ys (chunks_body limits (omega arith) p carried)
    (chunks_body limits (omega arith) q carried') same in
    (found.1, found.2)

pub returns-clause-one : goal.returns-clause-one
returns-clause-one c = IsBodyOfChunks-same
