-- What `next` promises of pieces that have a header.
use Rattle.std.specs.Prelude.{ℕ, List, Option}
use Rattle.piece_reader.specs.declared.header_error.HeaderError.{HeaderError}
use Rattle.piece_reader.specs.HeaderFormat.{HeaderFormat, OffersPayload, length_prefixed}
use Rattle.piece_reader.specs.NextPiece.{AskedUnlessEnded, NextAnswer, NextPiece}
use Rattle.piece_reader.specs.PieceReader.{ReaderState}

-- what one call does: the next piece, and the last ask has room for the whole payload, once its header is there
pub record NextPayload {S D : Type 0} (remaining : S → Option (List ℕ)) (h : HeaderFormat) (s : ReaderState S D)
    (answer : NextAnswer HeaderError) (t : ReaderState S D) : Type 0 where
  pub next : NextPiece remaining (length_prefixed h) s answer t
  pub offered : AskedUnlessEnded (OffersPayload h t.reader.log.reads.offer) s t
