-- What a step over pieces that have a header asks for.
use Rattle.std.proofs.Common.{ℕ, List, Option}
use Rattle.piece_reader.specs.declared.header_error.HeaderError.{HeaderError}
use Rattle.piece_reader.specs.Decoding.{OnMore}
use Rattle.piece_reader.specs.HeaderFormat.{AsksPayload, HeaderFormat, IsHeaderFormat, OffersPayload, length_prefixed}
use Rattle.piece_reader.specs.HeaderFormatLaws.{AsksPayload-offers, length_prefixed_lawful}
use Rattle.piece_reader.specs.Looking.{LooksFromLast, LookSays, LookTells}
use Rattle.piece_reader.specs.LookingLaws.{LooksFromLast-asked}
use Rattle.piece_reader.specs.NextPayload.{NextPayload}
use Rattle.piece_reader.specs.NextPiece.{NextAnswer, NextPiece}
use Rattle.piece_reader.specs.PieceReader.{ReaderState}

module _ {S D : Type 0} (remaining : S → Option (List ℕ)) (formats : D → HeaderFormat)
    (laws : (d : D) → IsHeaderFormat (formats d)) (s t : ReaderState S D) (answer : NextAnswer HeaderError) where
  abbrev payload_looks : D → LookTells HeaderError
  payload_looks d bytes seen found = OnMore found (AsksPayload (formats d) bytes)

  pub payload_next : NextPiece remaining (length_prefixed (formats s.decoder)) s answer t
      → LooksFromLast (LookSays (λ d. length_prefixed (formats d)) payload_looks) s t
      → NextPayload remaining (formats s.decoder) s answer t
  payload_next next looked =
      let h = formats s.decoder in
      let offer = t.reader.log.reads.offer in
      record {
        next = next;
        offered = LooksFromLast-asked remaining (λ d. length_prefixed (formats d))
            (λ d. length_prefixed_lawful (formats d) (laws d)) payload_looks s t answer next (OffersPayload h offer)
            (AsksPayload-offers h (laws s.decoder) offer) looked;
      }
