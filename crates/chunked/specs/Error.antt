-- What errors print.
use Rattle.std.specs.Prelude.{ℕ, List, codes}
use Rattle.chunked.specs.declared.error.Malformed.{Malformed}
use Rattle.chunked.specs.declared.error.Malformed.TheVariants.{NoSize, BadSize, BadField, SizeTooLarge, LineTooLong, TrailersTooLong, BareReturn, BareFeed, ChunkTooLong}

-- what is wrong with the next byte, in words
abbrev pub malformed_text : Malformed → List ℕ
malformed_text NoSize = codes "a chunk without a size"
malformed_text BadSize = codes "a wrong byte in the line of a size"
malformed_text BadField = codes "a wrong byte in a line of the trailers"
malformed_text SizeTooLarge = codes "a size of 2^62 or more"
malformed_text LineTooLong = codes "the line of a size is too long"
malformed_text TrailersTooLong = codes "the trailers are too long"
malformed_text BareReturn = codes "a CR without an LF"
malformed_text BareFeed = codes "an LF without a CR"
malformed_text ChunkTooLong = codes "a chunk is longer than its size"
