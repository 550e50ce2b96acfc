-- Laws of pieces whose header is text.
use Rattle.std.proofs.Common.{arith}
use Rattle.piece_reader.specs.Grammar.{IsLawful}
use Rattle.piece_reader.specs.HeaderFormat.{length_prefixed}
use Rattle.piece_reader.specs.HeaderFormatLaws.{length_prefixed_lawful}
use Rattle.codec.specs.Scanning.{IsSmall, scanned}
use Rattle.codec.specs.ScanningLaws.{scanned_headers}
use Rattle.codec.specs.TextHeaders.{Words, IsSound, text_scanning}

-- the parts of such a piece are small
pub text_small : (w : Words) → IsSound w → IsSmall (text_scanning w)
text_small w is = record { some = omega (arith, is.some); small = omega (arith, is.small) }

-- the law of decoders holds of headers that are text
pub text_lawful : (w : Words) → IsSound w → IsLawful (length_prefixed (scanned (text_scanning w)))
text_lawful w is = length_prefixed_lawful (scanned (text_scanning w)) (scanned_headers (text_scanning w) (text_small w is))
