-- Each piece is shown in some way, so bytes that settle nothing as shown settle nothing as they stand.
use Rattle.piece_reader.specs.TrimmingLaws.{open_shown}
use Rattle.piece_reader.proofs.trimmed.TrimmedDecoder.at_end.Goals as goal

pub at_end-requires-clause-open : goal.at_end-requires-clause-open
at_end-requires-clause-open g c = open_shown (g.D.Decoder.grammar c.args.self.now.0) c.args.bytes.now c.requires.open
