-- Each piece is shown in some way, so bytes that settle nothing as shown settle nothing as they stand.
use Rattle.std.proofs.Common.{take}
use Rattle.piece_reader.specs.TrimmingLaws.{open_shown}
use Rattle.piece_reader.proofs.trimmed.TrimmedDecoder.decode.Goals as goal

pub decode-requires-clause-open : goal.decode-requires-clause-open
decode-requires-clause-open g c =
    open_shown (g.D.Decoder.grammar c.args.self.now.0) (take c.args.seen c.args.bytes.now) c.requires.open
