use Rattle.std.proofs.Common.{◌-◌, length}
use Rattle.piece_reader.proofs.Loading.{LoadHead}
use Rattle.piece_reader.proofs.Looking.{LooksTo}
use Rattle.piece_reader.specs.Looking.{LookSays}
use Rattle.piece_reader.specs.PieceReader.{rest}
use Rattle.piece_reader.proofs.reader.PieceReader.step_on.Given as goal

abbrev pub invariant-turns : goal.invariant-turns
invariant-turns g l =
    LoadHead g.R.TellRead.remaining (g.D.Decoder.grammar l.fn.self.decoder) l.fn.self l.self l.need
    × LooksTo (LookSays g.D.Decoder.grammar g.D.Decoder.looks) l.fn.self l.fn.need (rest l.self) l.need

abbrev pub decreases-turns : goal.decreases-turns
decreases-turns g l = (g.D.Decoder.grammar l.fn.self.decoder).most - length (rest l.self)
