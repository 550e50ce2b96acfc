use Rattle.std.proofs.Common.{◌≡◌, ◌-◌, ◌*◌, ◌^◌, ◌≤◌, length, min}
use Rattle.piece_reader.specs.PieceReader.{rest}
use Rattle.line_reader.proofs.Skipping.{SkipHead}
use Rattle.line_reader.proofs.reader.LineReader.drop_through.Given as goal

abbrev pub invariant-turns : goal.invariant-turns
invariant-turns g l = record {
  head : SkipHead g.R.TellRead.remaining l.fn.self.pieces l.self.pieces l.dropped;
  skipping : l.self.skipping ≡ l.fn.self.skipping;
  few : l.dropped ≤ 2 ^ 63;
}

abbrev pub decreases-turns : goal.decreases-turns
decreases-turns g l = 2 * (2 ^ 64 - l.dropped) - min 1 (length (rest l.self.pieces))
