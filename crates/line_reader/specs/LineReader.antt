-- What contracts see of a reader of lines.
use Rattle.std.specs.Prelude.{◌≡◌, ℕ, [], Bool, true, false}
use Rattle.piece_reader.specs.declared.delimited.TooLong.{TooLong}
use Rattle.piece_reader.specs.Delimited.{delimited}
use Rattle.piece_reader.specs.Grammar.{Grammar}
use Rattle.piece_reader.specs.PieceReader.{IsPieceReader, IsSettled, ReaderState, rest}
use Rattle.line_reader.specs.declared.line.Lines.{Lines}
use Rattle.line_reader.specs.Lines.{newline}

-- lines as pieces: one of at most so many bytes, and its end
abbrev pub lined : ℕ → Grammar TooLong
lined max = delimited newline max

-- a reader of lines as pieces; and whether a line is being skipped, of which the end hasn't come
pub record LineState (S : Type 0) : Type 0 where
  pub pieces : ReaderState S Lines
  pub skipping : Bool

-- what is true of every reader of lines: nothing is left of a line that is being skipped
pub record IsLineReader {S : Type 0} (f : LineState S) : Type 0 where
  pub whole : IsPieceReader (lined f.pieces.decoder.max) f.pieces
  pub skipped : f.skipping ≡ true → rest f.pieces ≡ []
  pub goes_on : f.skipping ≡ true → f.pieces.ended ≡ false

-- the next call answers without the stream
pub record HasLine {S : Type 0} (f : LineState S) : Type 0 where
  pub open' : f.skipping ≡ false
  pub settled : IsSettled (lined f.pieces.decoder.max) f.pieces
