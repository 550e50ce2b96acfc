-- A line that fits is a piece, with its end or as the last one, so lines and pieces cut a text alike.
use Rattle.line_reader.specs.RunsLaws.{Cuts-text}
use Rattle.line_reader.specs.TextLaws.{fits_of, lines_of, pieces_of}
use Rattle.line_play.proofs.lines_of_text.Goals as goal

pub returns : goal.returns
returns c = record {
  lines = Cuts-text;
  pieces = λ max text lines.
      (λ l. pieces_of max text lines l.0 l.1, λ has. (lines_of max text lines has, fits_of max text lines has));
}
