-- A filter that makes lines frames.
use Rattle.std.specs.Prelude.{◌≡◌, ◌≤◌, length, false, IfSome}
use Rattle.codec.specs.declared.TooLong as piece
use Rattle.line_reader.specs.Lines.{BeginsTooLong}
use Rattle.line_reader.specs.declared.line.Lines.{Lines}
use Rattle.frames.specs.Words.{bytes_at, rest, AllSent, frame, lined, InputFault}
use Rattle.frames.specs.Pack.{IsDue}
use Rattle.piece_filter.specs.Pieces.{Piecewise}
use Rattle.frames.specs.declared.fault.InputFault.TheVariants.{TooLong}
use Rattle.frames.specs.declared.packing.Packing.{Packing}

-- each line has a frame, also one that is held, and none is being skipped; a line that is too long is wrong
abbrev pub packing : {R W : Type 0} → Piecewise (Packing R W) R Lines piece.TooLong (Unit {0}) W InputFault
packing = record {
  source = λ s. s.source.pieces;
  held = λ s. s.held;
  target = λ s. s.target.writer;
  service = λ s. tt;
  also = λ s. record {
    most : s.source.pieces.decoder.max ≡ s.target.encoder.max;
    open' : s.source.skipping ≡ false;
    fits : IfSome s.held (λ span. length (bytes_at span s.source.pieces.reader.block.bytes) ≤ s.source.pieces.decoder.max);
  };
  grammar = λ d. lined d.max;
  answers = λ _ payload reply _. reply ≡ frame payload;
  due = λ d a. IsDue d.max;
  wrong = λ s why t. (why ≡ TooLong) × BeginsTooLong t.source.pieces.decoder.max (rest t.source.pieces)
      × (t.source.pieces.ended ≡ false);
  drops = ⊥;
  grows = ⊥;
  sent = λ s. AllSent s.target.writer;
  refused = λ e t. ⊥;
  loses = 1;
}
