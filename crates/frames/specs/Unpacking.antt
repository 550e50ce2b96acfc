-- A filter that prints the payloads of frames as lines.
use Rattle.std.specs.Prelude.{◌≡◌, ℕ, ◌+◌, ◌<◌, ◌⊎◌, false}
use Rattle.buffer_redux.specs.Block.{Plain}
use Rattle.buffer_redux.specs.Buffered.{Buffered}
use Rattle.buffer_redux.specs.declared.policy.StdPolicy.{StdPolicy}
use Rattle.frame_reader.specs.Frames.{BeginsAbove}
use Rattle.frame_reader.specs.declared.frame.FrameFault.{FrameFault}
use Rattle.frame_reader.specs.declared.frame.Frames.{Frames}
use Rattle.frames.specs.Words.{RanDry, rest, AllSent, framed, IsCutShort, with_newline, InputFault}
use Rattle.piece_filter.specs.Pieces.{Piecewise}
use Rattle.frames.specs.Unpack.{IsDue}
use Rattle.frames.specs.declared.fault.InputFault.TheVariants.{TooLong, Truncated}
use Rattle.frames.specs.declared.unpacking.Unpacking.{Unpacking}

-- a buffered writer of lines: the longest, with its end, is smaller than its buffer
pub record IsLineTarget {W : Type 0} (most : ℕ) (u : Buffered W StdPolicy) : Type 0 where
  pub plain : u.block.kind ≡ Plain
  pub capacity : most + 1 < u.block.capacity

-- each payload has a line, and no end is left to tell. A frame that is too long is wrong; and so is less than one, where the
-- reader gave no more
abbrev pub unpacking : {R W : Type 0} → Piecewise (Unpacking R W) R Frames FrameFault (Unit {0}) W InputFault
unpacking = record {
  source = λ s. s.source;
  held = λ s. s.held;
  target = λ s. s.target;
  service = λ s. tt;
  also = λ s. record { target : IsLineTarget s.source.decoder.max s.target; told : s.source.ended ≡ false };
  grammar = λ d. framed d.max;
  answers = λ _ payload reply _. reply ≡ with_newline payload;
  due = λ d a. IsDue d.max;
  wrong = λ s why t. ((why ≡ TooLong) × BeginsAbove t.source.decoder.max (rest t.source))
      ⊎ ((why ≡ Truncated) × IsCutShort t.source.decoder.max (rest t.source) × RanDry s.source.reader t.source.reader);
  drops = ⊥;
  grows = ⊥;
  sent = λ s. AllSent s.target;
  refused = λ e t. ⊥;
  loses = 1;
}
