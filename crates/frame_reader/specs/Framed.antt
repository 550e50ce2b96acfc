-- Frames as pieces.
use Rattle.std.specs.Prelude.{◌≡◌, ℕ, ◌+◌, ◌<◌, List, [], ◌++◌, length}
use Rattle.std.specs.List.{All}
use Rattle.codec.specs.Encoding.{Encoding}
use Rattle.codec.specs.Grammar.{Begins, Grammar}
use Rattle.frame_reader.specs.Frames.{BeginsAbove, Fits, frame, frames, header}
use Rattle.frame_reader.specs.declared.frame.FrameFault.{FrameFault}
use Rattle.frame_reader.specs.declared.frame.FrameFault.TheVariants.{Truncated, TooLong}

-- a piece is the frame of a payload that fits. None is one only since the stream ends, so what is left there is cut short
abbrev pub framed : ℕ → Grammar FrameFault
framed max = record {
  most = 2 + max;
  piece = λ bytes payload. record { fits : Fits max payload; equal : bytes ≡ frame payload };
  wrong = λ bytes e. (long : BeginsAbove max bytes) × (e ≡ TooLong long.len);
  last = λ bytes payload. ⊥;
  cut = λ bytes e. e ≡ Truncated (length bytes);
}

-- frames as they are written: a payload that doesn't fit is refused by its length
abbrev pub framed_out : ℕ → Encoding ℕ
framed_out max = record {
  most = 2 + max;
  takes = Fits max;
  header = λ payload. header (length payload);
  tail = [];
  refuses = λ payload len. (len ≡ length payload) × (max < len);
}

-- a stream is the frames of these payloads, and then bytes that don't begin with a whole one
pub record SplitsIntoFrames (max : ℕ) (stream : List ℕ) (payloads : List (List ℕ)) (left : List ℕ) : Type 0 where
  pub equal : stream ≡ frames payloads ++ left
  pub fit : All (Fits max) payloads
  pub no_more : ¬ (Begins (framed max) left)
