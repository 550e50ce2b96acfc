-- What the calls of a reader of frames promise: it is a reader of pieces, which are frames.
use Rattle.std.specs.Prelude.{◌≡◌, ℕ, ◌+◌, ◌<◌, ◌⊎◌, List, [], length, false, Option, Result, Ok, Err, IfErr}
use Rattle.std.specs.List.{All}
use Rattle.codec.specs.declared.NextError.{NextError}
use Rattle.codec.specs.declared.NextError.TheVariants as piece
use Rattle.codec.specs.NextPiece as pieces
use Rattle.codec.specs.NextPiece.{AskedUnlessEnded, NextPiece, PiecesWent}
use Rattle.codec.specs.PieceReader.{IsPieceReader, ReaderState, rest}
use Rattle.frame_reader.specs.declared.error.FrameError.{FrameError}
use Rattle.frame_reader.specs.declared.error.FrameError.TheVariants.{Truncated, TooLong, Io}
use Rattle.frame_reader.specs.declared.frame.FrameFault.{FrameFault}
use Rattle.frame_reader.specs.declared.frame.FrameFault.TheVariants as Fault
use Rattle.frame_reader.specs.declared.frame.Frames.{Frames}
use Rattle.frame_reader.specs.Framed.{framed}
use Rattle.frame_reader.specs.Frames.{BeginsWith, Fits, IsCutShort, OffersFrame, frames}

-- what is true of every reader of frames: no frame is one only since the stream ends, so no end is left to tell
pub record ReadsFrames {S : Type 0} (f : ReaderState S Frames) : Type 0 where
  pub told : f.ended ≡ false
  pub whole : IsPieceReader (framed f.decoder.max) f

-- what any calls do, one after another, that handed out these payloads: each fits, and their frames are the pieces that went
pub record FramesWent {S : Type 0} (remaining : S → Option (List ℕ)) (s : ReaderState S Frames) (payloads : List (List ℕ))
    (t : ReaderState S Frames) : Type 0 where
  pub fit : All (Fits s.decoder.max) payloads
  pub went : PiecesWent remaining (2 + s.decoder.max) s (frames payloads) t

-- what a call of `next` answers: a payload, `None` at the end, or why there is no frame
abbrev pub FrameAnswer : Type 0
FrameAnswer = Result (Option (List ℕ)) FrameError

-- the error, and the answer, of the reader of pieces that it is
abbrev pub piece_error : FrameError → NextError FrameFault
piece_error (Truncated have) = piece.Wrong (Fault.Truncated have)
piece_error (TooLong len) = piece.Wrong (Fault.TooLong len)
piece_error (Io e) = piece.Io e

abbrev pub as_piece_answer : FrameAnswer → pieces.NextAnswer FrameFault
as_piece_answer (Ok found) = Ok found
as_piece_answer (Err e) = Err (piece_error e)

-- what is left where there is no frame: less than one, or a length that is too large
abbrev pub ErrorLeaves : ℕ → FrameError → List ℕ → Type 0
ErrorLeaves max (Truncated have) bytes = (have ≡ length bytes) × IsCutShort max bytes
ErrorLeaves max (TooLong len) bytes = (max < len) × BeginsWith len bytes
ErrorLeaves max (Io e) bytes = (bytes ≡ []) ⊎ IsCutShort max bytes

-- what one call of `next` does. The last ask has room for the whole frame, once its length is there
pub record Next {S : Type 0} (remaining : S → Option (List ℕ)) (s : ReaderState S Frames) (answer : FrameAnswer)
    (t : ReaderState S Frames) : Type 0 where
  pub piece : NextPiece remaining (framed s.decoder.max) s (as_piece_answer answer) t
  pub offered : AskedUnlessEnded (OffersFrame t.reader.log.reads.offer) s t
  pub leaves : IfErr answer (λ e. ErrorLeaves s.decoder.max e (rest t))
