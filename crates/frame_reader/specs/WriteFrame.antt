-- What the calls of a writer of frames promise: it is a writer of pieces, which are frames.
use Rattle.std.specs.Prelude.{ℕ, List, Result, Ok, Err}
use Rattle.codec.specs.declared.error.WritePieceError.{WritePieceError}
use Rattle.codec.specs.declared.error.WritePieceError.TheVariants as piece
use Rattle.codec.specs.PieceWriter.{WriterState}
use Rattle.codec.specs.WritePiece as pieces
use Rattle.codec.specs.WritePiece.{WritesPiece}
use Rattle.frame_reader.specs.declared.error.WriteFrameError.{WriteFrameError}
use Rattle.frame_reader.specs.declared.error.WriteFrameError.TheVariants.{TooLong, Io}
use Rattle.frame_reader.specs.declared.frame.Frames.{Frames}
use Rattle.frame_reader.specs.Framed.{framed_out}

-- the error, and the answer, of the writer of pieces that it is
abbrev pub piece_refused : WriteFrameError → WritePieceError ℕ
piece_refused (TooLong len) = piece.Refused len
piece_refused (Io e) = piece.Io e

abbrev pub piece_written : Result (Unit {0}) WriteFrameError → pieces.WriteAnswer ℕ
piece_written (Ok _) = Ok tt
piece_written (Err e) = Err (piece_refused e)

-- what one call of `write_frame` does
abbrev pub WritesFrame : {S : Type 0} → (S → S → Type 0) → WriterState S Frames → List ℕ
    → Result (Unit {0}) WriteFrameError → WriterState S Frames → Type 0
WritesFrame trace s payload answer t = WritesPiece trace (framed_out s.encoder.max) s payload (piece_written answer) t
