-- Laws of a writer of frames, for the proofs of those who call one.
use Rattle.std.specs.Prelude.{ℕ, List, [], ◌∷◌, ◌++◌, Result, map}
use Rattle.std.proofs.Common.{sym, subst}
use Rattle.std.proofs.lemmas.List.{map-append}
use Rattle.buffer_redux.specs.BufWriter.{WritesInOrder}
use Rattle.codec.specs.PieceWriter.{WriterState}
use Rattle.codec.specs.WritePiece.{PiecesTaken}
use Rattle.codec.specs.WriteRuns.{WritePlays}
use Rattle.codec.specs.WriteRunsLaws.{WritePlays-more}
use Rattle.frame_reader.specs.declared.error.WriteFrameError.{WriteFrameError}
use Rattle.frame_reader.specs.declared.frame.Frames.{Frames}
use Rattle.frame_reader.specs.Framed.{framed_out}
use Rattle.frame_reader.specs.FramedLaws.{coded_frames}
use Rattle.frame_reader.specs.Frames.{frames}
use Rattle.frame_reader.specs.WriteFrame.{WritesFrame, piece_written}

-- calls of `write_frame` are calls of a writer of pieces: one more
pub WritesFrame-more : {S : Type 0} (trace : S → S → Type 0) → ((x : S) → trace x x)
    → ((a b c : S) → trace a b → trace b c → trace a c) → (s : WriterState S Frames) (payloads : List (List ℕ))
    (answers : List (Result (Unit {0}) WriteFrameError)) (m : WriterState S Frames) (payload : List ℕ)
    (answer : Result (Unit {0}) WriteFrameError) (t : WriterState S Frames)
    → WritePlays trace (framed_out s.encoder.max) s payloads (map piece_written answers) m
    → WritesFrame trace m payload answer t
    → WritePlays trace (framed_out s.encoder.max) s (payloads ++ payload ∷ []) (map piece_written (answers ++ answer ∷ [])) t
WritesFrame-more trace none joins s payloads answers m payload answer t plays wrote =
    subst (λ l. WritePlays trace (framed_out s.encoder.max) s (payloads ++ payload ∷ []) l t)
    (sym (map-append piece_written answers (answer ∷ [])))
    (WritePlays-more trace none joins (λ (d : Frames). framed_out d.max) s payloads (map piece_written answers) m payload
    (piece_written answer) t plays wrote)

-- what was taken in is the frames of the payloads
pub PiecesTaken-frames : {S : Type 0} (trace : S → S → Type 0) (s t : WriterState S Frames) (payloads : List (List ℕ))
    → PiecesTaken trace (framed_out s.encoder.max) s payloads t → WritesInOrder s.writer (frames payloads) t.writer
PiecesTaken-frames trace s t payloads taken =
    subst (λ l. WritesInOrder s.writer l t.writer) (coded_frames s.encoder.max payloads) taken.in_order
