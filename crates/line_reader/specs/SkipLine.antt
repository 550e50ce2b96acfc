-- What `skip_line` promises, and the steps of it.
use Rattle.std.specs.Prelude.{◌≡◌, ℕ, ◌+◌, ◌^◌, ◌<◌, ◌≤◌, ◌⊎◌, List, [], length, Bool, true, false, Option, Result, MatchResult, is_err}
use Rattle.std.specs.IoError.{error_kind}
use Rattle.std.specs.declared.io.Error.{Error}
use Rattle.std.specs.declared.io.ErrorKind.TheVariants.{Other}
use Rattle.piece_reader.specs.NextPiece.{AskedUnlessEnded, Faulted, MetEnd, NoEnd, NoFault, OffersAll, PiecesWent}
use Rattle.piece_reader.specs.PieceReader.{IsPieceReader, ReaderState, Skips, rest}
use Rattle.piece_reader.specs.Plain.{EndsAt}
use Rattle.line_reader.specs.declared.line.Lines.{Lines}
use Rattle.line_reader.specs.Lines.{IsLine, newline, with_newline}
use Rattle.line_reader.specs.LineReader.{LineState, lined}

-- the first bytes that are left were dropped: through the first end of a line, or all
pub record DropsLine {S : Type 0} (s : ReaderState S Lines) (count : ℕ) (found : Bool) (t : ReaderState S Lines) : Type 0 where
  pub before : IsPieceReader (lined s.decoder.max) s
  pub inside : count ≤ length (rest s)
  pub skips : Skips (lined s.decoder.max) s count t
  pub ends : found ≡ true → (len : ℕ) × (count ≡ 1 + len) × EndsAt newline len (rest s)
  pub none : found ≡ false → (count ≡ length (rest s)) × IsLine (rest s)

-- what is dropped through the end of a line. At Ok the bytes are a line and its end, or all that came before the stream's,
-- which the next call of `next` tells. At an `Err` no end came: the stream failed, or more bytes were dropped than this. The
-- stream is asked only where no end of a line is buffered, for all that the buffer holds
pub record DropsThrough {S : Type 0} (remaining : S → Option (List ℕ)) (s : ReaderState S Lines) (answer : Result ℕ Error)
    (t : ReaderState S Lines) : Type 0 where
  pub bytes : List ℕ
  pub went : PiecesWent remaining (1 + s.decoder.max) s bytes t
  pub answers : MatchResult answer
      (λ n. (n ≡ length bytes) × NoFault s t
      × ((record { line : List ℕ; plain : IsLine line; equal : bytes ≡ with_newline line } × (t.ended ≡ false) × NoEnd s t)
      ⊎ (IsLine bytes × (rest t ≡ []) × (t.ended ≡ true) × MetEnd s t)))
      (λ e. IsLine bytes × (rest t ≡ []) × (t.ended ≡ false) × NoEnd s t
      × (Faulted s e t ⊎ (NoFault s t × (error_kind e ≡ Other) × (2 ^ 63 < length bytes))))
  pub asked : AskedUnlessEnded IsLine s t
  pub offered : OffersAll s t
  pub whole : IsPieceReader (lined t.decoder.max) t

-- what one call of `skip_line` does: the line is skipped, or is being skipped still
pub record SkipsLine {S : Type 0} (remaining : S → Option (List ℕ)) (s : LineState S) (answer : Result ℕ Error)
    (t : LineState S) : Type 0 where
  pub drops : DropsThrough remaining s.pieces answer t.pieces
  pub skipping : t.skipping ≡ is_err answer
