-- What was written is read again.
use Rattle.std.specs.Prelude.{◌≡◌, ℕ, List, Some}
use Rattle.buffer_redux.specs.Memory.{bytes_left, reader_log}
use Rattle.buffer_redux.specs.declared.tell.MemoryReader.{MemoryReader}
use Rattle.piece_reader.specs.Grammar.{Grammar}
use Rattle.piece_reader.specs.KnownPayloads.{AllRead}
use Rattle.piece_reader.specs.NextPiece.{NextPiece}
use Rattle.piece_reader.specs.PieceReader.{IsFresh, ReaderState}
use Rattle.piece_reader.specs.Runs.{AnswerPlays, RunWent}

-- a reader that was made over these bytes handed just these payloads out, each by one call, and one more call told the end
pub record ReadsBack {D W : Type 0} (g : Grammar W) (decoder : D) (bytes : List ℕ) (payloads : List (List ℕ)) : Type 0 where
  pub stream : MemoryReader
  pub over : bytes_left stream ≡ bytes
  pub first : ReaderState MemoryReader D
  pub fresh : IsFresh reader_log 8192 g.most stream decoder first
  pub last : ReaderState MemoryReader D
  pub read : AllRead (AnswerPlays (NextPiece (λ r. Some (bytes_left r)) g) (RunWent (λ r. Some (bytes_left r)) g)) first payloads
      last
