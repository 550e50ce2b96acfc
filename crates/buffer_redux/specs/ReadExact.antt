-- Why a read of a whole slice fails.
use Rattle.std.specs.Prelude.{◌≡◌, ℕ, ◌<◌, ◌⊎◌, List, [], ◌∷◌, ◌++◌, length, take, Err, Option}
use Rattle.std.specs.IoError.{error_kind}
use Rattle.std.specs.declared.io.Error.{Error}
use Rattle.std.specs.declared.io.ErrorKind.TheVariants.{UnexpectedEof}
use Rattle.redux_buffer.specs.StreamLog.{ReadLog}
use Rattle.buffer_redux.specs.Policy.{ReadRules}
use Rattle.buffer_redux.specs.Buffered.{Buffered}
use Rattle.buffer_redux.specs.BufReader.{EmptyReadCaused, ReadErrorCaused}
use Rattle.buffer_redux.specs.ReadAll.{HandedFront}

-- of a buffered reader: where just some first bytes had been handed out, a read answered this error, or none of the bytes that
-- were left to be read, which is answered by `UnexpectedEof`
pub record ReadExactErrorCaused {S P : Type 0} (remaining : S → Option (List ℕ)) (rules : ReadRules P)
    (s : Buffered S P) (out : List ℕ) (e : Error) (t : Buffered S P) : Type 0 where
  pub count : ℕ
  pub fewer : count < length out
  pub before : Buffered S P
  pub begun : HandedFront remaining rules s (take count out) before
  pub why : ReadErrorCaused {A = ℕ} rules before (Err e) t
      ⊎ ((error_kind e ≡ UnexpectedEof) × EmptyReadCaused rules before t)

-- the reader inside ended it: the error is its last fault, or it gave nothing though it was asked for something
abbrev pub ReaderStopped : ReadLog → ReadLog → Error → Type 0
ReaderStopped old new e = record { before : List Error; faults : new.faults ≡ (old.faults ++ before) ++ e ∷ [] }
    ⊎ record { is_eof : error_kind e ≡ UnexpectedEof; zero_reads : old.zero_reads < new.zero_reads }
