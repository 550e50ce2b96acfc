-- How a call ends that goes on, turn by turn, until all bytes of a slice are done.
use Rattle.std.specs.Prelude.{◌≡◌, ℕ, Result, Ok, Err}
use Rattle.std.specs.IoError.{error_kind}
use Rattle.std.specs.declared.io.Error.{Error}
use Rattle.std.specs.declared.io.ErrorKind.{ErrorKind}

-- a turn with this answer ends it with the error e: its own, or one of the kind `nothing`, as it did nothing
abbrev pub EndsBy : ErrorKind → Result ℕ Error → Error → Type 0
EndsBy nothing (Ok k) e = (k ≡ 0) × (error_kind e ≡ nothing)
EndsBy nothing (Err x) e = x ≡ e
