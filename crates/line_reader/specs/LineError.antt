-- What a failed `next` is as an I/O error.
use Rattle.std.specs.Prelude.{◌≡◌}
use Rattle.std.specs.IoError.{error_kind}
use Rattle.std.specs.declared.io.Error.{Error}
use Rattle.std.specs.declared.io.ErrorKind.TheVariants.{InvalidData}
use Rattle.line_reader.specs.declared.error.LineError.{LineError}
use Rattle.line_reader.specs.declared.error.LineError.TheVariants.{TooLong, Io}

-- the stream's own error, or one of this kind
abbrev pub IsIoError : LineError → Error → Type 0
IsIoError (TooLong max) r = error_kind r ≡ InvalidData
IsIoError (Io e) r = r ≡ e
