-- What a stream that is watched notes of its calls.
use Rattle.std.specs.Prelude.{◌≡◌, ◌⊎◌, List, [], ◌∷◌, ◌++◌, Result, IsErrAnd}
use Rattle.std.specs.IoError.{error_kind}
use Rattle.std.specs.declared.io.Error.{Error}
use Rattle.std.specs.declared.io.ErrorKind.TheVariants.{OutOfMemory}
use Rattle.replay.specs.declared.watched.Noted.{Noted}
use Rattle.replay.specs.declared.watched.Watched.{Watched}

-- all calls that were noted, in order
abbrev pub noted : {S : Type 0} → Watched S → List Noted
noted w = w.notes.items

-- a call was noted, or there was no memory for that
abbrev pub Notes : {S A : Type 0} → Watched S → Noted → Result A Error → Watched S → Type 0
Notes old call answer new =
    (noted new ≡ noted old ++ call ∷ [])
    ⊎ ((noted new ≡ noted old) × IsErrAnd answer (λ e. error_kind e ≡ OutOfMemory))
