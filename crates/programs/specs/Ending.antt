-- What any program says of each ending.
use Rattle.std.specs.Prelude.{◌≡◌, ◌≢◌, ℕ, List, [], ◌++◌, codes, option_map, Option, Some, Result, Ok, Err}
use Rattle.std.specs.IoError.{error_kind}
use Rattle.std.specs.declared.io.Error.{Error}
use Rattle.std.specs.declared.io.ErrorKind.TheVariants.{OutOfMemory}
use Rattle.programs.specs.declared.ending.Ending.{Ending}
use Rattle.programs.specs.declared.ending.Ending.TheVariants.{Done, Failed, ReadFailed, WriteFailed, Usage, Memory}
use Rattle.programs.specs.declared.outcome.Outcome.{Outcome}
use Rattle.programs.specs.declared.outcome.Outcome.TheVariants.{Usual, Wrong}

-- how a run ends that failed with this error: so, or for want of memory
pub record FailsSo (failed : Ending) (e : Error) (ending : Ending) : Type 0 where
  pub memory : error_kind e ≡ OutOfMemory → ending ≡ Memory
  pub other : error_kind e ≢ OutOfMemory → ending ≡ failed

-- how a run ends that returned this
abbrev pub EndsAs : {T : Type 0} → Result T Error → Ending → Type 0
EndsAs (Ok _) ending = ending ≡ Done
EndsAs (Err e) ending = FailsSo Failed e ending

-- the status that the process ends with
abbrev pub status_of : Ending → ℕ
status_of Done = 0
status_of Failed = 1
status_of ReadFailed = 1
status_of WriteFailed = 1
status_of Usage = 2
status_of Memory = 3

-- the line on standard error, by what faults print behind the program's name; of a run that is done none is printed
abbrev pub line_of : {F : Type 0} → (F → Option (List ℕ)) → List ℕ → List ℕ → Outcome F → Option (List ℕ)
line_of output program usage (Usual Done) = Some []
line_of output program usage (Usual Failed) = Some (program ++ codes ": read or write failed")
line_of output program usage (Usual ReadFailed) = Some (program ++ codes ": read failed")
line_of output program usage (Usual WriteFailed) = Some (program ++ codes ": write failed")
line_of output program usage (Usual Usage) = Some (codes "usage: " ++ program ++ codes " " ++ usage)
line_of output program usage (Usual Memory) = Some (program ++ codes ": out of memory")
line_of output program usage (Wrong fault) = option_map (λ text. program ++ codes ": " ++ text) (output fault)
