-- What the players say of a reader and of a writer alike: of a fault, and of runs.
use Rattle.std.specs.Prelude.{◌≡◌, List, [], ◌∷◌}
use Rattle.std.specs.IoError.{error_kind}
use Rattle.std.specs.declared.io.Error.{Error}
use Rattle.std.specs.declared.io.ErrorKind.{ErrorKind}

-- `Fault(kind)`: an error of this kind, of which this holds
abbrev pub FaultOf : ErrorKind → (Error → Type 0) → Type 0
FaultOf kind Holds = (e : Error) × (error_kind e ≡ kind) × Holds e

-- calls with as many answers, one step after another
abbrev pub Runs : {T Call Answer : Type 0} → (T → Call → Answer → T → Type 0) → T → List Call → List Answer → T → Type 0
Runs step s [] [] t = s ≡ t
Runs {T} step s (call ∷ calls) (answer ∷ answers) t = (m : T) × step s call answer m × Runs step m calls answers t
Runs step s [] (answer ∷ answers) t = ⊥
Runs step s (call ∷ calls) [] t = ⊥
