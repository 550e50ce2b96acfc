-- When a growth or a maker is refused.
use Rattle.std.specs.Prelude.{◌≡◌, ℕ, ◌≤◌, ◌<◌, Result, Ok, Err}
use Rattle.std.specs.IoError.{error_kind}
use Rattle.std.specs.declared.io.Error.{Error}
use Rattle.std.specs.declared.io.ErrorKind.{ErrorKind}
use Rattle.std.specs.declared.io.ErrorKind.TheVariants.{InvalidInput, OutOfMemory}
use Rattle.redux_buffer.specs.Block.{Block, capacity_for, usable}
use Rattle.redux_buffer.specs.declared.grow_error.GrowError.{GrowError}
use Rattle.redux_buffer.specs.declared.grow_error.GrowError.TheVariants.{TooLarge, Memory}

-- the error is `TooLarge` exactly where what is needed passes the limit
abbrev pub FitsWithin : {T : Type 0} → Result T GrowError → ℕ → ℕ → Type 0
FitsWithin (Ok x) needed limit = needed ≤ limit
FitsWithin (Err TooLarge) needed limit = limit < needed
FitsWithin (Err Memory) needed limit = needed ≤ limit

-- the kind of I/O error that a refusal becomes
abbrev pub kind_of : GrowError → ErrorKind
kind_of TooLarge = InvalidInput
kind_of Memory = OutOfMemory

-- room for so many more bytes was needed, and refused for this reason
pub record GrowthRefused (more : ℕ) (b : Block) (refusal : GrowError) : Type 0 where
  pub tight : usable b < more
  pub within : FitsWithin {T = Unit {0}} (Err refusal) (capacity_for b more) b.limit

-- an I/O error tells by its kind why room for so many more bytes was refused
pub record GrowthFailed (more : ℕ) (b : Block) (e : Error) : Type 0 where
  pub refusal : GrowError
  pub tells : error_kind e ≡ kind_of refusal
  pub refused : GrowthRefused more b refusal
