-- When a maker that took a stream is refused.
use Rattle.std.specs.Prelude.{Result, Ok, Err}
use Rattle.redux_buffer.specs.declared.grow_error.GrowError.{GrowError}
use Rattle.buffer_redux.specs.declared.errors.MakeError.{MakeError}

-- the answer, with the refusal of the growth alone as its error
abbrev pub growth : {A T : Type 0} → Result A (MakeError T) → Result A GrowError
growth (Ok a) = Ok a
growth (Err e) = Err (e.1)
