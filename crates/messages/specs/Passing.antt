-- Why no further message is passed.
use Rattle.std.specs.Prelude.{List, ℕ, Option}
use Rattle.messages.specs.Names.{Begun, FailsToFinish, heads, InBody, NextPiece, ReaderState, stop_answer}
use Rattle.messages.specs.declared.head.Heads.{Heads}
use Rattle.messages.specs.declared.laws.Stopped.{Stopped}
use Rattle.messages.specs.declared.laws.Stopped.TheVariants.{Before, Inside}

-- the reader stands before the head of the next, of which nothing is gone, or in its body, which wasn't finished
abbrev pub StopsIn : {S : Type 0} → (S → Option (List ℕ)) → ReaderState S Heads → Stopped S → Type 0
StopsIn remaining s (Before next stop) = NextPiece remaining (heads s.decoder.0) s (stop_answer stop) next
StopsIn {S} remaining s (Inside body e) =
    (first : InBody S) × Begun remaining s first × FailsToFinish remaining first e body
