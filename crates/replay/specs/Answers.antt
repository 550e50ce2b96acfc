-- What is printed of an answer, and what a writer is offered.
use Rattle.std.specs.Prelude.{◌≡◌, ◌+◌, ◌<◌, ◌%◌, ℕ, List, ◌++◌, length, get_or, codes, decimal}
use Rattle.std.specs.Io.{StartsWith}
use Rattle.redux_play.specs.declared.play.ReaderAnswer.{ReaderAnswer}
use Rattle.redux_play.specs.declared.play.ReaderAnswer.TheVariants.{Count, Shown, Done, Fault, Refused}
use Rattle.redux_play.specs.declared.play.WriterAnswer.{WriterAnswer}
use Rattle.redux_play.specs.declared.play.WriterAnswer.TheVariants as writer
use Rattle.redux_buffer.specs.declared.grow_error.GrowError.{GrowError}
use Rattle.redux_buffer.specs.declared.grow_error.GrowError.TheVariants.{TooLarge, Memory}

-- why a buffer could not be made or could not grow
abbrev pub refusal_text : GrowError → List ℕ
refusal_text TooLarge = codes "X:TooLarge"
refusal_text Memory = codes "X:Memory"

-- what is printed of an answer; of a fault its name follows
abbrev pub PrintsReaderAnswer : ReaderAnswer → List ℕ → Type 0
PrintsReaderAnswer (Count n) text = text ≡ codes "C" ++ decimal n
PrintsReaderAnswer (Shown n) text = text ≡ codes "S" ++ decimal n
PrintsReaderAnswer Done text = text ≡ codes "D"
PrintsReaderAnswer (Fault kind) text = StartsWith text (codes "E:")
PrintsReaderAnswer (Refused e) text = text ≡ refusal_text e

abbrev pub PrintsWriterAnswer : WriterAnswer → List ℕ → Type 0
PrintsWriterAnswer (writer.Count n) text = text ≡ codes "C" ++ decimal n
PrintsWriterAnswer writer.Done text = text ≡ codes "D"
PrintsWriterAnswer (writer.Fault kind) text = StartsWith text (codes "E:")
PrintsWriterAnswer (writer.Refused e) text = text ≡ refusal_text e

-- as many bytes as this count, which count up from the first one
pub record CountsUp (first count : ℕ) (bytes : List ℕ) : Type 0 where
  pub many : length bytes ≡ count
  pub each : (i : ℕ) → i < count → get_or bytes i 0 ≡ (first + i) % 256
