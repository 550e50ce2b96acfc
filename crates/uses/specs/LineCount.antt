-- What counting the lines of a reader says, and why it stopped.
use Rattle.std.specs.Prelude.{◌≡◌, ℕ, ◌+◌, ◌^◌, ◌≤◌, ◌⊎◌, ◌==◌, List, [], ◌∷◌, ◌++◌, length, Option, count_by}
use Rattle.std.specs.IoError.{error_kind}
use Rattle.std.specs.declared.io.Error.{Error}
use Rattle.std.specs.declared.io.ErrorKind.TheVariants.{Other}
use Rattle.buffer_redux.specs.Policy.{ReadRules}
use Rattle.buffer_redux.specs.Buffered.{Buffered}
use Rattle.buffer_redux.specs.BufReader.{ReadsToEnd}

-- how many of these bytes are line feeds
abbrev pub line_feeds : List ℕ → ℕ
line_feeds bytes = count_by (λ b. b == 10) bytes

-- all that there was has been handed out, and has n line feeds
pub record CountsLines {S P : Type 0} (remaining : S → Option (List ℕ)) (rules : ReadRules P) (n : ℕ)
    (s t : Buffered S P) : Type 0 where
  pub bytes : List ℕ
  pub end : ReadsToEnd remaining rules s bytes t
  pub count : n ≡ line_feeds bytes

-- the error was `Other`, since so many bytes were there to be handed out, give or take `off`, as a `u64` doesn't count
pub record CameTooMuch {S P : Type 0} (e : Error) (off : ℕ) (s t : Buffered S P) : Type 0 where
  pub other : error_kind e ≡ Other
  pub large : 2 ^ 64 + length s.log.reads.given ≤ length s.block.bytes + length t.log.reads.given + off

-- the reader inside failed with this error, before which it met no fault, or too much came
abbrev pub StopsAtOnce : {S P : Type 0} → Error → Buffered S P → Buffered S P → Type 0
StopsAtOnce e s t = (t.log.reads.faults ≡ s.log.reads.faults ++ e ∷ []) ⊎ CameTooMuch e 1 s t
