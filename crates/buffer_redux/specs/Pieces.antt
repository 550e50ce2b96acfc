-- What the iterators over pieces, and over lines, give.
use Rattle.std.specs.Prelude.{◌≡◌, ℕ, ◌+◌, ◌-◌, ◌^◌, ◌<◌, ◌⊎◌, List, [], length, if◌then◌else◌, Result, Ok, Err, Option, Some, None, String, string_bytes, IsUtf8}
use Rattle.std.specs.Global.{Global}
use Rattle.std.specs.Io.BufRead.{ends_with_byte, strip_last}
use Rattle.std.specs.IoError.{error_kind}
use Rattle.std.specs.declared.io.Error.{Error}
use Rattle.std.specs.declared.io.ErrorKind.TheVariants.{InvalidData, OutOfMemory, TimedOut}
use Rattle.buffer_redux.specs.Policy.{ReadRules}
use Rattle.buffer_redux.specs.Buffered.{Buffered}
use Rattle.buffer_redux.specs.ReadUntil.{FilledOrFull, ReadsUntil}

-- a reader that is cut at each such byte, what came of the next piece before a fault, how many bytes of that fit without a
-- growth, and how often it may be called
pub record Splitting (S P : Type 0) : Type 0 where
  pub reader : Buffered S P
  pub byte : ℕ
  pub begun : List ℕ
  pub room : ℕ
  pub left : ℕ

-- a reader of which nothing was asked yet, and of whose next piece these bytes came before, where so many fit
abbrev pub goes_on : {S P : Type 0} → ℕ → Buffered S P → List ℕ → ℕ → Splitting S P
goes_on byte reader begun room = record { reader = reader; byte = byte; begun = begun; room = room; left = 2 ^ 64 - 1 }

-- the next piece was gone on with up to its byte or the end of all, or to this error, and this was not the last call
pub record GoesOnWith {S P : Type 0} (remaining : S → Option (List ℕ)) (rules : ReadRules P) (s : Splitting S P)
    (answer : Result ℕ Error) (piece : List ℕ) (t : Splitting S P) : Type 0 where
  pub reads : ReadsUntil remaining rules s.byte s.reader s.begun answer piece t.reader
  pub byte : t.byte ≡ s.byte
  pub called : t.left + 1 ≡ s.left
  pub more : 0 < t.left

-- the next piece is this with its byte, where it has one
pub record GivesWhole {S P : Type 0} (remaining : S → Option (List ℕ)) (rules : ReadRules P) (s : Splitting S P)
    (piece : List ℕ) (t : Splitting S P) : Type 0 where
  pub count : ℕ
  pub went : GoesOnWith remaining rules s (Ok count) piece t
  pub some : 0 < length piece
  pub begun : t.begun ≡ []
  pub room : t.room ≡ 0

-- there is no further call, or no further piece
abbrev pub Ended : {S P : Type 0} → (S → Option (List ℕ)) → ReadRules P → Splitting S P → Splitting S P → Type 0
Ended remaining rules s t = (s.left ≡ 0) × (t ≡ s)
    ⊎ ((count : ℕ) × GoesOnWith remaining rules s (Ok count) [] t × (t.begun ≡ []))

-- what came stays, and is gone on with, and memory was wanted only without room; or it was the last call, which does nothing
abbrev pub Stopped : {S P : Type 0} → (S → Option (List ℕ)) → ReadRules P → Splitting S P → Error → Splitting S P
    → Type 0
Stopped remaining rules s e t = (GoesOnWith remaining rules s (Err e) t.begun t × (error_kind e ≡ OutOfMemory
    → FilledOrFull (λ left. left ≡ []) remaining rules s.byte s.reader s.room e t.begun t.reader))
    ⊎ ((s.left ≡ 1) × (error_kind e ≡ TimedOut) × (t ≡ record s { left = 0 }))

-- a call gave this of the next piece, made of all its bytes, or stopped
abbrev pub Gives : {S P A : Type 0} → (S → Option (List ℕ)) → ReadRules P → (A → List ℕ → Type 0) → Splitting S P
    → Option (Result A Error) → Splitting S P → Type 0
Gives remaining rules Made s None t = Ended remaining rules s t
Gives remaining rules Made s (Some (Ok a)) t = (piece : List ℕ) × GivesWhole remaining rules s piece t × Made a piece
Gives remaining rules Made s (Some (Err e)) t = Stopped remaining rules s e t

-- these bytes without the line feed at their end, and without the carriage return before that
abbrev pub without_end : List ℕ → List ℕ
without_end line = if ends_with_byte 10 line then strip_last 13 (strip_last 10 line) else line

-- what `next` of `Lines` gives: the line without its end; of a line that is no UTF-8, and which is gone, `InvalidData`
abbrev pub GivesLine : {S P : Type 0} → (S → Option (List ℕ)) → ReadRules P → Splitting S P
    → Option (Result (String Global) Error) → Splitting S P → Type 0
GivesLine remaining rules s None t = Ended remaining rules s t
GivesLine remaining rules s (Some (Ok text)) t = (line : List ℕ) × GivesWhole remaining rules s line t
    × (string_bytes text ≡ without_end line)
GivesLine remaining rules s (Some (Err e)) t = Stopped remaining rules s e t
    ⊎ ((line : List ℕ) × GivesWhole remaining rules s line t × (¬ IsUtf8 (without_end line))
    × (error_kind e ≡ InvalidData))
