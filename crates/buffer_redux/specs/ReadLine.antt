-- What a call promises that appends a line to a text.
use Rattle.std.specs.Prelude.{◌≡◌, ℕ, ◌+◌, ◌<◌, ◌≤◌, ◌⊎◌, List, ◌++◌, length, take, Result, Ok, Err, Option, IfOk, IsUtf8}
use Rattle.std.specs.IoError.{error_kind}
use Rattle.std.specs.declared.io.Error.{Error}
use Rattle.std.specs.declared.io.ErrorKind.TheVariants.{InvalidData, OutOfMemory}
use Rattle.buffer_redux.specs.Policy.{ReadRules}
use Rattle.buffer_redux.specs.Buffered.{Buffered}
use Rattle.buffer_redux.specs.ReadAll.{HandedFront}
use Rattle.buffer_redux.specs.ReadUntil.{AppendsFirst, EndsUntil, FirstAt, Lacks, Stops, no_memory}

-- whatever follows these bytes, they are no UTF-8
abbrev pub NeverUtf8 : List ℕ → Type 0
NeverUtf8 bytes = (more : List ℕ) → ¬ (IsUtf8 (bytes ++ more))

-- the bytes are less than a character, and more can make one of them; or there are none
pub record IsPart (bytes : List ℕ) : Type 0 where
  pub few : length bytes < 4
  pub bad : (n : ℕ) → 0 < n → n ≤ length bytes → ¬ (IsUtf8 (take n bytes))
  pub may : (more : List ℕ) × IsUtf8 (bytes ++ more)

-- the call stopped before bytes for which it had no memory, or which are no UTF-8
abbrev pub no_text : Stops
no_text handed e bytes = no_memory handed e bytes ⊎ ((error_kind e ≡ InvalidData) × NeverUtf8 bytes)

-- the first n bytes that are buffered were handed out, which are a text, behind those that were there; or nothing was done
abbrev pub AppendsLine : {S P A : Type 0} → (S → Option (List ℕ)) → ReadRules P → ℕ → Buffered S P → List ℕ
    → Result A Error → List ℕ → Buffered S P → Type 0
AppendsLine remaining rules n s before (Ok a) after t =
    AppendsFirst remaining rules n s before (Ok a) after t × IsUtf8 (take n s.block.bytes)
AppendsLine remaining rules n s before (Err e) after t = (after ≡ before) × (t ≡ s)
    × (((error_kind e ≡ OutOfMemory) × (0 < n)) ⊎ ((error_kind e ≡ InvalidData) × ¬ (IsUtf8 (take n s.block.bytes))))

-- what `read_line(out)` does, which left `out` so: these bytes were handed out, which are a text, behind those that were
-- there. A line that is buffered is appended whole, or not at all
pub record ReadsLine {S P : Type 0} (remaining : S → Option (List ℕ)) (rules : ReadRules P)
    (s : Buffered S P) (before : List ℕ) (answer : Result ℕ Error) (after : List ℕ) (t : Buffered S P) : Type 0 where
  pub handed : List ℕ
  pub appended : after ≡ before ++ handed
  pub text : IsUtf8 handed
  pub front : HandedFront remaining rules s handed t
  pub ends : EndsUntil IsPart no_text remaining rules 10 s answer handed t
  pub count : IfOk answer (λ n. n ≡ length handed)
  pub buffered : ¬ (Lacks 10 s.block.bytes)
      → (at : ℕ) × FirstAt 10 at s.block.bytes × AppendsLine remaining rules (at + 1) s before answer after t
