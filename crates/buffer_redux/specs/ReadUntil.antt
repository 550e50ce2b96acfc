-- What calls promise that go on up to a byte, fill after fill.
use Rattle.std.specs.Prelude.{◌≡◌, ℕ, zero, suc, ◌+◌, ◌^◌, ◌<◌, ◌≤◌, ◌⊎◌, List, [], ◌∷◌, ◌++◌, length, take, drop, Result, Ok, Err, Option, IfOk, IsOkAnd}
use Rattle.std.specs.List.{All}
use Rattle.std.specs.Io.BufRead.{take_through}
use Rattle.std.specs.IoError.{error_kind}
use Rattle.std.specs.declared.io.Error.{Error}
use Rattle.std.specs.declared.io.ErrorKind.TheVariants.{InvalidData, OutOfMemory, TimedOut}
use Rattle.redux_buffer.specs.Faults.{OnlyInterrupts}
use Rattle.redux_buffer.specs.Retried.{Step}
use Rattle.buffer_redux.specs.Policy.{ReadRules}
use Rattle.buffer_redux.specs.Buffered.{Buffered}
use Rattle.buffer_redux.specs.BufReader.{RanDry, ReaderConsumes, ReadsToEnd}
use Rattle.buffer_redux.specs.ReadAll.{HandedFront}
use Rattle.buffer_redux.specs.ReadBehind.{FillsOn}
use Rattle.buffer_redux.specs.ReaderLaws.{WantsBytes}

-- the byte is nowhere in these
abbrev pub Lacks : ℕ → List ℕ → Type 0
Lacks byte bytes = All (λ b. ¬ (b ≡ byte)) bytes

-- the byte stands first at this place
pub record FirstAt (byte at : ℕ) (bytes : List ℕ) : Type 0 where
  pub inside : at < length bytes
  pub plain : Lacks byte (take at bytes)
  pub equal : take at bytes ++ byte ∷ drop (1 + at) bytes ≡ bytes

-- the byte stands last in these, and nowhere else
pub record EndsIn (byte : ℕ) (bytes : List ℕ) : Type 0 where
  pub front : List ℕ
  pub plain : Lacks byte front
  pub equal : bytes ≡ front ++ byte ∷ []

-- the first n bytes that are buffered were dropped, and the policy was told so. Of no bytes it isn't told
pub record DropsFirst {S P : Type 0} (rules : ReadRules P) (n : ℕ) (s t : Buffered S P) : Type 0 where
  pub none : n ≡ 0 → t ≡ s
  pub some : 0 < n → ReaderConsumes rules n s t

-- some bytes that are buffered were dropped, or none
abbrev pub DropsSome : {S P : Type 0} → ReadRules P → Buffered S P → Buffered S P → Type 0
DropsSome rules s t = (n : ℕ) × (n ≤ length s.block.bytes) × DropsFirst rules n s t

-- bytes were dropped, and then so many times there was a fill that showed more, or what the call makes in place of one, and a
-- drop behind it. So nobody is asked behind a fill that showed no more, which ends the call; and of what is dropped between two
-- fills the policy is told at once
abbrev pub Steps : {S P : Type 0} → ReadRules P → Step (Buffered S P) (Unit {0}) → ℕ → Buffered S P → Buffered S P → Type 0
Steps rules step zero s t = DropsSome rules s t
Steps {S} {P} rules step (suc count) s t = (m : Buffered S P) × (filled : Buffered S P) × Steps rules step count s m
    × step m (Ok tt) filled × (length m.block.bytes < length filled.block.bytes) × DropsSome rules filled t

-- these bytes were handed out, which lack the byte, and no fault came but interrupted reads
pub record Passes {S P : Type 0} (remaining : S → Option (List ℕ)) (rules : ReadRules P) (step : Step (Buffered S P) (Unit {0}))
    (byte : ℕ) (s : Buffered S P) (handed : List ℕ) (t : Buffered S P) : Type 0 where
  pub front : HandedFront remaining rules s handed t
  pub plain : Lacks byte handed
  pub faults : OnlyInterrupts s.log.reads.faults t.log.reads.faults
  pub steps : (count : ℕ) × Steps rules step count s t

-- these bytes were handed out, which lack the byte, and then a fill answered so
pub record PassesAndFills {S P : Type 0} (remaining : S → Option (List ℕ)) (rules : ReadRules P)
    (step : Step (Buffered S P) (Unit {0})) (byte : ℕ) (s : Buffered S P) (handed : List ℕ) (answer : Result (Unit {0}) Error)
    (t : Buffered S P) : Type 0 where
  pub last : Buffered S P
  pub passes : Passes remaining rules step byte s handed last
  pub fill : step last answer t

-- that fill showed nothing. Where the policy wants bytes and there is capacity, the reader has no more
pub record PassesToEnd {S P : Type 0} (remaining : S → Option (List ℕ)) (rules : ReadRules P)
    (step : Step (Buffered S P) (Unit {0})) (byte : ℕ) (s : Buffered S P) (handed : List ℕ) (t : Buffered S P) : Type 0 where
  pub fills : PassesAndFills remaining rules step byte s handed (Ok tt) t
  pub none : t.block.bytes ≡ []
  pub end : WantsBytes (rules.claims s.policy) → 0 < s.block.capacity → ReadsToEnd remaining rules s handed t

-- why a call stopped of its own before these bytes, which handed those out
abbrev pub Stops : Type 1
Stops = List ℕ → Error → List ℕ → Type 0

-- the call had no memory for them
abbrev pub no_memory : Stops
no_memory handed e bytes = (error_kind e ≡ OutOfMemory) × (0 < length bytes)

-- a call that appends, for which there was so much room, and which answers this error, has appended these bytes: its last fill
-- failed so, or they and what is buffered, up to the byte, are more
abbrev pub FilledOrFull : {S P : Type 0} → (List ℕ → Type 0) → (S → Option (List ℕ)) → ReadRules P → ℕ → Buffered S P
    → ℕ → Error → List ℕ → Buffered S P → Type 0
FilledOrFull leaves remaining rules byte s room e after t =
    ((handed : List ℕ) × PassesAndFills remaining rules (FillsOn leaves remaining rules) byte s handed (Err e) t)
    ⊎ (room < length after + length (take_through byte t.block.bytes))

-- behind bytes that the call leaves buffered the reader ran dry
pub record BreaksOff {S P : Type 0} (leaves : List ℕ → Type 0) (remaining : S → Option (List ℕ)) (rules : ReadRules P)
    (byte : ℕ) (s : Buffered S P) (handed : List ℕ) (e : Error) (t : Buffered S P) : Type 0 where
  pub fills : PassesAndFills remaining rules (FillsOn leaves remaining rules) byte s handed (Ok tt) t
  pub behind : fills.last.block.bytes ≡ t.block.bytes
  pub dry : RanDry fills.last t
  pub some : 0 < length t.block.bytes
  pub part : leaves t.block.bytes
  pub plain : Lacks byte t.block.bytes
  pub kind : error_kind e ≡ InvalidData

-- how a call ends that may leave such bytes buffered, and handed these out: at Ok they end in the byte, after no fault but
-- interrupted reads, or at the end of all; at Err they lack it, and the last fill failed, or the call stopped before what is
-- buffered, up to the byte, or behind bytes that it leaves
abbrev pub EndsUntil : {S P A : Type 0} → (List ℕ → Type 0) → Stops → (S → Option (List ℕ)) → ReadRules P → ℕ
    → Buffered S P → Result A Error → List ℕ → Buffered S P → Type 0
EndsUntil leaves stops remaining rules byte s (Ok a) handed t = (EndsIn byte handed
    × OnlyInterrupts s.log.reads.faults t.log.reads.faults
    × ((count : ℕ) × Steps rules (FillsOn leaves remaining rules) count s t))
    ⊎ PassesToEnd remaining rules (FillsOn leaves remaining rules) byte s handed t
EndsUntil leaves stops remaining rules byte s (Err e) handed t =
    PassesAndFills remaining rules (FillsOn leaves remaining rules) byte s handed (Err e) t
    ⊎ ((Passes remaining rules (FillsOn leaves remaining rules) byte s handed t
    × stops handed e (take_through byte t.block.bytes)) ⊎ BreaksOff leaves remaining rules byte s handed e t)

-- the first n bytes that are buffered were handed out, behind those that were there; without memory nothing was done
abbrev pub AppendsFirst : {S P A : Type 0} → (S → Option (List ℕ)) → ReadRules P → ℕ → Buffered S P → List ℕ
    → Result A Error → List ℕ → Buffered S P → Type 0
AppendsFirst remaining rules n s before (Ok a) after t =
    (after ≡ before ++ take n s.block.bytes) × HandedFront remaining rules s (take n s.block.bytes) t
    × DropsFirst rules n s t
AppendsFirst remaining rules n s before (Err e) after t =
    (after ≡ before) × (t ≡ s) × (0 < n) × (error_kind e ≡ OutOfMemory)

-- what `skip_until(byte)` does: these bytes were handed out to nobody. Where the byte is buffered, those up to it are
-- dropped, and nobody is asked. It stops before bytes that no usize counts
pub record SkipsUntil {S P : Type 0} (remaining : S → Option (List ℕ)) (rules : ReadRules P) (byte : ℕ)
    (s : Buffered S P) (answer : Result ℕ Error) (t : Buffered S P) : Type 0 where
  pub handed : List ℕ
  pub front : HandedFront remaining rules s handed t
  pub ends : EndsUntil (λ left. left ≡ [])
      (λ handed e bytes. (error_kind e ≡ TimedOut) × (2 ^ 64 ≤ length handed + length bytes)) remaining rules byte s answer
      handed t
  pub count : IfOk answer (λ n. n ≡ length handed)
  pub buffered : ¬ (Lacks byte s.block.bytes)
      → (at : ℕ) × FirstAt byte at s.block.bytes × IsOkAnd answer (λ n. (n ≡ at + 1) × ReaderConsumes rules n s t)

-- what `read_until(byte, out)` does, which left `out` so: these bytes were handed out, behind those that were there. Where
-- the byte is buffered, those up to it are appended, or nothing is done, and nobody is asked
pub record ReadsUntil {S P : Type 0} (remaining : S → Option (List ℕ)) (rules : ReadRules P) (byte : ℕ)
    (s : Buffered S P) (before : List ℕ) (answer : Result ℕ Error) (after : List ℕ) (t : Buffered S P) : Type 0 where
  pub handed : List ℕ
  pub appended : after ≡ before ++ handed
  pub front : HandedFront remaining rules s handed t
  pub ends : EndsUntil (λ left. left ≡ []) no_memory remaining rules byte s answer handed t
  pub count : IfOk answer (λ n. n ≡ length handed)
  pub buffered : ¬ (Lacks byte s.block.bytes)
      → (at : ℕ) × FirstAt byte at s.block.bytes × AppendsFirst remaining rules (at + 1) s before answer after t
