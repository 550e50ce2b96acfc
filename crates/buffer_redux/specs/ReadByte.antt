-- What a call promises that hands out one byte.
use Rattle.std.specs.Prelude.{◌≡◌, ℕ, ◌<◌, List, [], ◌∷◌, length, Result, Ok, Err, Option, None, Some, IsOkAnd}
use Rattle.std.specs.declared.io.Error.{Error}
use Rattle.buffer_redux.specs.Policy.{ReadRules}
use Rattle.buffer_redux.specs.Buffered.{Buffered}
use Rattle.buffer_redux.specs.BufReader.{ReaderConsumes, ReadsToEnd}
use Rattle.buffer_redux.specs.FillRetried.{FillRetried}
use Rattle.buffer_redux.specs.ReadAll.{HandedFront}
use Rattle.buffer_redux.specs.ReaderLaws.{WantsBytes}

-- the byte that such a call handed out
abbrev pub handed_byte : Result (Option ℕ) Error → List ℕ
handed_byte (Ok (Some byte)) = byte ∷ []
handed_byte (Ok None) = []
handed_byte (Err e) = []

-- the first byte that is buffered was handed out, of which the policy was told, and nobody was asked; nothing was done
-- where none is
abbrev pub TakesFirst : {S P : Type 0} → (S → Option (List ℕ)) → ReadRules P → Buffered S P → Option ℕ → Buffered S P
    → Type 0
TakesFirst remaining rules s (Some byte) t =
    HandedFront remaining rules s (byte ∷ []) t × (byte ∷ t.block.bytes ≡ s.block.bytes) × ReaderConsumes rules 1 s t
TakesFirst remaining rules s None t = (s.block.bytes ≡ []) × (t ≡ s)

-- a fill, made again where it was interrupted, and the first byte that is buffered then; or that fill failed
abbrev pub FillsAndTakes : {S P : Type 0} → (S → Option (List ℕ)) → ReadRules P → Buffered S P → Result (Option ℕ) Error
    → Buffered S P → Type 0
FillsAndTakes {S} {P} remaining rules s (Ok first) t =
    (filled : Buffered S P) × FillRetried remaining rules s (Ok tt) filled × TakesFirst remaining rules filled first t
FillsAndTakes remaining rules s (Err e) t = FillRetried remaining rules s (Err e) t

-- what `read_byte()` does: it takes the first byte that is buffered, where none is after a fill. There is none only where
-- the policy let the fill show nothing, or there is no capacity, or the reader has no more
pub record ReadsByte {S P : Type 0} (remaining : S → Option (List ℕ)) (rules : ReadRules P)
    (s : Buffered S P) (answer : Result (Option ℕ) Error) (t : Buffered S P) : Type 0 where
  pub front : HandedFront remaining rules s (handed_byte answer) t
  pub buffered : 0 < length s.block.bytes → IsOkAnd answer (λ first. TakesFirst remaining rules s first t)
  pub filled : length s.block.bytes ≡ 0 → FillsAndTakes remaining rules s answer t
  pub end : answer ≡ Ok None → WantsBytes (rules.claims s.policy) → 0 < s.block.capacity
      → ReadsToEnd remaining rules s [] t
