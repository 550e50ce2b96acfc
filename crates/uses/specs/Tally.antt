-- Lines that are read, one behind the other, by `read_until`.
use Rattle.std.specs.Prelude.{◌≡◌, ℕ, ◌+◌, ◌^◌, ◌<◌, ◌≤◌, ◌⊎◌, List, [], ◌∷◌, length, Ok, Err, Option}
use Rattle.std.specs.Io.BufRead.{drop_through, take_through}
use Rattle.std.specs.IoError.{error_kind}
use Rattle.std.specs.declared.io.Error.{Error}
use Rattle.std.specs.declared.io.ErrorKind.TheVariants.{Other}
use Rattle.buffer_redux.specs.Buffered.{Buffered}
use Rattle.buffer_redux.specs.Policy.{ReadRules}
use Rattle.buffer_redux.specs.ReadUntil.{ReadsUntil}

-- these are the first lines of a text, each with its end, where it has one, and this is the rest
abbrev pub AreFirstLines : List (List ℕ) → List ℕ → List ℕ → Type 0
AreFirstLines [] text rest = text ≡ rest
AreFirstLines (line ∷ lines) text rest =
    (0 < length text) × (line ≡ take_through 10 text) × AreFirstLines lines (drop_through 10 text) rest

module _ {S P : Type 0} (remaining : S → Option (List ℕ)) (rules : ReadRules P) where
  -- one `read_until` handed these bytes out: a line with its end, or what the reader had before it ran dry
  abbrev pub HandsLine : Buffered S P → List ℕ → Buffered S P → Type 0
  HandsLine s line t = (n : ℕ) × ReadsUntil remaining rules 10 s [] (Ok n) line t

  -- so these lines were handed out, each of some bytes
  abbrev pub HandsLines : List (List ℕ) → Buffered S P → Buffered S P → Type 0
  HandsLines [] s t = s ≡ t
  HandsLines (line ∷ lines) s t =
      (m : Buffered S P) × HandsLine s line m × (0 < length line) × HandsLines lines m t

  -- so many lines were handed out, and then one more `read_until` met the end, and handed nothing out
  abbrev pub ReadsLines : ℕ → Buffered S P → Buffered S P → Type 0
  ReadsLines n s t = (lines : List (List ℕ)) × (last : Buffered S P) × HandsLines lines s last × (n ≡ length lines)
      × HandsLine last [] t

  -- behind so many lines a `read_until` of the next, which got so far, failed with this error; or they are more than a `u64`
  -- counts
  abbrev pub StopsBehind : ℕ → Error → Buffered S P → Buffered S P → Type 0
  StopsBehind n e last t = ((got : List ℕ) × ReadsUntil remaining rules 10 last [] (Err e) got t)
      ⊎ ((error_kind e ≡ Other) × (2 ^ 64 ≤ n + 1) × (t ≡ last))

  -- lines were handed out, and the next stopped so
  abbrev pub StopsInLines : Error → Buffered S P → Buffered S P → Type 0
  StopsInLines e s t = (lines : List (List ℕ)) × (last : Buffered S P) × HandsLines lines s last
      × StopsBehind (length lines) e last t
