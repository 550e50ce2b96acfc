-- Lines that are copied where they have a word.
use Rattle.std.specs.Prelude.{◌≡◌, ℕ, ◌<◌, ◌⊎◌, List, [], ◌∷◌, ◌++◌, length, Option, Result, Err, IsErrAnd}
use Rattle.std.specs.Io.KnownBytes.{Appends}
use Rattle.std.specs.declared.io.Error.{Error}
use Rattle.memchr.specs.Find.{OccursAt}
use Rattle.buffer_redux.specs.Buffered.{Buffered}
use Rattle.buffer_redux.specs.BufReader.{ReadsToEnd}
use Rattle.buffer_redux.specs.BufWriter.{WasFlushed, WritesAlong}
use Rattle.buffer_redux.specs.LineWriter.{ThenSendsLines, line_rules}
use Rattle.buffer_redux.specs.Policy.{std_read_rules}
use Rattle.buffer_redux.specs.ReadUntil.{Lacks}
use Rattle.buffer_redux.specs.StreamLog.{StreamLog}
use Rattle.buffer_redux.specs.WriteAll.{WritesAll}
use Rattle.uses.specs.Tally.{AreFirstLines, HandsLine, HandsLines, StopsBehind}

-- the word stands in the line
abbrev pub HasWord : List ℕ → List ℕ → Type 0
HasWord word line = (at : ℕ) × OccursAt line word at

-- what goes on of a line: all of it, where the word stands in it, and else nothing
abbrev pub LineGoesThrough : List ℕ → List ℕ → List ℕ → Type 0
LineGoesThrough word line out = (HasWord word line × (out ≡ line)) ⊎ ((¬ (HasWord word line)) × (out ≡ []))

-- what goes on of these lines, in order
abbrev pub AllGoOn : List ℕ → List (List ℕ) → List ℕ → Type 0
AllGoOn word [] out = out ≡ []
AllGoOn word (line ∷ lines) out = (first : List ℕ) × (rest : List ℕ) × LineGoesThrough word line first
    × AllGoOn word lines rest × (out ≡ first ++ rest)

module _ {S P T Q : Type 0} (remaining : S → Option (List ℕ)) (tells : T → StreamLog) (trace : T → T → Type 0)
    (word : List ℕ) where
  -- these lines were read, and just what goes on of them was accepted, and not flushed: what had its end was sent, if what was
  -- buffered had been
  pub record FiltersLines (lines : List (List ℕ)) (s t : Buffered S P) (w v : Buffered T Q) : Type 0 where
    pub hands : HandsLines remaining std_read_rules lines s t
    pub out : List ℕ
    pub goes_on : AllGoOn word lines out
    pub along : WritesAlong tells trace line_rules w out v
    pub sent : Lacks 10 w.block.bytes → Lacks 10 v.block.bytes
    pub unflushed : v.log.writes.flushes ≡ w.log.writes.flushes

  -- how it ended behind so many lines: no more came, and a flush answered so; or the next wasn't read, and nothing was done to
  -- the writer; or the write of the next, which has the word, failed
  abbrev pub FilterEnded : ℕ → Result (Unit {0}) Error → Buffered S P → Buffered S P → Buffered T Q → Buffered T Q → Type 0
  FilterEnded n answer s t w v =
      (HandsLine remaining std_read_rules s [] t × ReadsToEnd remaining std_read_rules s [] t
      × WasFlushed tells trace w answer v)
      ⊎ IsErrAnd answer (λ e. (StopsBehind remaining std_read_rules n e s t × (v ≡ w))
      ⊎ ((line : List ℕ) × HandsLine remaining std_read_rules s line t × (0 < length line) × HasWord word line
      × ThenSendsLines tells trace (WritesAll tells trace line_rules w line) (Err e) v))

  -- these lines were read, and just what goes on of them was accepted; and then it ended so
  abbrev pub Filters : Result (Unit {0}) Error → Buffered S P → Buffered S P → Buffered T Q → Buffered T Q → Type 0
  Filters answer s t w v = (lines : List (List ℕ)) × (last : Buffered S P) × (m : Buffered T Q)
      × FiltersLines lines s last w m × FilterEnded (length lines) answer last t m v

-- just what goes on of the lines of a text was written behind what was there
pub record FiltersText (word text : List ℕ) (before after : Option (List ℕ)) : Type 0 where
  pub lines : List (List ℕ)
  pub are : AreFirstLines lines text []
  pub out : List ℕ
  pub goes_on : AllGoOn word lines out
  pub written : Appends before after out
