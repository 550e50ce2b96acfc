-- Lines that are written, one after another.
use Rattle.std.specs.Prelude.{◌≡◌, ℕ, List, [], ◌∷◌, ◌++◌, take, Result, Err, MatchResult}
use Rattle.std.specs.declared.io.Error.{Error}
use Rattle.buffer_redux.specs.StreamLog.{StreamLog}
use Rattle.buffer_redux.specs.Buffered.{Buffered}
use Rattle.buffer_redux.specs.BufWriter.{WritesInOrder}
use Rattle.buffer_redux.specs.Policy.{WriteRules}
use Rattle.buffer_redux.specs.WriteAll.{TookBeginning, WritesAll}
use Rattle.line_reader.specs.Lines.{newline, with_newline, with_newlines}

-- the first so many lines were taken in with their ends, and of the next one, with its end, a beginning
pub record StopsInLine {S P : Type 0} (lines : List (List ℕ)) (taken : ℕ) (s t : Buffered S P) : Type 0 where
  pub line : List ℕ
  pub later : List (List ℕ)
  pub all : lines ≡ take taken lines ++ line ∷ later
  pub between : Buffered S P
  pub whole : WritesInOrder s (with_newlines (take taken lines)) between
  pub part : TookBeginning (with_newline line) between t

-- the line was written by one call, and its end by another where that was Ok; an error of the first is the answer
pub record WritesLine {S P : Type 0} (tells : S → StreamLog) (trace : S → S → Type 0) (rules : WriteRules P)
    (s : Buffered S P) (line : List ℕ) (answer : Result (Unit {0}) Error) (t : Buffered S P) : Type 0 where
  pub writing : Result (Unit {0}) Error
  pub between : Buffered S P
  pub wrote : WritesAll tells trace rules s line writing between
  pub ended : MatchResult writing
      (λ _. WritesAll tells trace rules between (newline ∷ []) answer t) (λ e. (answer ≡ Err e) × (t ≡ between))
