-- The parts of a read through the buffer: one question of the policy, the fill that goes on from it, and what is handed out.
use Rattle.std.specs.Prelude.{◌≡◌, ℕ, List, ◌++◌, length, take, drop, min, Result, Ok, Err, Option}
use Rattle.std.specs.Io.KnownBytes.{IsAtEnd}
use Rattle.std.specs.declared.io.Error.{Error}
use Rattle.redux_buffer.specs.Block.{IsBlock}
use Rattle.buffer_redux.specs.declared.policy.DoRead.{DoRead}
use Rattle.buffer_redux.specs.Policy.{ReadRules, BeforeRead}
use Rattle.buffer_redux.specs.Buffered.{Buffered}
use Rattle.buffer_redux.specs.Fill.{Filled}
use Rattle.buffer_redux.specs.BufReader.{ReadsInOrder, ReaderKeeps, RanDry, InnerGives, ReaderConsumes}

-- the policy was asked and answered so, and nothing else was done
pub record AskedRead {S P : Type 0} (rules : ReadRules P) (answer : Result DoRead Error) (s m : Buffered S P)
    : Type 0 where
  pub asked : BeforeRead rules s.policy s.block answer m.policy m.block
  pub whole : IsBlock s.block
  pub inner : m.inner ≡ s.inner
  pub told : m.log ≡ s.log
  pub noted : m.own_calls ≡ s.own_calls

-- what a fill did
pub record FillDone {S P A : Type 0} (remaining : S → Option (List ℕ)) (rules : ReadRules P)
    (s : Buffered S P) (answer : Result A Error) (t : Buffered S P) : Type 0 where
  pub filled : Filled rules s answer t
  pub known : InnerGives remaining s t
  pub ended : RanDry s t → IsAtEnd (remaining t.inner)
  pub noted : t.own_calls ≡ s.own_calls
  pub whole : IsBlock t.block

-- the first n bytes that are buffered were handed out, as many as fit
pub record HandOut {S P : Type 0} (remaining : S → Option (List ℕ)) (rules : ReadRules P) (m : Buffered S P) (out : List ℕ)
    (n : ℕ) (out' : List ℕ) (t : Buffered S P) : Type 0 where
  pub count : n ≡ min (length m.block.bytes) (length out)
  pub copied : out' ≡ take n m.block.bytes ++ drop n out
  pub in_order : ReadsInOrder m (take n m.block.bytes) t
  pub inner : t.inner ≡ m.inner
  pub consumed : ReaderConsumes rules n m t
  pub keeps : ReaderKeeps remaining rules m t

-- a fill, and then bytes were handed out unless it failed
abbrev pub ReadsInside : {S P : Type 0} → (S → Option (List ℕ)) → ReadRules P
    → Buffered S P → List ℕ → Result ℕ Error → List ℕ → Buffered S P → Type 0
ReadsInside {S} {P} remaining rules s out (Ok n) out' t = (filled : Buffered S P)
    × FillDone remaining rules s (Ok n) filled × HandOut remaining rules filled out n out' t
ReadsInside remaining rules s out (Err e) out' t = FillDone {A = ℕ} remaining rules s (Err e) t × (out' ≡ out)
