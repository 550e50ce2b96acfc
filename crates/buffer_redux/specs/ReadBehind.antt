-- What a read past the policy promises, behind what is buffered, and how a call goes on that leaves bytes buffered.
use Rattle.std.specs.Prelude.{◌≡◌, ℕ, ◌+◌, ◌*◌, ◌<◌, ◌≤◌, ◌⊎◌, List, [], ◌∷◌, ◌++◌, length, Result, Option, MatchResult}
use Rattle.std.specs.declared.io.Error.{Error}
use Rattle.redux_buffer.specs.Block.{capacity_for}
use Rattle.redux_buffer.specs.GrowError.{GrowthFailed}
use Rattle.redux_buffer.specs.Retried.{Retried, Step}
use Rattle.buffer_redux.specs.Policy.{ReadRules}
use Rattle.buffer_redux.specs.Buffered.{Buffered}
use Rattle.buffer_redux.specs.BufReader.{MovesFor, OfferedAll, RanDry}
use Rattle.buffer_redux.specs.FillRetried.{FillRetried}
use Rattle.buffer_redux.specs.ReadAll.{HandedFront}

-- one read past the policy, behind what is buffered: bytes came, or none since the reader ran dry; or it failed, or growth was
-- refused. The buffer grows for it by as little as it can, or growth is refused, only where bytes take more than half of that
pub record ReadsBehind {S P A : Type 0} (remaining : S → Option (List ℕ)) (rules : ReadRules P)
    (s : Buffered S P) (answer : Result A Error) (t : Buffered S P) : Type 0 where
  pub front : HandedFront remaining rules s [] t
  pub ended : MatchResult answer
      (λ _. (t.log.reads.faults ≡ s.log.reads.faults)
      × ((length s.block.bytes < length t.block.bytes) ⊎ ((t.block.bytes ≡ s.block.bytes) × RanDry s t)))
      (λ e. (t.block.bytes ≡ s.block.bytes)
      × ((t.log.reads.faults ≡ s.log.reads.faults ++ e ∷ [])
      ⊎ (GrowthFailed 1 s.block e × (s.block.capacity < 2 * length s.block.bytes) × (t ≡ s))))
  pub asks : t.log.reads.asks ≤ s.log.reads.asks + 1
  pub offer : s.log.reads.asks < t.log.reads.asks → OfferedAll t
  pub moves : MovesFor 1 s.block t.block
  pub policy : t.policy ≡ s.policy
  pub limit : t.block.limit ≡ s.block.limit
  pub capacity : 2 * length s.block.bytes ≤ s.block.capacity → t.block.capacity ≡ s.block.capacity
  pub grown : (t.block.capacity ≡ s.block.capacity) ⊎ (t.block.capacity ≡ capacity_for s.block 1)
  pub consumed : t.block.consumed ≡ s.block.consumed

-- how a call goes on: by a fill where nothing is buffered, and else by such a read
abbrev pub FillsOrReads : {S P : Type 0} → (S → Option (List ℕ)) → ReadRules P → Step (Buffered S P) (Unit {0})
FillsOrReads remaining rules s answer t = ((length s.block.bytes ≡ 0) × FillRetried remaining rules s answer t)
    ⊎ ((0 < length s.block.bytes) × Retried (ReadsBehind remaining rules) s answer t)

-- the same behind what it leaves buffered
abbrev pub FillsOn : {S P : Type 0} → (List ℕ → Type 0) → (S → Option (List ℕ)) → ReadRules P
    → Step (Buffered S P) (Unit {0})
FillsOn leaves remaining rules s answer t = leaves s.block.bytes × FillsOrReads remaining rules s answer t
