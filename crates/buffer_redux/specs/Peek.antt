-- What a look at the bytes ahead promises.
use Rattle.std.specs.Prelude.{◌≡◌, ℕ, ◌+◌, ◌-◌, ◌<◌, ◌≤◌, ◌⊎◌, List, [], ◌++◌, length, Result, Option, MatchResult}
use Rattle.std.specs.declared.io.Error.{Error}
use Rattle.redux_buffer.specs.Block.{IsBlock}
use Rattle.redux_buffer.specs.StreamLog.{with_fault}
use Rattle.buffer_redux.specs.Policy.{ReadRules}
use Rattle.buffer_redux.specs.Buffered.{Buffered}
use Rattle.buffer_redux.specs.BufReader.{MovesFor, OfferedAll, ReadsAlong}
use Rattle.buffer_redux.specs.Sparing.{Spared}

-- the reader inside was asked, also for the last time, only where fewer than n bytes were buffered: those at first, then what
-- had come since. Each ask but the last gave a byte. The last offered all the room, and what it gave stands behind them
pub record AskedAhead {S P : Type 0} (n : ℕ) (s t : Buffered S P) : Type 0 where
  pub some : s.log.reads.asks < t.log.reads.asks
  pub came : List ℕ
  pub few : length (s.block.bytes ++ came) < n
  pub given : t.log.reads.given ≡ s.log.reads.given ++ (came ++ t.log.reads.latest)
  pub bytes : t.block.bytes ≡ s.block.bytes ++ (came ++ t.log.reads.latest)
  pub asks : t.log.reads.asks ≤ s.log.reads.asks + length came + 1
  pub offer : OfferedAll t

-- reads past the policy, one after another, until n bytes are buffered: fewer are, where the last of them, and no other, gave
-- nothing, or failed. They hand out and drop nothing, and nothing is done where so many are buffered; and each number that is at
-- least n is spared
pub record ReadsAhead {S P A : Type 0} (remaining : S → Option (List ℕ)) (rules : ReadRules P) (n : ℕ)
    (s : Buffered S P) (answer : Result A Error) (t : Buffered S P) : Type 0 where
  pub along : ReadsAlong remaining rules s [] t
  pub ended : MatchResult answer
      (λ _. ((n ≤ length t.block.bytes) × (t.log.reads.zero_reads ≡ s.log.reads.zero_reads))
      ⊎ ((length t.block.bytes < n) × (t.log.reads.zero_reads ≡ s.log.reads.zero_reads + 1)))
      (λ _. (length t.block.bytes < n) × (t.log.reads.zero_reads ≡ s.log.reads.zero_reads))
  pub caused : t.log.reads.faults ≡ with_fault s.log.reads.faults answer
  pub buffered : n ≤ length s.block.bytes → t ≡ s
  pub asked : (t.log ≡ s.log) ⊎ AskedAhead n s t
  pub consumed : t.block.consumed ≡ s.block.consumed
  pub moves : MovesFor (n - length s.block.bytes) s.block t.block
  pub policy : t.policy ≡ s.policy
  pub capacity : t.block.capacity ≡ s.block.capacity
  pub limit : t.block.limit ≡ s.block.limit
  pub kind : t.block.kind ≡ s.block.kind
  pub noted : t.own_calls ≡ s.own_calls
  pub sparing : (keep : ℕ) → n ≤ keep → Spared keep s t
  pub whole : IsBlock t.block
