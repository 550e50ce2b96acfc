-- What holds between two payloads.
use Rattle.std.proofs.Common.{ℕ, ◌+◌, ◌≤◌, ◌⊎◌, length, true, Ok}
use Rattle.forward.specs.Filter.{FilterRules, StaysOpen}
use Rattle.forward.specs.Flushes.{FlushesSend}
use Rattle.forward.specs.Forward.{Forwarded, NoneFailed}
use Rattle.forward.specs.Link.{Ask, IsPrompt, Linked}
use Rattle.forward.specs.Steps.{CallsUpTo}
use Rattle.forward.specs.Target.{bytes_taken}

module _ {T W : Type 0} (rules : FilterRules T W) where
  -- `count` payloads went over, by asks of this kind
  pub record SoFar (Such : Ask T → Type 0) (count : ℕ) (first s : Linked T) : Type 0 where
    pub calls : CallsUpTo rules Such first (Ok true) s
    pub still : StaysOpen rules first.filter s.filter
    pub forwarded : Forwarded rules count first.filter s.filter
    pub met : NoneFailed rules first.filter s.filter

  -- a byte was taken in behind each flush, or the next flush is none
  abbrev pub Paced : T → T → Type 0
  Paced first s = ((rules.target s).log.writes.flushes + length (rules.target first).log.writes.received
      ≤ (rules.target first).log.writes.flushes + bytes_taken (rules.target s)) ⊎ (rules.drops × rules.sent s)

  -- so they went since `forward` began; and a byte was received behind each flush, but for one at most
  pub record Going (count : ℕ) (first s : Linked T) : Type 0 where
    pub so_far : SoFar (IsPrompt rules first.filter) count first s
    pub paced : Paced first.filter s.filter
    pub send : FlushesSend 1 (rules.target first.filter).log.writes (rules.target s.filter).log.writes
