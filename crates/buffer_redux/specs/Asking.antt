-- Where a stream is asked.
use Rattle.std.specs.Prelude.{◌≡◌, ℕ, ◌+◌, ◌<◌, ◌≤◌, ◌⊎◌, List, ◌++◌, length}
use Rattle.buffer_redux.specs.Unbuffer.{Unbuffered}

-- the stream was asked, also for the last time, only where what was left, then what had come, was such, and at most once more
-- than bytes had come then
pub record AskedOver {R : Type 0} (Such : List ℕ → Type 0) (s t : Unbuffered R) : Type 0 where
  pub came : List ℕ
  pub given : t.log.reads.given ≡ s.log.reads.given ++ (came ++ t.log.reads.latest)
  pub such : Such (s.left ++ came)
  pub some : s.log.reads.asks < t.log.reads.asks
  pub asks : t.log.reads.asks ≤ s.log.reads.asks + length came + 1

-- the stream wasn't asked, or only where what was there was such
abbrev pub AskedWhere : {R : Type 0} → (List ℕ → Type 0) → Unbuffered R → Unbuffered R → Type 0
AskedWhere Such s t = (t.log ≡ s.log) ⊎ AskedOver Such s t
