-- How often a log is closed.
use Rattle.std.specs.Prelude.{ℕ, ◌<◌, length, zero, suc}
use Rattle.buffer_redux.specs.Block.{Block}
use Rattle.buffer_redux.specs.Buffered.{Buffered, over_buffer}
use Rattle.buffer_redux.specs.StreamLog.{StreamLog}
use Rattle.buffer_redux.specs.Unwrapping.{KeepsUnsent}
use Rattle.buffer_redux.specs.declared.policy.writers.FlushOnNewline.{FlushOnNewline}

-- the log was closed, and so many times again, each time over the bytes that came back, of which there were some
abbrev pub ClosesAgain : {S : Type 0} → (S → StreamLog) → (S → S → Type 0) → ℕ → Buffered S FlushOnNewline → S → Block → Type 0
ClosesAgain tells trace zero log device unsent = KeepsUnsent tells trace log device unsent
ClosesAgain {S} tells trace (suc k) log device unsent = (before : S) × (left : Block) × ClosesAgain tells trace k log before left
    × (0 < length left.bytes)
    × KeepsUnsent tells trace (over_buffer {P = FlushOnNewline} tells (record {}) left before) device unsent
