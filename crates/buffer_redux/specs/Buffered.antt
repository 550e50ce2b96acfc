-- What contracts see of a buffered reader or writer.
use Rattle.std.specs.Prelude.{◌≡◌, ℕ, ◌<◌, ◌≤◌, ◌⊎◌, List, length, Result, IfOk, IfErr}
use Rattle.std.specs.Io.{WritesAtMost}
use Rattle.std.specs.declared.io.Error.{Error}
use Rattle.redux_buffer.specs.Block.{Block, Kind, IsNew, IsBlock}
use Rattle.redux_buffer.specs.GrowError.{FitsWithin}
use Rattle.redux_buffer.specs.StreamLog.{StreamLog, no_calls}
use Rattle.buffer_redux.specs.declared.errors.MakeError.{MakeError}
use Rattle.buffer_redux.specs.MakeError.{growth}

-- the policy, the buffer, the stream inside, what that stream tells, and what was noted of the calls of its own
pub record Buffered (S P : Type 0) : Type 0 where
  pub policy : P
  pub block : Block
  pub inner : S
  pub log : StreamLog
  pub own_calls : StreamLog

-- what a maker returns: one over this stream, with an empty buffer, or the stream and why no buffer of this capacity was had
pub record Makes {S P : Type 0} (tells : S → StreamLog) (kind : Kind) (cap limit : ℕ) (stream : S)
    (answer : Result (Buffered S P) (MakeError S)) : Type 0 where
  pub made : IfOk answer (λ b. record {
    new : IsNew kind cap b.block;
    whole : IsBlock b.block;
    inner : b.inner ≡ stream;
    log : b.log ≡ tells stream;
    calls : b.own_calls ≡ no_calls;
  })
  pub handed_back : IfErr answer (λ e. e.0 ≡ stream)
  pub within : FitsWithin (growth answer) cap limit

-- a call goes past the buffer where that is empty, and no larger than the slice
abbrev pub GoesPast : Block → ℕ → Type 0
GoesPast b room = (length b.bytes ≡ 0) × (b.capacity ≤ room)

abbrev pub StaysInside : Block → ℕ → Type 0
StaysInside b room = (0 < length b.bytes) ⊎ (room < b.capacity)

-- one call of the stream inside for all of the bytes; neither the policy nor the buffer was touched
pub record GoesDirect {S P : Type 0} (after : StreamLog → List ℕ → Result ℕ Error → StreamLog)
    (s : Buffered S P) (bytes : List ℕ) (answer : Result ℕ Error) (t : Buffered S P) : Type 0 where
  pub policy : t.policy ≡ s.policy
  pub block : t.block ≡ s.block
  pub bound : WritesAtMost answer bytes
  pub told : t.log ≡ after s.log bytes answer

-- calls took the stream inside from where it was to where it is, the log is what it tells, and no call of its own was
-- noted
pub record InnerWent {S P : Type 0} (tells : S → StreamLog) (trace : S → S → Type 0)
    (s t : Buffered S P) : Type 0 where
  pub calls : trace s.inner t.inner
  pub told_before : s.log ≡ tells s.inner
  pub told_after : t.log ≡ tells t.inner
  pub noted : t.own_calls ≡ s.own_calls

-- with another buffer, under another policy, and with another stream inside
abbrev pub with_block : {S P : Type 0} → Buffered S P → Block → Buffered S P
with_block b block = record b { block = block }

abbrev pub with_policy : {S P Q : Type 0} → Buffered S P → Q → Buffered S Q
with_policy b p = record { policy = p; block = b.block; inner = b.inner; log = b.log; own_calls = b.own_calls }

abbrev pub with_inner : {S P : Type 0} → (S → StreamLog) → Buffered S P → S → Buffered S P
with_inner tells b stream = record b { inner = stream; log = tells stream }

-- with these calls of its own
abbrev pub with_calls : {S P : Type 0} → Buffered S P → StreamLog → Buffered S P
with_calls b calls = record b { own_calls = calls }

-- over this buffer, with no call of its own yet
abbrev pub over_buffer : {S P : Type 0} → (S → StreamLog) → P → Block → S → Buffered S P
over_buffer tells p block stream =
    record { policy = p; block = block; inner = stream; log = tells stream; own_calls = no_calls }
