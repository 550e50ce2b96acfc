-- What contracts see of an `Unbuffer`.
use Rattle.std.specs.Prelude.{◌≡◌, ℕ, ◌<◌, min, List, [], ◌++◌, length, drop, Option, None, Some, Result, Ok}
use Rattle.std.specs.Io.{ReadsAtMost}
use Rattle.std.specs.Io.KnownBytes.{prepend_known, Consumes}
use Rattle.std.specs.declared.io.Error.{Error}
use Rattle.redux_buffer.specs.Block.{Block}
use Rattle.redux_buffer.specs.GivesRemaining.{GivesRemaining}
use Rattle.redux_buffer.specs.LogGrows.{ReadLogGrows}
use Rattle.redux_buffer.specs.StreamLog.{StreamLog, portion, after_read}
use Rattle.buffer_redux.specs.Buffered.{Buffered}

-- the bytes that are left of the buffer, the reader inside, and what that reader tells
pub record Unbuffered (R : Type 0) : Type 0 where
  pub left : List ℕ
  pub inner : R
  pub log : StreamLog

-- what a buffered reader becomes, or a writer of which what is left wasn't sent
abbrev pub unbuffered : {S P : Type 0} → Buffered S P → Unbuffered S
unbuffered r = record { left = r.block.bytes; inner = r.inner; log = r.log }

-- what it is known to have left: the bytes that are left of the buffer, and then what the reader inside has left
abbrev pub unbuffer_remaining : {R : Type 0} → (R → Option (List ℕ)) → Unbuffered R → Option (List ℕ)
unbuffer_remaining remaining u = prepend_known u.left (remaining u.inner)

-- the bytes of a buffer that is there
abbrev pub bytes_in : Option Block → List ℕ
bytes_in None = []
bytes_in (Some b) = b.bytes

-- the bytes handed out, then those left, are those that were left, then those given since
pub record HandsOutInOrder {R : Type 0} (s : Unbuffered R) (handed : List ℕ) (t : Unbuffered R) : Type 0 where
  pub got : List ℕ
  pub given : t.log.reads.given ≡ s.log.reads.given ++ got
  pub equal : handed ++ t.left ≡ s.left ++ got

-- just these bytes were handed out, and none was lost or changed place
pub record UnbufferHands {R : Type 0} (remaining : R → Option (List ℕ)) (s : Unbuffered R) (handed : List ℕ) (t : Unbuffered R)
    : Type 0 where
  pub order : HandsOutInOrder s handed t
  pub known : Consumes (unbuffer_remaining remaining s) (unbuffer_remaining remaining t) handed
  pub grows : ReadLogGrows s.log.reads t.log.reads

-- what `read` does, whose slice held `was` and holds `slice`: bytes that are left come out, as many as fit, and the reader inside
-- isn't asked; where none are left, that is asked once
pub record UnbufferReads {R : Type 0} (remaining : R → Option (List ℕ)) (s : Unbuffered R) (was : List ℕ)
    (answer : Result ℕ Error) (slice : List ℕ) (t : Unbuffered R) : Type 0 where
  pub bound : ReadsAtMost answer slice
  pub size : length slice ≡ length was
  pub handed : UnbufferHands remaining s (portion slice answer) t
  pub left : 0 < length s.left → (answer ≡ Ok (min (length s.left) (length was)))
      × (t ≡ record s { left = drop (length was) s.left }) × (drop (length s.left) slice ≡ drop (length s.left) was)
  pub asked : length s.left ≡ 0 → (t.left ≡ []) × (t.log ≡ after_read s.log slice answer)

-- what readers of one stream do, one after another, each made of what the one before it left, of whichever layer they are: these
-- bytes, then what is left, are what was left, then what was given since; and of what the stream is known to have left just
-- what it gave is gone
pub record StreamWent {R : Type 0} (remaining : R → Option (List ℕ)) (s : Unbuffered R) (bytes : List ℕ) (t : Unbuffered R)
    : Type 0 where
  pub order : HandsOutInOrder s bytes t
  pub known : GivesRemaining (remaining s.inner) s.log.reads (remaining t.inner) t.log.reads
  pub grows : ReadLogGrows s.log.reads t.log.reads
