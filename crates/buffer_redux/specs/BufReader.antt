-- What the calls of a buffered reader promise.
use Rattle.std.specs.Prelude.{◌≡◌, ℕ, ◌+◌, ◌-◌, ◌<◌, ◌≤◌, ◌⊎◌, List, [], ◌∷◌, ◌++◌, length, drop, min, Result, Ok, Err, Bool, true, false, Option, is_ok, IfOk, IfSome, OnOk, MatchResult, ⊤}
use Rattle.std.specs.Borrow.{Bor}
use Rattle.std.specs.declared.io.Error.{Error}
use Rattle.redux_buffer.specs.Block.{Block, IsBlock, ConsumesFirst, OnKind, OnlyRingMoves, usable}
use Rattle.redux_buffer.specs.LogGrows.{ReadLogGrows}
use Rattle.redux_buffer.specs.StreamLog.{after_read}
use Rattle.redux_buffer.specs.GivesRemaining.{GivesRemaining}
use Rattle.redux_buffer.specs.Transfer.{ReadsFrom}
use Rattle.buffer_redux.specs.declared.policy.DoRead.{DoRead}
use Rattle.buffer_redux.specs.Policy.{ReadRules, BeforeRead, AfterConsume, no_read, read_now}
use Rattle.buffer_redux.specs.Buffered.{Buffered, GoesPast, StaysInside, GoesDirect}
use Rattle.buffer_redux.specs.Fill.{Answered, Ordered, Turns, Filled}
use Rattle.buffer_redux.specs.Sparing.{SparesClaimed}

-- the bytes handed out, then those buffered, are those that were buffered, then those given since; and no more were consumed
-- than were handed out
pub record ReadsInOrder {S P : Type 0} (s : Buffered S P) (handed : List ℕ) (t : Buffered S P) : Type 0 where
  pub got : List ℕ
  pub given : t.log.reads.given ≡ s.log.reads.given ++ got
  pub equal : handed ++ t.block.bytes ≡ s.block.bytes ++ got
  pub consumed : t.block.consumed ≤ s.block.consumed + length handed

-- the first n bytes were dropped, or all, and the policy was told so
pub record ReaderConsumes {S P : Type 0} (rules : ReadRules P) (n : ℕ) (s t : Buffered S P) : Type 0 where
  pub left : Block
  pub dropped : ConsumesFirst (min n (length s.block.bytes)) s.block left
  pub moved : OnlyRingMoves s.block left
  pub told_policy : AfterConsume rules s.policy left (min n (length s.block.bytes)) t.policy t.block
  pub told : t.log ≡ s.log

-- after these turns the policy gave this answer, which left it and the buffer as they are now, and nothing was read since
pub record PolicyGave {S P : Type 0} (rules : ReadRules P) (answer : Result DoRead Error) (s t : Buffered S P)
    : Type 0 where
  pub count : ℕ
  pub last : Buffered S P
  pub turns : Turns rules count s last
  pub gave : BeforeRead rules last.policy last.block answer t.policy t.block
  pub told : t.log ≡ last.log

-- an error is the reader's last fault, or the policy's answer; an Ok met no fault
abbrev pub ReadErrorCaused : {S P A : Type 0} → ReadRules P → Buffered S P → Result A Error → Buffered S P → Type 0
ReadErrorCaused rules s (Ok a) t = t.log.reads.faults ≡ s.log.reads.faults
ReadErrorCaused rules s (Err e) t =
    (t.log.reads.faults ≡ s.log.reads.faults ++ e ∷ []) ⊎ PolicyGave rules (Err e) s t

-- how often the reader gave nothing so far though it was asked for something
abbrev pub empty_reads : {S P : Type 0} → Buffered S P → ℕ
empty_reads s = s.log.reads.zero_reads

-- the reader gave nothing though it was asked for something
abbrev pub RanDry : {S P : Type 0} → Buffered S P → Buffered S P → Type 0
RanDry s t = s.log.reads.zero_reads < t.log.reads.zero_reads

-- the last ask offered all that could be written: what still can be, and what it gave
abbrev pub OfferedAll : {S P : Type 0} → Buffered S P → Type 0
OfferedAll t = t.log.reads.offer ≡ usable t.block + length t.log.reads.latest

-- a plain buffer moved none of its bytes where so many more fitted behind them, and else each once at most
pub record MovesFor (more : ℕ) (old new : Block) : Type 0 where
  pub still : more ≤ usable old → OnlyRingMoves old new
  pub once : OnKind old.kind (new.moved ≤ old.moved + length old.bytes) ⊤

-- a fill shows nothing only where the policy said no over an empty buffer, there is no capacity, or the reader ran dry
abbrev pub EmptyFillCaused : {S P : Type 0} → ReadRules P → Buffered S P → Buffered S P → Type 0
EmptyFillCaused rules s t =
    ((s.block.bytes ≡ []) × Answered rules no_read s t) ⊎ ((t.block.capacity ≡ 0) ⊎ RanDry s t)

-- a read hands out nothing only where the policy said no over an empty buffer, and then was told so, or the reader ran dry
abbrev pub EmptyReadCaused : {S P : Type 0} → ReadRules P → Buffered S P → Buffered S P → Type 0
EmptyReadCaused {S} {P} rules s t =
    ((filled : Buffered S P) × (s.block.bytes ≡ []) × Answered rules no_read s filled × ReaderConsumes rules 0 filled t)
    ⊎ RanDry s t

-- the last ask: after these turns the policy, which saw all that came of them, ordered it, and it offered all the room
pub record LastAsk {S P : Type 0} (rules : ReadRules P) (s t : Buffered S P) : Type 0 where
  pub count : ℕ
  pub before : Buffered S P
  pub after : Buffered S P
  pub answer : Result ℕ Error
  pub turns : Turns rules count s before
  pub ordered : Ordered rules answer before after
  pub saw : length s.block.bytes + count ≤ length before.block.bytes
  pub asks : t.log.reads.asks ≡ s.log.reads.asks + count + 1
  pub told : t.log ≡ after.log
  pub offer : t.log.reads.offer ≡ usable ordered.seen

-- filling up to a minimum goes on until so many bytes are there, and asks for no more. An `Err` leaves fewer. Where so
-- many are there, the reader isn't called; a capacity that holds so many stays, and so does the limit
pub record FillsToMinimum {S P : Type 0} (n : ℕ) (s : Buffered S P) (ok : Bool) (t : Buffered S P) : Type 0 where
  pub enough : ok ≡ true → (n ≤ length t.block.bytes) ⊎ RanDry s t
  pub few : ok ≡ false → length t.block.bytes < n
  pub asks : t.log.reads.asks ≤ s.log.reads.asks + (n - length s.block.bytes)
  pub untouched : n ≤ length s.block.bytes → t.log ≡ s.log
  pub capacity : n ≤ s.block.capacity → t.block.capacity ≡ s.block.capacity
  pub limit : t.block.limit ≡ s.block.limit

-- all that filling promises. An Ok ended since the policy said no, or left no room, or the reader gave nothing. Under a steady
-- policy an error is the reader's, and so is an empty answer where there is capacity
pub record Fills {S P A : Type 0} (rules : ReadRules P) (s : Buffered S P) (answer : Result A Error) (t : Buffered S P)
    : Type 0 where
  pub filled : Filled rules s answer t
  pub in_order : ReadsInOrder s [] t
  pub grows : ReadLogGrows s.log.reads t.log.reads
  pub kind : t.block.kind ≡ s.block.kind
  pub capacity : s.block.capacity ≤ t.block.capacity
  pub consumed : t.block.consumed ≡ s.block.consumed
  pub whole : IsBlock t.block
  pub claims : rules.claims t.policy ≡ rules.claims s.policy
  pub caused : ReadErrorCaused rules s answer t
  pub ended : OnOk answer
      (PolicyGave rules no_read s t ⊎ ((usable t.block ≡ 0) × PolicyGave rules read_now s t) ⊎ RanDry s t)
  pub empty : is_ok answer ≡ true → length t.block.bytes ≡ 0 → EmptyFillCaused rules s t
  pub last : s.log.reads.asks < t.log.reads.asks → LastAsk rules s t
  pub ahead : IfSome (rules.claims s.policy).minimum (λ n. FillsToMinimum n s (is_ok answer) t)
  pub steadily : (rules.claims s.policy).steady ≡ true
      → MatchResult answer (λ _. 0 < s.block.capacity → length t.block.bytes ≡ 0 → RanDry s t)
      (λ _. length s.log.reads.faults < length t.log.reads.faults)
  pub sparing : SparesClaimed rules s t

-- of what the reader inside was known to have left, just what it gave since is gone
abbrev pub InnerGives : {S P : Type 0} → (S → Option (List ℕ)) → Buffered S P → Buffered S P → Type 0
InnerGives remaining s t = GivesRemaining (remaining s.inner) s.log.reads (remaining t.inner) t.log.reads

-- what each call keeps that hands bytes out: of the bytes known inside just those given are gone, and the log only goes on;
-- the capacity doesn't fall, and the kind and the policy's claims stay; what the policy claims to spare is spared; and no
-- call of its own is noted
pub record ReaderKeeps {S P : Type 0} (remaining : S → Option (List ℕ)) (rules : ReadRules P) (s t : Buffered S P)
    : Type 0 where
  pub known : InnerGives remaining s t
  pub grows : ReadLogGrows s.log.reads t.log.reads
  pub capacity : s.block.capacity ≤ t.block.capacity
  pub kind : t.block.kind ≡ s.block.kind
  pub claims : rules.claims t.policy ≡ rules.claims s.policy
  pub sparing : SparesClaimed rules s t
  pub whole : IsBlock t.block
  pub noted : t.own_calls ≡ s.own_calls

-- one read into the buffer, past the policy: of the bytes known inside just those given are gone, and no call of its own is
-- noted
pub record ReadsIntoBuf {S P : Type 0} (remaining : S → Option (List ℕ)) (s : Buffered S P) (answer : Result ℕ Error)
    (t : Buffered S P) : Type 0 where
  pub read : ReadsFrom s.block s.log answer t.block t.log
  pub known : InnerGives remaining s t
  pub grows : ReadLogGrows s.log.reads t.log.reads
  pub policy : t.policy ≡ s.policy
  pub noted : t.own_calls ≡ s.own_calls
  pub whole : IsBlock t.block

-- what any calls do, one after another, that hand out these bytes and make no seek
pub record ReadsAlong {S P : Type 0} (remaining : S → Option (List ℕ)) (rules : ReadRules P)
    (s : Buffered S P) (handed : List ℕ) (t : Buffered S P) : Type 0 where
  pub in_order : ReadsInOrder s handed t
  pub known : InnerGives remaining s t
  pub grows : ReadLogGrows s.log.reads t.log.reads
  pub capacity : s.block.capacity ≤ t.block.capacity
  pub claims : rules.claims t.policy ≡ rules.claims s.policy

-- all that there was is handed out: nothing is buffered, and the reader inside gave nothing when it was asked for more
pub record ReadsToEnd {S P : Type 0} (remaining : S → Option (List ℕ)) (rules : ReadRules P)
    (s : Buffered S P) (handed : List ℕ) (t : Buffered S P) : Type 0 where
  pub along : ReadsAlong remaining rules s handed t
  pub none : t.block.bytes ≡ []
  pub dry : RanDry s t

-- what `fill_buf()` does: it fills, and at Ok lends all that is buffered
pub record FillBuf {S P : Type 0} (remaining : S → Option (List ℕ)) (rules : ReadRules P)
    (s : Buffered S P) (answer : Result (Bor (List ℕ)) Error) (t : Buffered S P) : Type 0 where
  pub fills : Fills rules s answer t
  pub known : InnerGives remaining s t
  pub shown : IfOk answer (λ bytes. bytes.now ≡ t.block.bytes)
  pub noted : t.own_calls ≡ s.own_calls

-- the buffer was filled, and as many bytes as there are or as fit into room were handed out
pub record ReadsBuffered {S P : Type 0} (rules : ReadRules P)
    (s : Buffered S P) (room : ℕ) (answer : Result ℕ Error) (t : Buffered S P) : Type 0 where
  pub filled : Buffered S P
  pub fills : Fills rules s answer filled
  pub handed : MatchResult answer
      (λ n. (n ≡ min room (length filled.block.bytes)) × ReaderConsumes rules n filled t) (λ _. t ≡ filled)

-- what `read(out)` does, which left the slice as out': past the buffer one ask for the whole slice, or a fill and a copy,
-- which leaves what stands behind its bytes, and all of the slice where it fails
pub record Reads {S P : Type 0} (rules : ReadRules P) (s : Buffered S P) (out : List ℕ) (answer : Result ℕ Error)
    (out' : List ℕ) (t : Buffered S P) : Type 0 where
  pub size : length out' ≡ length out
  pub direct : GoesPast s.block (length out) → GoesDirect after_read s out' answer t
  pub buffered : StaysInside s.block (length out) → ReadsBuffered rules s (length out) answer t
  pub rest : StaysInside s.block (length out) → MatchResult answer (λ n. drop n out' ≡ drop n out) (λ _. out' ≡ out)
