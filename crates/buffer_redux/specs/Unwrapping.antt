-- What the calls promise that take a buffered writer apart.
use Rattle.std.specs.Prelude.{◌≡◌, [], length, Result, IfErr, MatchResult}
use Rattle.std.specs.Borrow.{MutBor}
use Rattle.std.specs.declared.io.Error.{Error}
use Rattle.redux_buffer.specs.Block.{Block, Clears}
use Rattle.redux_buffer.specs.Faults.{SendErrorCaused}
use Rattle.redux_buffer.specs.StreamLog.{StreamLog}
use Rattle.redux_buffer.specs.Transfer.{FailedRow, Sends}
use Rattle.buffer_redux.specs.Buffered.{Buffered, InnerWent, with_block, with_inner}
use Rattle.buffer_redux.specs.BufWriter.{WritesInOrder, WasFlushed}

-- the inner writer of what a flush with this answer left
pub record InnerOfFlushed {S P : Type 0} (tells : S → StreamLog) (trace : S → S → Type 0)
    (s : Buffered S P) (answer : Result (Unit {0}) Error) (inner : S) : Type 0 where
  pub left : Buffered S P
  pub flushed : WasFlushed tells trace s answer left
  pub is_inner : left.inner ≡ inner

-- all bytes were sent, and both parts come as that left them; where it failed, as the handler left them, which was called
-- with both, and the fault. What it may do is of the writer and the buffer that it is lent, the fault, and both as it left them
pub record SendsOrHandles {S P : Type 0} (tells : S → StreamLog) (trace : S → S → Type 0)
    (handler : MutBor S → MutBor Block → Error → MutBor S → MutBor Block → Type 0)
    (s : Buffered S P) (inner : S) (b : Block) : Type 0 where
  pub sending : Result (Unit {0}) Error
  pub sent : Buffered S P
  pub sends : Sends (length s.block.bytes) s.block s.log sending sent.block sent.log
  pub row : IfErr sending (λ e. FailedRow tells trace e s.inner sent.inner)
  pub went : InnerWent tells trace s sent
  pub ended : MatchResult sending (λ _. (inner ≡ sent.inner) × (b ≡ sent.block)) (λ e. record {
    lent_inner : MutBor S;
    lent_buffer : MutBor Block;
    left_inner : MutBor S;
    left_buffer : MutBor Block;
    called : handler lent_inner lent_buffer e left_inner left_buffer;
    shows_inner : lent_inner.now ≡ sent.inner;
    shows_buffer : lent_buffer.now ≡ sent.block;
    leaves_inner : left_inner.now ≡ inner;
    leaves_buffer : left_buffer.now ≡ b;
  })

-- all bytes were sent, or those stay that a fault left unsent, and the inner writer tells of no other call. So no byte
-- was lost: what was received since, then what is left, is what was buffered, and bytes are left only where sending
-- failed with an error of this cause
pub record KeepsUnsent {S P : Type 0} (tells : S → StreamLog) (trace : S → S → Type 0) (s : Buffered S P) (inner : S)
    (b : Block) : Type 0 where
  pub sending : Result (Unit {0}) Error
  pub sends : Sends (length s.block.bytes) s.block s.log sending b (tells inner)
  pub row : IfErr sending (λ e. FailedRow tells trace e s.inner inner)
  pub went : trace s.inner inner
  pub in_order : WritesInOrder s [] (with_inner tells (with_block s b) inner)
  pub why : MatchResult sending (λ _. b.bytes ≡ []) (λ e. SendErrorCaused s.log.writes (tells inner).writes e)

-- all bytes were sent, or those that a fault left unsent were dropped, and the buffer keeps its capacity
pub record DropsUnsent {S P : Type 0} (tells : S → StreamLog) (trace : S → S → Type 0) (s : Buffered S P) (inner : S)
    (b : Block) : Type 0 where
  pub unsent : Block
  pub kept : KeepsUnsent tells trace s inner unsent
  pub dropped : MatchResult kept.sending (λ _. b ≡ unsent) (λ _. Clears unsent b)
