-- What contracts see of a writer of pieces.
use Rattle.std.specs.Prelude.{◌≡◌, ℕ, ◌*◌, ◌≤◌, List, []}
use Rattle.buffer_redux.specs.Block.{Block, IsBlock, Plain, with_limit}
use Rattle.buffer_redux.specs.Buffered.{Buffered, with_inner}
use Rattle.buffer_redux.specs.StreamLog.{StreamLog}
use Rattle.buffer_redux.specs.Unbuffer.{unbuffered}
use Rattle.buffer_redux.specs.declared.policy.StdPolicy.{StdPolicy}
use Rattle.piece_reader.specs.PieceReader.{room_for}

-- the buffered writer, and the encoder
pub record WriterState (S E : Type 0) : Type 0 where
  pub writer : Buffered S StdPolicy
  pub encoder : E

-- the bytes that were taken in and not sent yet
abbrev pub unsent : {S E : Type 0} → WriterState S E → List ℕ
unsent f = f.writer.block.bytes

-- what is true of every writer of pieces of at most so many bytes
pub record IsPieceWriter {S E : Type 0} (most : ℕ) (f : WriterState S E) : Type 0 where
  pub block : IsBlock f.writer.block
  pub plain : f.writer.block.kind ≡ Plain
  pub capacity : 3 * most ≤ f.writer.block.capacity
  pub limit : f.writer.block.limit ≡ f.writer.block.capacity

-- just made over this stream: nothing is buffered
pub record IsUnused {S E : Type 0} (tells : S → StreamLog) (least most : ℕ) (stream : S) (maker : E) (f : WriterState S E)
    : Type 0 where
  pub empty : unsent f ≡ []
  pub inner : f.writer.inner ≡ stream
  pub log : f.writer.log ≡ tells stream
  pub encoder : f.encoder ≡ maker
  pub capacity : f.writer.block.capacity ≡ room_for least most

-- made over this buffer and stream: just what the buffer has is not sent yet, and no byte was moved. A plain buffer in which
-- three pieces fit is the writer's
pub record IsMadeOver {S E : Type 0} (tells : S → StreamLog) (most : ℕ) (buffer : Block) (stream : S) (maker : E)
    (f : WriterState S E) : Type 0 where
  pub left : unbuffered f.writer ≡ record { left = buffer.bytes; inner = stream; log = tells stream }
  pub encoder : f.encoder ≡ maker
  pub capacity : f.writer.block.capacity ≡ room_for buffer.capacity most
  pub consumed : f.writer.block.consumed ≤ buffer.consumed
  pub moved : f.writer.block.moved ≤ buffer.moved
  pub kept : buffer.kind ≡ Plain → 3 * most ≤ buffer.capacity → f.writer.block ≡ with_limit buffer buffer.capacity

-- with this stream inside
abbrev pub with_stream : {S E : Type 0} → (S → StreamLog) → WriterState S E → S → WriterState S E
with_stream tells f stream = record f { writer = with_inner tells f.writer stream }
