-- What contracts see of a reader of pieces.
use Rattle.std.specs.Prelude.{◌≡◌, ℕ, ◌+◌, ◌*◌, ◌<◌, ◌≤◌, ◌⊎◌, List, [], drop, take, length, max, Bool, true, false}
use Rattle.buffer_redux.specs.Block.{Block, IsBlock, OnlyRingMoves, Plain, usable, with_limit}
use Rattle.buffer_redux.specs.Buffered.{Buffered}
use Rattle.buffer_redux.specs.StreamLog.{StreamLog}
use Rattle.buffer_redux.specs.Unbuffer.{Unbuffered}
use Rattle.buffer_redux.specs.declared.policy.MinBuffered.{MinBuffered}
use Rattle.piece_reader.specs.Grammar.{Begins, Grammar, IsOpen}

-- the buffered reader; the decoder; how many of the first bytes that are buffered were handed out; how many behind them
-- were looked at, and settle nothing; and whether the stream ended, which no call has told yet
pub record ReaderState (S D : Type 0) : Type 0 where
  pub reader : Buffered S MinBuffered
  pub decoder : D
  pub handed : ℕ
  pub seen : ℕ
  pub ended : Bool

-- the buffered bytes that weren't handed out
abbrev pub rest : {S D : Type 0} → ReaderState S D → List ℕ
rest f = drop f.handed f.reader.block.bytes

-- what is left: those, and what the stream behind them has and tells
abbrev pub left_of : {S D : Type 0} → ReaderState S D → Unbuffered S
left_of f = record { left = rest f; inner = f.reader.inner; log = f.reader.log }

-- the capacity that is asked for pieces of at most so many bytes: three of them fit, so that moving a beginning to the front
-- is paid for by the bytes that were given since it was moved last
abbrev pub room_for : ℕ → ℕ → ℕ
room_for least most = max least (3 * most)

-- what is true of every reader of pieces
pub record IsPieceReader {S D W : Type 0} (g : Grammar W) (f : ReaderState S D) : Type 0 where
  pub block : IsBlock f.reader.block
  pub plain : f.reader.block.kind ≡ Plain
  pub capacity : 3 * g.most ≤ f.reader.block.capacity
  pub limit : f.reader.block.limit ≡ f.reader.block.capacity
  pub ahead : f.reader.policy.0 ≤ g.most
  pub handed : f.handed + f.seen ≤ length f.reader.block.bytes
  pub searched : IsOpen g (take f.seen (rest f))
  pub ended : f.ended ≡ true → rest f ≡ []

-- just made over this stream, for pieces of at most so many bytes: nothing is buffered, and no byte was moved
pub record IsFresh {S D : Type 0} (tells : S → StreamLog) (least most : ℕ) (stream : S) (finder : D) (f : ReaderState S D)
    : Type 0 where
  pub empty : f.reader.block.bytes ≡ []
  pub inner : f.reader.inner ≡ stream
  pub log : f.reader.log ≡ tells stream
  pub decoder : f.decoder ≡ finder
  pub ended : f.ended ≡ false
  pub moved : f.reader.block.moved ≡ 0
  pub usable : usable f.reader.block ≡ f.reader.block.capacity
  pub capacity : f.reader.block.capacity ≡ room_for least most

-- made over this buffer and stream: just what they have is left, and no byte was moved. A plain buffer in which three pieces fit
-- is the reader's
pub record IsOver {S D : Type 0} (tells : S → StreamLog) (most : ℕ) (buffer : Block) (stream : S) (finder : D)
    (f : ReaderState S D) : Type 0 where
  pub left : left_of f ≡ record { left = buffer.bytes; inner = stream; log = tells stream }
  pub decoder : f.decoder ≡ finder
  pub ended : f.ended ≡ false
  pub capacity : f.reader.block.capacity ≡ room_for buffer.capacity most
  pub consumed : f.reader.block.consumed ≤ buffer.consumed
  pub moved : f.reader.block.moved ≤ buffer.moved
  pub kept : buffer.kind ≡ Plain → 3 * most ≤ buffer.capacity → f.reader.block ≡ with_limit buffer buffer.capacity

-- the next call answers without the stream: a whole piece stands there, or what no piece begins with, or the stream has ended,
-- which no call has told yet
abbrev pub IsSettled : {S D W : Type 0} → Grammar W → ReaderState S D → Type 0
IsSettled {S} {D} {W} g f = (f.ended ≡ true) ⊎ Begins g (rest f) ⊎ ((e : W) × g.wrong (rest f) e)

-- the first bytes that were left were dropped, if any, and nothing else was done
pub record Skips {S D W : Type 0} (g : Grammar W) (s : ReaderState S D) (count : ℕ) (t : ReaderState S D) : Type 0 where
  pub same : t ≡ record s { handed = s.handed + count; seen = t.seen }
  pub none : count ≡ 0 → t.seen ≡ s.seen
  pub some : 0 < count → t.seen ≡ 0
  pub whole : IsPieceReader g t

-- a reader of pieces was taken apart into the inner reader and a buffer with the bytes that weren't handed out, which may not
-- grow; none was moved
pub record TakenApart {S D : Type 0} (tells : S → StreamLog) (f : ReaderState S D) (stream : S) (buffer : Block)
    : Type 0 where
  pub inner : stream ≡ f.reader.inner
  pub log : tells stream ≡ f.reader.log
  pub bytes : buffer.bytes ≡ rest f
  pub limit : buffer.limit ≡ f.reader.block.limit
  pub capacity : buffer.capacity ≡ f.reader.block.capacity
  pub kind : buffer.kind ≡ f.reader.block.kind
  pub moved : OnlyRingMoves f.reader.block buffer
