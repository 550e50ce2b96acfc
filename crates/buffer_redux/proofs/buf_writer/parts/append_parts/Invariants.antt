use Rattle.std.proofs.Common.{◌≡◌, ◌+◌, ◌≤◌, ◌++◌, drop, length}
use Rattle.redux_buffer.specs.Block.{IsBlock, OnlyRingMoves, usable}
use Rattle.buffer_redux.proofs.Parts.{all_of}
use Rattle.buffer_redux.proofs.buf_writer.parts.append_parts.Given as goal

-- with the parts that are left it will hold all, for which there is room
abbrev pub invariant-loop-part : goal.invariant-loop-part
invariant-loop-part l = record {
  bytes : l.buf.bytes ++ all_of (drop l.part-index l.parts) ≡ l.initial.buf.bytes ++ all_of l.parts;
  room : length (all_of (drop l.part-index l.parts)) ≤ usable l.buf;
  capacity : l.buf.capacity ≡ l.initial.buf.capacity;
  limit : l.buf.limit ≡ l.initial.buf.limit;
  kind : l.buf.kind ≡ l.initial.buf.kind;
  behind : usable l.buf + length l.buf.bytes ≡ usable l.initial.buf + length l.initial.buf.bytes;
  consumed : l.buf.consumed ≡ l.initial.buf.consumed;
  moved : OnlyRingMoves l.initial.buf l.buf;
  whole : IsBlock l.buf;
}
