use Rattle.std.proofs.Common.{◌≡◌, ◌+◌, ◌≤◌, ◌++◌, length, take}
use Rattle.chunked.specs.Names.{lines_of, PutsIn, room, usable}
use Rattle.chunked.proofs.Fields.{front}
use Rattle.chunked.proofs.trailers.put_end.Given as goal

-- the last chunk and the lines so far are there
abbrev pub invariant-loop-field : goal.invariant-loop-field
invariant-loop-field g l = record {
  put : PutsIn l.fn.writer (front (take l.field-index (lines_of l.fields))) l.writer;
  space : room l.fn.writer ≤ usable l.writer.block + length (front (take l.field-index (lines_of l.fields)));
  wire : l.wire.log.writes.received ≡ l.fn.wire.log.writes.received ++ front (take l.field-index (lines_of l.fields));
}
