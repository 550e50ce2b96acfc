use Rattle.std.proofs.Common.{◌≡◌, ◌++◌, take}
use Rattle.buffer_redux.specs.Memory.{writer_log}
use Rattle.uses.specs.Records.{with_lengths}
use Rattle.uses.proofs.packed.packed.Given as goal

-- what the writer received is followed by what is buffered
abbrev pub invariant-loop-bytes : goal.invariant-loop-bytes
invariant-loop-bytes l = record {
  told : l.writer.log ≡ writer_log l.writer.inner;
  packed : l.writer.log.writes.received ++ l.writer.block.bytes ≡ with_lengths (take l.bytes-index l.records);
}
