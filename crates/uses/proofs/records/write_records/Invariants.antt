use Rattle.std.proofs.Common.{take}
use Rattle.std.specs.Io.KnownBytes.{Appends}
use Rattle.uses.specs.Records.{with_lengths}
use Rattle.uses.proofs.records.write_records.Given as goal

-- the records so far are there
abbrev pub invariant-loop-bytes : goal.invariant-loop-bytes
invariant-loop-bytes g l =
    Appends (g.W.Write.contents l.initial.writer) (g.W.Write.contents l.writer) (with_lengths (take l.bytes-index l.records))
