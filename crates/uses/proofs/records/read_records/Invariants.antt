use Rattle.std.proofs.Common.{vec_items}
use Rattle.std.specs.Io.KnownBytes.{Consumes}
use Rattle.uses.specs.Records.{with_lengths, AreShort}
use Rattle.uses.proofs.records.read_records.Given as goal

-- the records so far were read
abbrev pub invariant-loop-turn : goal.invariant-loop-turn
invariant-loop-turn g l = record {
  short : AreShort (vec_items l.records);
  read : Consumes (g.R.Read.remaining l.initial.reader) (g.R.Read.remaining l.reader) (with_lengths (vec_items l.records));
}
