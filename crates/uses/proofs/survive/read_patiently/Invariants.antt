use Rattle.std.proofs.Common.{◌≡◌, ◌+◌, ◌≤◌, List, ◌++◌, length, All, true, vec_capacity, vec_items}
use Rattle.std.specs.declared.io.Error.{Error}
use Rattle.buffer_redux.specs.EmptyReads.{ReadsWhenEmpty}
use Rattle.uses.specs.Survive.{Gains, MayGoOn}
use Rattle.uses.proofs.survive.read_patiently.Given as goal

-- what was handed out was gained, and each turn handed something out or met a fault that passes
abbrev pub invariant-loop : goal.invariant-loop
invariant-loop g l = record {
  gains : Gains g.R.TellRead.remaining g.P.ReaderPolicy.rules
      l.initial.reader (vec_items l.initial.into) l.reader (vec_items l.into);
  met : List Error;
  counted : length met + l.left ≡ l.faults;
  passing : All MayGoOn met;
  came : (g.P.ReaderPolicy.rules.claims l.initial.reader.policy).steady ≡ true
      → l.reader.log.reads.faults ≡ l.initial.reader.log.reads.faults ++ met;
  turns : l.counter + length l.reader.block.bytes + length l.initial.reader.log.reads.given
      ≤ length l.initial.reader.block.bytes + length l.reader.log.reads.given + length met;
  room : vec_capacity l.initial.into ≤ vec_capacity l.into;
  quiet : ReadsWhenEmpty g.P.ReaderPolicy.rules → l.reader.log.reads.zero_reads ≡ l.initial.reader.log.reads.zero_reads;
}
