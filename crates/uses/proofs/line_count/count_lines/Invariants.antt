use Rattle.std.proofs.Common.{◌≡◌, ℕ, ◌≤◌, List, length}
use Rattle.buffer_redux.specs.BufReader.{ReadsAlong}
use Rattle.buffer_redux.specs.EmptyReads.{ReadsWhenEmpty}
use Rattle.uses.specs.LineCount.{line_feeds}
use Rattle.uses.proofs.line_count.count_lines.Given as goal

-- the bytes that were handed out have this many line feeds
abbrev pub invariant-loop : goal.invariant-loop
invariant-loop g l = record {
  handed : List ℕ;
  along : ReadsAlong g.R.TellRead.remaining g.P.ReaderPolicy.rules l.initial.reader handed l.reader;
  count : l.lines ≡ line_feeds handed;
  none : l.reader.log.reads.faults ≡ l.initial.reader.log.reads.faults;
  turns : l.counter ≤ length handed;
  quiet : ReadsWhenEmpty g.P.ReaderPolicy.rules → l.reader.log.reads.zero_reads ≡ l.initial.reader.log.reads.zero_reads;
}
