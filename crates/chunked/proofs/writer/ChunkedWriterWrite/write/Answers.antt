-- An empty payload makes no chunk, and one with room behind what is buffered goes in whole, with nothing sent.
use Rattle.std.proofs.Common.{◌+◌, ◌≤◌, length, Ok, arith}
use Rattle.chunked.specs.Names.{around, nat_tests, room, seen, WritesChunk}
use Rattle.chunked.proofs.Writing.{had_space, wrote, wrote_nothing}
use Rattle.chunked.proofs.writer.ChunkedWriterWrite.write.Goals as goal
use Rattle.chunked.proofs.writer.ChunkedWriterWrite.write.Goals.{After-note-2}

made : (g : _) (c : After-note-2 g) → WritesChunk g.W.Tell.log g.W.TellWrite.trace
    (seen c.self.inside.writer c.self.inside.wire.log c.self.inside.calls.log c.self.inside.due) c.args.payload.now
    (Ok (length c.args.payload.now))
    (seen c.put_chunk.new.writer c.put_chunk.new.wire.log c.note-2.new.self.log c.self.inside.due)
made g c =
    let payload = c.args.payload.now in
    let v = c.self.inside in
    let there : around + length payload ≤ room v.writer =
    omega (arith, c.if-capacity-buf_len.false, c.capacity.ensures.value, c.buf_len.ensures.value) in
    wrote g.W.Tell.log g.W.TellWrite.trace g.met.W.TellWrite.trace_none g.met.W.TellWrite.trace_joins _ c.self.invariant
    (omega (arith, c.if-self-gt0.false)) payload (grind (arith, nat_tests))
    (omega (arith, there)) v.writer c.put_chunk.new.writer (had_space g.W.Tell.log g.W.TellWrite.trace
    g.met.W.TellWrite.trace_none g.met.W.TellWrite.trace_joins v.writer (around + length payload) there)
    c.put_chunk.ensures.put _ c.put_chunk.ensures.wire _ c.note-2.ensures

pub returns-then-is_empty-clause-writes : goal.returns-then-is_empty-clause-writes
returns-then-is_empty-clause-writes g c =
    rw (← c.self.view_is)
    (wrote_nothing g.W.Tell.log g.W.TellWrite.trace g.met.W.TellWrite.trace_none g.met.W.TellWrite.trace_joins _
    c.self.invariant c.args.payload.now (grind (arith, nat_tests)) _ c.note.ensures)

pub invariant_of-self-2 : goal.invariant_of-self-2
invariant_of-self-2 g c = (made g c).whole

pub returns-clause-writes : goal.returns-clause-writes
returns-clause-writes g c = rw (← c.self.view_is) (made g (goal.at.returns-clause-writes g c).After-note-2)
