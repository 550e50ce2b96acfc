-- All is sent since there is no space, and then a chunk that fits the capacity has room.
use Rattle.std.proofs.Common.{◌+◌, ◌<◌, ◌≤◌, length, Ok, ap, ◌∙◌, arith}
use Rattle.chunked.specs.Names.{around, room, seen, WritesChunk}
use Rattle.chunked.proofs.Writing.{sent_first, wrote}
use Rattle.chunked.proofs.writer.ChunkedWriter.send_first.Goals as goal
use Rattle.chunked.proofs.writer.ChunkedWriter.send_first.Goals.{After-note}

made : (g : _) (c : After-note g) → WritesChunk g.W.Tell.log g.W.TellWrite.trace
    (seen c.self.inside.writer c.self.inside.wire.log c.self.inside.calls.log c.self.inside.due) c.args.payload.now
    (Ok (length c.args.payload.now))
    (seen c.put_chunk.new.writer c.put_chunk.new.wire.log c.note.new.self.log c.self.inside.due)
made g c =
    let v = c.self.inside in
    let payload = c.args.payload.now in
    let small : around + length payload ≤ v.writer.block.capacity =
    omega (arith, c.requires.fits, ap (λ x. x.writer.block.capacity) c.self.view_is) in
    let full : room v.writer < around + length payload =
    omega (arith, c.requires.full, ap (λ x. room x.writer) c.self.view_is) in
    wrote g.W.Tell.log g.W.TellWrite.trace g.met.W.TellWrite.trace_none g.met.W.TellWrite.trace_joins _ c.self.invariant
    (ap (λ x. x.due) c.self.view_is ∙ c.requires.between) payload c.requires.some small c.send.new.self
    c.put_chunk.new.writer (sent_first g.W.Tell.log g.W.TellWrite.trace g.met.W.TellWrite.trace_none
    g.met.W.TellWrite.trace_joins v.writer c.send.new.self (around + length payload) (Ok tt) full c.in-Ok.ensures.sent)
    c.put_chunk.ensures.put _ c.put_chunk.ensures.wire _ c.note.ensures

pub invariant_of-self : goal.invariant_of-self
invariant_of-self g c = (made g c).whole

pub returns-in-Ok-clause-writes : goal.returns-in-Ok-clause-writes
returns-in-Ok-clause-writes g c =
    rw (← c.self.view_is) (made g (goal.at.returns-in-Ok-clause-writes g c).After-note)
