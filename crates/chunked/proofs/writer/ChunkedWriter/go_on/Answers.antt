-- The part is what is due at most, so it goes on in the chunk, and behind its last byte the line ends.
use Rattle.std.proofs.Common.{◌-◌, take, Ok, Err, ap, ◌∙◌, arith, refl}
use Rattle.chunked.specs.ChunkedWriter.{WentOn, seen}
use Rattle.chunked.proofs.Going.{goes_on, stops, take_least}
use Rattle.chunked.proofs.writer.ChunkedWriter.go_on.Goals as goal
use Rattle.chunked.proofs.writer.ChunkedWriter.go_on.Goals.{After-end_chunk, In-Err}

ended : (g : _) (c : After-end_chunk g) → WentOn g.W.Tell.log g.W.TellWrite.trace
    (seen c.self.inside.writer c.self.inside.wire.log c.self.inside.calls.log c.self.inside.due) c.args.payload.now
    (Ok c.in-Ok.count)
    (seen c.end_chunk.new.writer c.end_chunk.new.wire.log c.note.new.self.log (c.self.inside.due - c.in-Ok.count))
ended g c =
    goes_on g.W.Tell.log g.W.TellWrite.trace g.met.W.TellWrite.trace_none g.met.W.TellWrite.trace_joins _ c.self.invariant
    (omega (arith, c.requires.within, ap (λ x. x.due) c.self.view_is)) c.args.payload.now _
    (ap (λ k. take k c.args.payload.now) c.min.ensures ∙ take_least c.self.inside.due c.args.payload.now) c.take_part.new.writer
    c.in-Ok.count c.in-Ok.ensures.bound c.in-Ok.ensures.takes _ c.in-Ok.ensures.wire _ refl c.end_chunk.ensures.put
    c.end_chunk.ensures.wire c.note.ensures

stopped : (g : _) (c : In-Err g) → WentOn g.W.Tell.log g.W.TellWrite.trace
    (seen c.self.inside.writer c.self.inside.wire.log c.self.inside.calls.log c.self.inside.due) c.args.payload.now
    (Err c.in-Err.e)
    (seen c.take_part.new.writer c.take_part.new.wire.log c.self.inside.calls.log c.self.inside.due)
stopped g c =
    stops g.W.Tell.log g.W.TellWrite.trace g.met.W.TellWrite.trace_none g.met.W.TellWrite.trace_joins _ c.self.invariant
    (omega (arith, c.requires.within, ap (λ x. x.due) c.self.view_is)) c.args.payload.now _
    (ap (λ k. take k c.args.payload.now) c.min.ensures ∙ take_least c.self.inside.due c.args.payload.now) c.take_part.new.writer
    c.in-Err.e c.in-Err.ensures.takes _ c.in-Err.ensures.wire

pub invariant_of-self : goal.invariant_of-self
invariant_of-self g c = (ended g c).whole

pub invariant_of-self-in-Err : goal.invariant_of-self-in-Err
invariant_of-self-in-Err g c = (stopped g c).whole

pub returns-in-Ok-clause-went : goal.returns-in-Ok-clause-went
returns-in-Ok-clause-went g c = rw (← c.self.view_is) (ended g (goal.at.returns-in-Ok-clause-went g c).After-end_chunk)

pub returns-in-Err-clause-went : goal.returns-in-Err-clause-went
returns-in-Err-clause-went g c = rw (← c.self.view_is) (stopped g (goal.at.returns-in-Err-clause-went g c).In-Err)
