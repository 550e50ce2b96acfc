-- No call changes what is taken, so the payload at which it stops was taken where all were, and failed by a fault.
use Rattle.std.proofs.Common.{Err, subst}
use Rattle.codec.specs.WriteEachLaws.{takes_next, wrote_none}
use Rattle.codec.proofs.laws.runs.write_each.Goals as goal

pub returns-in-Err-clause-each : goal.returns-in-Err-clause-each
returns-in-Err-clause-each g c =
    let t = c.write_payload.new.self in
    wrote_none g.met.P.PayloadWriter.plays_more c.args.payloads.now c.loop-payload.payload-index c.loop-payload.invariant.0
    c.payload-item.result c.loop-payload-test.true c.payload-item.is t _ c.loop-payload.invariant.1
    (subst (λ p. g.P.PayloadWriter.goes c.loop-payload.writer p (Err c.in-Err.error) t) c.deref.ensures.value c.in-Err.ensures)

pub returns-in-Err-clause-fault : goal.returns-in-Err-clause-fault
returns-in-Err-clause-fault g c =
    let m = c.loop-payload.writer in
    let t = c.write_payload.new.self in
    let payload = c.payload-item.result in
    λ all. g.met.P.PayloadWriter.fails_by_fault m payload.items c.in-Err.error t
    (takes_next g.met.P.PayloadWriter.plays_more c.args.payloads.now c.loop-payload.payload-index c.loop-payload.invariant.0
    payload c.loop-payload-test.true c.payload-item.is t all)
    (subst (λ p. g.P.PayloadWriter.goes m p (Err c.in-Err.error) t) c.deref.ensures.value c.in-Err.ensures)
