-- Each call hands out the first payload that is left, so none is missing before the last and none comes behind.
use Rattle.std.proofs.Common.{Ok, subst, arith}
use Rattle.std.proofs.lemmas.Result.{err_from_is_err_and}
use Rattle.piece_reader.specs.Runs.{kept_answer}
use Rattle.codec.proofs.Stepping.{end_fails, read_all, read_fails, read_lost, read_more, read_none, reads_on}
use Rattle.codec.proofs.laws.known.read_each.Goals as goal

pub unreachable-requires : goal.unreachable-requires
unreachable-requires g c =
    read_none g.met.P.PayloadReader.plays_more g.met.P.KnownReader.answers_known c.args.payloads.now c.loop.index
    c.loop.kept.items c.loop.invariant c.loop-item.result c.loop-test.true c.loop-item.is c.next_of_known.new.reader
    (subst (λ o. g.P.PayloadReader.goes c.loop.reader (kept_answer (Ok o)) c.next_of_known.new.reader) c.in-None.is
    c.in_ok-payload.ensures.next)

pub loop-preserved : goal.loop-preserved
loop-preserved g c =
    let t = c.next_of_known.new.reader in
    reads_on g.met.P.PayloadReader.plays_more g.met.P.KnownReader.answers_known c.args.payloads.now c.loop.index
    c.loop.kept.items c.loop.invariant c.loop-item.result c.loop-test.true c.loop-item.is t c.in-Some.payload
    c.push.new.self.items c.in_ok-push-in-Some.ensures.items
    (subst (λ o. g.P.PayloadReader.goes c.loop.reader (kept_answer (Ok o)) t) c.in-Some.is c.in_ok-payload.ensures.next)

pub unreachable-requires-in-Some-2 : goal.unreachable-requires-in-Some-2
unreachable-requires-in-Some-2 g c =
    let t = c.next_of_known-2.new.reader in
    read_more g.met.P.PayloadReader.plays_more g.met.P.KnownReader.answers_known c.args.payloads.now c.loop.index
    c.loop.kept.items c.loop.invariant (omega (arith, c.loop-test.false)) t c.in-Some-2.field-0.items
    (subst (λ o. g.P.PayloadReader.goes c.loop.reader (kept_answer (Ok o)) t) c.in-Some-2.is
    c.in_ok-next_of_known.ensures.next)

pub returns-in_err-payload-clause-stopped : goal.returns-in_err-payload-clause-stopped
returns-in_err-payload-clause-stopped g c =
    let p = err_from_is_err_and c.from_residual.result c.from_residual.ensures.1 in
    rw (p.1, p.2)
    (read_fails g.met.P.PayloadReader.plays_more g.met.P.KnownReader.answers_known c.args.payloads.now c.loop.index
    c.loop.kept.items c.loop.invariant c.loop-item.result c.loop-test.true c.loop-item.is c.next_of_known.new.reader _
    c.in_err-payload.ensures.failed)

pub returns-in_err-push-in-Some-clause-stopped : goal.returns-in_err-push-in-Some-clause-stopped
returns-in_err-push-in-Some-clause-stopped g c =
    let t = c.next_of_known.new.reader in
    let r = c.from_residual-in_err-push-in-Some in
    let p = err_from_is_err_and r.result r.ensures.1 in
    rw p.1
    (read_lost g.met.P.PayloadReader.plays_more g.met.P.KnownReader.answers_known c.args.payloads.now c.loop.index
    c.loop.kept.items c.loop.invariant c.loop-item.result c.loop-test.true c.loop-item.is t c.in-Some.payload.items p.0 p.2
    (subst (λ o. g.P.PayloadReader.goes c.loop.reader (kept_answer (Ok o)) t) c.in-Some.is c.in_ok-payload.ensures.next))

pub returns-in_err-next_of_known-clause-stopped : goal.returns-in_err-next_of_known-clause-stopped
returns-in_err-next_of_known-clause-stopped g c =
    let r = c.from_residual-in_err-next_of_known in
    let p = err_from_is_err_and r.result r.ensures.1 in
    rw (p.1, p.2)
    (end_fails g.met.P.PayloadReader.plays_more g.met.P.KnownReader.answers_known c.args.payloads.now c.loop.index
    c.loop.kept.items c.loop.invariant (omega (arith, c.loop-test.false)) c.next_of_known-2.new.reader _
    c.in_err-next_of_known.ensures.failed)

pub returns-clause-read : goal.returns-clause-read
returns-clause-read g c =
    let t = c.next_of_known-2.new.reader in
    read_all g.met.P.PayloadReader.plays_more g.met.P.KnownReader.answers_known c.args.payloads.now c.loop.index
    c.loop.kept.items c.loop.invariant (omega (arith, c.loop-test.false)) t
    (subst (λ o. g.P.PayloadReader.goes c.loop.reader (kept_answer (Ok o)) t) c.in-None-2.is
    c.in_ok-next_of_known.ensures.next)
