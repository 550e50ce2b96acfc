-- Each piece that comes is dropped, until the body ends, or why it doesn't.
use Rattle.std.proofs.Common.{[], arith}
use Rattle.std.proofs.lemmas.Result.{err_from_is_err_and}
use Rattle.std.specs.Prelude.{⊤}
use Rattle.body_reader.specs.Taking.{takes_none}
use Rattle.body_reader.proofs.Draining.{dropped_more, drained, not_drained, too_many}
use Rattle.body_reader.proofs.Said.{drain_says}
use Rattle.body_reader.proofs.reader.BodyReader.drain.Goals as goal

pub loop-piece-init : goal.loop-piece-init
loop-piece-init g c =
    record { payload = []; taken = takes_none _ _ _ (λ _. ⊤) _ c.get_ref.ensures.whole; many = omega arith }

pub returns-in_err-count : goal.returns-in_err-count
returns-in_err-count g c =
    let p = err_from_is_err_and c.from_residual.result c.from_residual.ensures.1 in
    rw (p.1, p.2) (drain_says _ (not_drained g.C.Coding.grammar c.loop-piece.invariant c.in_err-count.ensures.fills))

pub returns-then-count-eq0 : goal.returns-then-count-eq0
returns-then-count-eq0 g c =
    drain_says _ (drained g.C.Coding.grammar c.loop-piece.invariant (rw c.if-count-eq0.true at c.in_ok-count.ensures.fills))

pub loop-piece-preserved : goal.loop-piece-preserved
loop-piece-preserved g c =
    dropped_more g.C.Coding.grammar c.loop-piece.invariant c.in_ok-count.ensures.fills (omega (arith, c.if-count-eq0.false))
    (g.met.C.Coding.lawful c.args.self.now.coding) c.consume_payload.new.self c.consume_payload.ensures.consumes

pub returns-clause-drains : goal.returns-clause-drains
returns-clause-drains g c =
    too_many g.C.Coding.grammar c.loop-piece.invariant c.from.ensures (omega (arith, c.loop-piece-test.false))
