-- Each piece that comes is appended, until the body ends, or why it doesn't.
use Rattle.std.proofs.Common.{arith}
use Rattle.std.proofs.lemmas.List.{take_at}
use Rattle.std.proofs.lemmas.Result.{err_from_is_err_and}
use Rattle.body_reader.proofs.Collecting.{collected_more, collected_none, collects_all, collects_long, collects_no_room, collects_none, collects_refused}
use Rattle.body_reader.proofs.reader.BodyReader.collect_while.Goals as goal

pub loop-came-init : goal.loop-came-init
loop-came-init g c = (collected_none _ _ _ _ _ _ _ c.get_ref.ensures.whole c.requires, omega arith)

pub returns-in_err-came-clause-collects : goal.returns-in_err-came-clause-collects
returns-in_err-came-clause-collects g c =
    let p = err_from_is_err_and c.from_residual.result c.from_residual.ensures.1 in
    rw (p.1, p.2) (collects_none g.C.Coding.grammar c.loop-came.invariant.0 c.in_err-came.ensures.fills)

pub returns-then-came-eq0-clause-collects : goal.returns-then-came-eq0-clause-collects
returns-then-came-eq0-clause-collects g c =
    collects_all g.C.Coding.grammar c.loop-came.invariant.0 c.in_ok-came.ensures.fills c.if-came-eq0.true

pub returns-then-came-saturating_sub-clause-collects : goal.returns-then-came-saturating_sub-clause-collects
returns-then-came-saturating_sub-clause-collects g c =
    collects_long g.C.Coding.grammar c.loop-came.invariant.0 c.in_ok-came.ensures.fills (omega (arith, c.if-came-eq0.false))
    (omega (arith, c.if-came-saturating_sub.true, c.saturating_sub.ensures, c.len-known.ensures))

pub returns-in-Err-clause-collects : goal.returns-in-Err-clause-collects
returns-in-Err-clause-collects g c =
    rw c.in-Err.ensures.items (collects_no_room g.C.Coding.grammar c.loop-came.invariant.0 c.in_ok-came.ensures.fills
    (omega (arith, c.if-came-eq0.false))
    (omega (arith, c.if-came-eq0.false, c.if-came-saturating_sub.false, c.saturating_sub.ensures, c.len-known.ensures)))

pub allows-requires-clause-known : goal.allows-requires-clause-known
allows-requires-clause-known g c =
    let before = c.loop-came.out.items in
    let taken = take_at before c.piece.result.now c.len-known.result (omega (arith, c.len-known.ensures)) in
    rw (c.deref.ensures.value, c.in-Ok.ensures.items, taken)
    c.loop-came.invariant.0.allowed

pub returns-then-not-allows-clause-collects : goal.returns-then-not-allows-clause-collects
returns-then-not-allows-clause-collects g c =
    let before = c.loop-came.out.items in
    let taken = take_at before c.piece.result.now c.len-known.result (omega (arith, c.len-known.ensures)) in
    rw (c.truncate.ensures.items, c.in-Ok.ensures.items, taken)
    (collects_refused g.C.Coding.grammar c.loop-came.invariant.0 c.in_ok-came.ensures.fills (omega (arith, c.if-came-eq0.false))
    (omega (arith, c.if-came-eq0.false, c.if-came-saturating_sub.false, c.saturating_sub.ensures, c.len-known.ensures))
    (rw (c.if-not-allows.true, c.deref.ensures.value, c.in-Ok.ensures.items, c.piece.ensures) at c.allows.ensures))

pub loop-came-preserved : goal.loop-came-preserved
loop-came-preserved g c =
    rw (c.in-Ok.ensures.items, c.piece.ensures) (
      collected_more g.C.Coding.grammar c.loop-came.invariant.0
          c.in_ok-came.ensures.fills (omega (arith, c.if-came-eq0.false))
          (omega (arith, c.if-came-eq0.false, c.if-came-saturating_sub.false, c.saturating_sub.ensures, c.len-known.ensures))
          (g.met.C.Coding.lawful _) _ c.consume_payload.ensures.consumes
          (rw (c.if-not-allows.false, c.deref.ensures.value, c.in-Ok.ensures.items, c.piece.ensures) at c.allows.ensures),
      omega (arith, c.loop-came.invariant.1, c.in-Ok.ensures.capacity),
    )
