-- What a turn moved joins what went over before, and each turn that moved something was reported once.
use Rattle.std.proofs.Common.{◌≡◌, ◌+◌, suc, arith, inl, inr, length, ap, length-append}
use Rattle.std.proofs.lemmas.Result.{err_from_is_err_and}
use Rattle.std.specs.Io.Iter.{u64_saturate}
use Rattle.buffer_redux.specs.CopyLaws.{MovedBy-still, CopiesOn-joins, CopyEnded-after, StreamFailed-after}
use Rattle.uses.proofs.Reporting.{rises}
use Rattle.uses.proofs.progress.copy_with_progress.Goals as goal

pub loop-preserved : goal.loop-preserved
loop-preserved g c =
    let before = c.loop.invariant in
    let turn = c.in_ok-taken.ensures in
    let moved = turn.turn.answers.copies (omega (arith, c.if-taken-eq0.false)) in
    let total : c.saturating_add-total.result ≡ u64_saturate (before.count + c.in_ok-taken.taken) =
    omega (arith, before.total, c.saturating_add-total.ensures) in
    let rise = rises before.count c.in_ok-taken.taken (omega (arith, c.if-taken-eq0.false)) in record {
      count = before.count + c.in_ok-taken.taken;
      copies = CopiesOn-joins before.copies moved;
      total = total;
      calls = suc before.calls;
      made = omega (arith, before.made, moved.fills, turn.turn.one_fill, turn.turn.one_fault);
      none = omega (arith, before.none, turn.turn.one_fault);
      turns = omega (arith, before.turns, c.if-taken-eq0.false);
      told = (_, _, before.told, rise, rw total at c.report.ensures);
      reader = g.met.B.TellBufRead.trace_joins _ _ _ before.reader turn.reader;
      writer = g.met.W.TellWrite.trace_joins _ _ _ before.writer turn.writer;
    }

pub returns-in_err-taken : goal.returns-in_err-taken
returns-in_err-taken g c =
    let p = err_from_is_err_and c.from_residual.result c.from_residual.ensures.1 in
    let before = c.loop.invariant in
    let turn = c.in_err-taken.ensures.turn in
    let answers = turn.answers in
    rw (p.1, p.2) (record {
      moved = (
        before.count,
        MovedBy-still before.copies.moved answers.nothing,
        (before.calls, omega (arith, before.made, answers.fills, turn.one_fill, turn.one_fault), _, before.told),
        tt,
      );
      ended = tt;
      caused = inl (StreamFailed-after _ _ _ g.met.W.TellWrite.trace_joins before.copies before.writer answers.failed);
      at_once = omega (arith, before.none, turn.one_fault);
      once = omega (arith, before.copies.fills, answers.fills);
      reader = g.met.B.TellBufRead.trace_joins _ _ _ before.reader c.in_err-taken.ensures.reader;
      writer = g.met.W.TellWrite.trace_joins _ _ _ before.writer c.in_err-taken.ensures.writer;
    })

pub returns-then-taken-eq0 : goal.returns-then-taken-eq0
returns-then-taken-eq0 g c =
    let before = c.loop.invariant in
    let turn = c.in_ok-taken.ensures.turn in
    let answers = turn.answers in
    let none = c.if-taken-eq0.true in
    record {
      moved = (
        before.count,
        MovedBy-still before.copies.moved (answers.nothing none),
        (before.calls, omega (arith, before.made, answers.fills none, turn.one_fill, turn.one_fault), _, before.told),
        before.total,
      );
      ended = CopyEnded-after _ _ _ g.met.W.TellWrite.trace_joins before.copies before.writer (answers.ended none);
      caused = tt;
      at_once = omega (arith, before.none, turn.one_fault);
      once = omega (arith, before.copies.fills, answers.fills none);
      reader = g.met.B.TellBufRead.trace_joins _ _ _ before.reader c.in_ok-taken.ensures.reader;
      writer = g.met.W.TellWrite.trace_joins _ _ _ before.writer c.in_ok-taken.ensures.writer;
    }

pub returns-clause-moved : goal.returns-clause-moved
returns-clause-moved g c =
    let before = c.loop.invariant in
    (before.count, before.copies.moved, (before.calls, before.made, _, before.told), tt)

pub returns-clause-caused : goal.returns-clause-caused
returns-clause-caused g c =
    let before = c.loop.invariant in
    let moved = before.copies.moved in
    inr (record {
      other = c.from.ensures;
      large = omega (
        arith,
        before.turns,
        moved.count,
        ap length moved.consumed,
        length-append (g.B.Tell.log c.args.from.now).fills.consumed moved.bytes,
      );
    })

pub returns-clause-once : goal.returns-clause-once
returns-clause-once g c = c.loop.invariant.copies.fills
