-- Turns join, and the last moved nothing, unless the sum of what all moved passes what a `u64` holds.
use Rattle.std.proofs.Common.{suc, ◌+◌, ◌∙◌, arith, rules, inl, inr}
use Rattle.std.proofs.lemmas.Result.{err_from_is_err_and}
use Rattle.redux_buffer.specs.CopyLaws.{MovedBy-still, CopiesOn-joins, CopyEnded-after, StreamFailed-after, TakesNothing-after}
use Rattle.redux_buffer.proofs.Turning.{moved_count, faults_come}
use Rattle.redux_buffer.proofs.copy.copy_buf.Goals as goal

pub returns-in_err-taken-clause-copied : goal.returns-in_err-taken-clause-copied
returns-in_err-taken-clause-copied g c =
    let p = err_from_is_err_and c.from_residual.result c.from_residual.ensures.1 in
    let before = c.turns.invariant in
    let turn = c.in_err-taken.ensures.retried in
    let moved = MovedBy-still before.copies.moved turn.answers.nothing in
    rw (p.1, p.2) (record {
      moved = (c.turns.total, moved);
      ended = tt;
      failed = inl (StreamFailed-after _ _ _ g.met.W.TellWrite.trace_joins before.copies before.writer
          turn.answers.failed);
      often = λ is. omega (arith, turn.often is, faults_come before.copies);
      few = omega (arith, before.few, turn.few, moved_count moved);
      fills = omega (arith, before.copies.fills, turn.answers.fills);
      writes = omega (arith, before.copies.writes, turn.answers.writes);
      ends_shown = omega (arith, before.copies.ends_shown, turn.answers.ends_shown);
      one_end = λ takes.
          turn.answers.one_end (TakesNothing-after _ _ _ g.met.W.TellWrite.trace_joins before.writer takes)
          ∙ before.still takes;
    })

pub returns-in_err-taken-clause-turns : goal.returns-in_err-taken-clause-turns
returns-in_err-taken-clause-turns g c =
    let p = err_from_is_err_and c.from_residual.result c.from_residual.ensures.1 in
    let before = c.turns.invariant.rows in
    rw (p.1, p.2) (inl (record {
      count = before.0;
      begun = record { source = c.turns.b; target = c.turns.w };
      moving = before.1;
      row = c.in_err-taken.ensures.row;
    }))

pub returns-then-taken-eq0-clause-turns : goal.returns-then-taken-eq0-clause-turns
returns-then-taken-eq0-clause-turns g c =
    let before = c.turns.invariant.rows in
    record {
      count = before.0;
      begun = record { source = c.turns.b; target = c.turns.w };
      moving = before.1;
      row = rw c.if-taken-eq0.true at c.in_ok-taken.ensures.row;
    }

pub returns-then-taken-eq0-clause-copied : goal.returns-then-taken-eq0-clause-copied
returns-then-taken-eq0-clause-copied g c =
    let before = c.turns.invariant in
    let turn = c.in_ok-taken.ensures.retried in
    let none = c.if-taken-eq0.true in
    let moved = MovedBy-still before.copies.moved (turn.answers.nothing none) in
    record {
      moved = moved;
      ended = CopyEnded-after _ _ _ g.met.W.TellWrite.trace_joins before.copies before.writer (turn.answers.ended none);
      failed = tt;
      often = tt;
      few = omega (arith, before.few, turn.few, moved_count moved);
      fills = omega (arith, before.copies.fills, turn.answers.fills none);
      writes = omega (arith, before.copies.writes, turn.answers.writes);
      ends_shown = omega (arith, before.copies.ends_shown, turn.answers.ends_shown);
      one_end = λ takes. omega (
        arith,
        before.still takes,
        turn.answers.one_end (TakesNothing-after _ _ _ g.met.W.TellWrite.trace_joins before.writer takes),
      );
    }

pub returns-then-taken-eq0-clause-reader : goal.returns-then-taken-eq0-clause-reader
returns-then-taken-eq0-clause-reader g c =
    g.met.B.TellBufRead.trace_joins _ _ _ c.turns.invariant.reader c.in_ok-taken.ensures.reader

pub returns-then-taken-eq0-clause-writer : goal.returns-then-taken-eq0-clause-writer
returns-then-taken-eq0-clause-writer g c =
    g.met.W.TellWrite.trace_joins _ _ _ c.turns.invariant.writer c.in_ok-taken.ensures.writer

pub turns-preserved : goal.turns-preserved
turns-preserved g c =
    let before = c.turns.invariant in
    let turn = c.in_ok-taken.ensures.retried in
    let some = c.if-taken-eq0.false in
    record {
      copies = rw c.in-Some.ensures.some
          (CopiesOn-joins before.copies (turn.answers.copies (omega (arith, some))));
      few = omega (arith, c.in-Some.ensures.some, before.few, turn.few, some);
      reader = g.met.B.TellBufRead.trace_joins _ _ _ before.reader c.in_ok-taken.ensures.reader;
      writer = g.met.W.TellWrite.trace_joins _ _ _ before.writer c.in_ok-taken.ensures.writer;
      rows = (
        suc before.rows.0,
        (
          record { source = c.turns.b; target = c.turns.w },
          before.rows.1,
          c.in_ok-taken.taken,
          omega (arith, some),
          c.in_ok-taken.ensures.row,
        ),
      );
      still = λ takes.
          turn.answers.none_ended (TakesNothing-after _ _ _ g.met.W.TellWrite.trace_joins before.writer takes)
          (omega (arith, some))
          ∙ before.still takes;
    }

pub returns-in-None-clause-turns : goal.returns-in-None-clause-turns
returns-in-None-clause-turns g c =
    let before = c.turns.invariant in
    let turn = c.in_ok-taken.ensures.retried in
    let some = c.if-taken-eq0.false in
    inr (
      record {
        other = c.from.ensures;
        count = c.turns.total + c.in_ok-taken.taken;
        large = c.in-None.ensures.none;
        copies = CopiesOn-joins before.copies (turn.answers.copies (omega (arith, some)));
      },
      (
        suc before.rows.0,
        (
          record { source = c.turns.b; target = c.turns.w },
          before.rows.1,
          c.in_ok-taken.taken,
          omega (arith, some),
          c.in_ok-taken.ensures.row,
        ),
      ),
    )

pub returns-in-None-clause-copied : goal.returns-in-None-clause-copied
returns-in-None-clause-copied g c =
    let before = c.turns.invariant in
    let turn = c.in_ok-taken.ensures.retried in
    let copies = CopiesOn-joins before.copies (turn.answers.copies (omega (arith, c.if-taken-eq0.false))) in
    record {
      moved = (c.turns.total + c.in_ok-taken.taken, copies.moved);
      ended = tt;
      failed = inr (record {
        other = c.from.ensures;
        count = c.turns.total + c.in_ok-taken.taken;
        large = c.in-None.ensures.none;
        copies = copies;
      });
      often = search rules;
      few = omega (arith, before.few, turn.few, moved_count copies.moved);
      fills = copies.fills;
      writes = copies.writes;
      ends_shown = copies.ends_shown;
      one_end = λ takes.
          turn.answers.none_ended (TakesNothing-after _ _ _ g.met.W.TellWrite.trace_joins before.writer takes)
          (omega (arith, c.if-taken-eq0.false))
          ∙ before.still takes;
    }

pub returns-in-None-clause-reader : goal.returns-in-None-clause-reader
returns-in-None-clause-reader g c =
    g.met.B.TellBufRead.trace_joins _ _ _ c.turns.invariant.reader c.in_ok-taken.ensures.reader

pub returns-in-None-clause-writer : goal.returns-in-None-clause-writer
returns-in-None-clause-writer g c =
    g.met.W.TellWrite.trace_joins _ _ _ c.turns.invariant.writer c.in_ok-taken.ensures.writer
