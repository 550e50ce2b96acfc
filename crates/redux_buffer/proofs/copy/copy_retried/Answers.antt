-- An interrupted turn moves nothing and meets one fault, so the last turn's answer is that of them all.
use Rattle.std.proofs.Common.{rules, arith, Ok, Err, ◌∙◌}
use Rattle.std.proofs.Math.Numerals.{add-one}
use Rattle.redux_buffer.specs.CopyLaws.{CopiesOn-after, TakesNothing-after, TurnAnswers-after}
use Rattle.redux_buffer.proofs.Turning.{last_retried, often_at_limit}
use Rattle.redux_buffer.proofs.copy.copy_retried.Goals as goal

pub returns-in-Ok-clause-row : goal.returns-in-Ok-clause-row
returns-in-Ok-clause-row g c =
    let turn = c.in-Ok.ensures in
    record {
      count = c.loop.counter;
      last = record { source = c.loop.b; target = c.loop.w };
      interrupted = c.loop.invariant.row;
      most = omega (arith, c.loop.auto.counter-end);
      often = tt;
      went = record { read = turn.reader; wrote = turn.writer; turn = turn.turn };
    }

pub returns-then-ne-clause-row : goal.returns-then-ne-clause-row
returns-then-ne-clause-row g c =
    let turn = c.in-Err.ensures in
    record {
      count = c.loop.counter;
      last = record { source = c.loop.b; target = c.loop.w };
      interrupted = c.loop.invariant.row;
      most = omega (arith, c.loop.auto.counter-end);
      often = search rules;
      went = record { read = turn.reader; wrote = turn.writer; turn = turn.turn };
    }

pub returns-clause-row : goal.returns-clause-row
returns-clause-row g c =
    let turn = c.copy_turn-2.ensures in
    record {
      count = c.loop.counter;
      last = record { source = c.loop.b; target = c.loop.w };
      interrupted = c.loop.invariant.row;
      most = omega (arith, c.loop.auto.counter-end);
      often = often_at_limit c.copy_turn-2.result c.loop.counter (search rules);
      went = record { read = turn.reader; wrote = turn.writer; turn = turn.turn };
    }

pub returns-in-Ok-clause-retried : goal.returns-in-Ok-clause-retried
returns-in-Ok-clause-retried g c =
    let before = c.loop.invariant in
    let turn = c.in-Ok.ensures.turn in
    record {
      answers = TurnAnswers-after _ _ _ g.met.W.TellWrite.trace_joins before.copies before.writer before.still
          (Ok c.in-Ok.n) turn.answers;
      often = tt;
      few = omega (arith, before.faults, turn.one_fault);
    }

pub returns-then-ne-clause-retried : goal.returns-then-ne-clause-retried
returns-then-ne-clause-retried g c =
    let before = c.loop.invariant in
    let turn = c.in-Err.ensures.turn in
    record {
      answers = TurnAnswers-after _ _ _ g.met.W.TellWrite.trace_joins before.copies before.writer before.still
          (Err c.in-Err.e) turn.answers;
      often = search rules;
      few = omega (arith, before.faults, turn.one_fault);
    }

pub returns-then-ne-clause-reader : goal.returns-then-ne-clause-reader
returns-then-ne-clause-reader g c =
    g.met.B.TellBufRead.trace_joins _ _ _ c.loop.invariant.reader c.in-Err.ensures.reader

pub returns-then-ne-clause-writer : goal.returns-then-ne-clause-writer
returns-then-ne-clause-writer g c =
    g.met.W.TellWrite.trace_joins _ _ _ c.loop.invariant.writer c.in-Err.ensures.writer

pub returns-clause-reader : goal.returns-clause-reader
returns-clause-reader g c =
    g.met.B.TellBufRead.trace_joins _ _ _ c.loop.invariant.reader c.copy_turn-2.ensures.reader

pub returns-clause-writer : goal.returns-clause-writer
returns-clause-writer g c =
    g.met.W.TellWrite.trace_joins _ _ _ c.loop.invariant.writer c.copy_turn-2.ensures.writer

pub loop-preserved : goal.loop-preserved
loop-preserved g c =
    let before = c.loop.invariant in
    let turn = c.in-Err.ensures.turn in
    record {
      row = rw add-one (
        record { source = c.loop.b; target = c.loop.w },
        before.row,
        c.in-Err.e,
        search rules,
        record { read = c.in-Err.ensures.reader; wrote = c.in-Err.ensures.writer; turn = turn },
      );
      copies = CopiesOn-after before.copies (turn.interrupted (search rules));
      faults = omega (arith, before.faults, turn.one_fault);
      reader = g.met.B.TellBufRead.trace_joins _ _ _ before.reader c.in-Err.ensures.reader;
      writer = g.met.W.TellWrite.trace_joins _ _ _ before.writer c.in-Err.ensures.writer;
      still = λ takes.
          turn.answers.one_end (TakesNothing-after _ _ _ g.met.W.TellWrite.trace_joins before.writer takes)
          ∙ before.still takes;
    }

pub returns-clause-retried : goal.returns-clause-retried
returns-clause-retried g c =
    let before = c.loop.invariant in
    last_retried _ _ _ g.met.W.TellWrite.trace_joins before.copies before.writer before.still c.copy_turn-2.result
    (search rules) (search rules) c.copy_turn-2.ensures.turn
