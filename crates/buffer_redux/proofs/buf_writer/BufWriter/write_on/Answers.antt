-- Turn by turn the bytes before `at` were taken in, and each further row of writes is one of the bytes left.
use Rattle.std.proofs.Common.{◌+◌, drop, length, subst, le_refl}
use Rattle.std.proofs.lemmas.Result.{err_from_is_err_and}
use Rattle.std.proofs.lemmas.Slice.{between_to_end}
use Rattle.redux_buffer.specs.Retried.{Retried}
use Rattle.buffer_redux.specs.Buffered.{Buffered}
use Rattle.buffer_redux.specs.WriteAll.{OneWrite}
use Rattle.buffer_redux.proofs.WriteAll.{Turned, ended_all, ended_failed, first_more, turned_more, turned_none}
use Rattle.buffer_redux.proofs.buf_writer.BufWriter.write_on.Goals as goal
use Rattle.buffer_redux.proofs.buf_writer.BufWriter.write_on.Goals.{After-retried, After-retried_behind-first}

-- before the first write
fresh : (g : _) (c : After-retried_behind-first g) (s : Buffered g.row.W.Denot g.row.P.Denot)
    → OneWrite g.W.Tell.log g.W.TellWrite.trace g.P.WriterPolicy.rules c.args.bytes.now s c.args.answer c.args.self.now
    → Turned g.W.Tell.log g.W.TellWrite.trace g.P.WriterPolicy.rules s c.args.bytes.now 0 0 s
fresh g c s one = turned_none _ _ g.met.W.TellWrite.trace_none g.met.W.TellWrite.trace_joins _ s _ one.whole.0
    one.went.told_before

-- the writes of one turn are those of what is left
row : (g : _) (c : After-retried g)
    → Retried (OneWrite g.W.Tell.log g.W.TellWrite.trace g.P.WriterPolicy.rules (drop c.loop-at.at c.args.bytes.now))
    c.loop-at.self c.retried.result c.retried.new.state
row g c =
    subst (λ l. Retried (OneWrite g.W.Tell.log g.W.TellWrite.trace g.P.WriterPolicy.rules l) c.loop-at.self c.retried.result
    c.retried.new.state)
    (between_to_end c.args.bytes.now c.loop-at.at (length c.args.bytes.now) (le_refl _)) c.retried.ensures.retried

pub returns-in_err-at : goal.returns-in_err-at
returns-in_err-at g c = record {
  all = λ s one.
      let p = err_from_is_err_and c.from_residual.result c.from_residual.ensures.1 in
      rw (p.1, p.2) (ended_failed _ _ g.met.W.TellWrite.trace_none g.met.W.TellWrite.trace_joins _ s _ 0 0 s
      (fresh g (goal.at.returns-in_err-at g c).After-retried_behind-first s one) _ _ c.requires.some
      (c.retried_behind-first.ensures.retried s one) _ c.in_err-at.ensures);
}

pub loop-at-init : goal.loop-at-init
loop-at-init g c = record {
  turned = λ s one. (
    1,
    first_more _ _ g.met.W.TellWrite.trace_none g.met.W.TellWrite.trace_joins _ s _ _ _ c.requires.some
        (fresh g (goal.at.loop-at-init g c).After-retried_behind-first s one)
        (rw (← c.in_ok-at.ensures.0) (c.retried_behind-first.ensures.retried s one)) c.in_ok-at.ensures.1,
  );
}

pub loop-at-preserved : goal.loop-at-preserved
loop-at-preserved g c = record {
  turned = λ s one.
      let before = c.loop-at.invariant.turned s one in (
        before.0 + 1,
        turned_more _ _ g.met.W.TellWrite.trace_none g.met.W.TellWrite.trace_joins _ s _ _ _ _ before.1 _ _
            c.loop-at-test.true
            (rw (← c.in_ok-at-2.ensures.0) (row g (goal.at.loop-at-preserved g c).After-retried)) c.in_ok-at-2.ensures.1,
      );
}

pub returns-in_err-at-2 : goal.returns-in_err-at-2
returns-in_err-at-2 g c = record {
  all = λ s one.
      let before = c.loop-at.invariant.turned s one in
      let p = err_from_is_err_and c.from_residual-in_err-at-2.result c.from_residual-in_err-at-2.ensures.1 in
      rw (p.1, p.2) (ended_failed _ _ g.met.W.TellWrite.trace_none g.met.W.TellWrite.trace_joins _ s _ _ _ _ before.1 _ _
      c.loop-at-test.true (row g (goal.at.returns-in_err-at-2 g c).After-retried) _ c.in_err-at-2.ensures);
}

pub returns : goal.returns
returns g c = record {
  all = λ s one. ended_all _ _ g.met.W.TellWrite.trace_none g.met.W.TellWrite.trace_joins _ s _ _ _ _
      (c.loop-at.invariant.turned s one).1 c.loop-at-test.false;
}
