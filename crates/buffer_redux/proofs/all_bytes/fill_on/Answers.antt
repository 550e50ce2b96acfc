-- Turn by turn the slice's bytes before `at` were handed out, and each further row of reads is one into what is left.
use Rattle.std.proofs.Common.{◌+◌, arith, drop, length, le_refl, subst}
use Rattle.std.proofs.lemmas.Result.{err_from_is_err_and}
use Rattle.std.proofs.lemmas.Slice.{between_to_end}
use Rattle.redux_buffer.specs.Retried.{Retried}
use Rattle.buffer_redux.specs.ReadAll.{SliceStep}
use Rattle.buffer_redux.proofs.ReadAll.{ended_failed, first_failed, first_more, turned_more}
use Rattle.buffer_redux.proofs.all_bytes.fill_on.Goals as goal
use Rattle.buffer_redux.proofs.all_bytes.fill_on.Goals.{After-read_row}

-- the reads of one turn are into what is left
row : (g : _) (c : After-read_row g) → Retried (SliceStep g.R.FillSlice.reads) (c.loop-at.reader, drop c.loop-at.at c.loop-at.out)
    c.read_row.result (c.read_row.new.reader, c.read_row.new.out)
row g c =
    subst (λ l. Retried (SliceStep g.R.FillSlice.reads) (c.loop-at.reader, l) c.read_row.result
    (c.read_row.new.reader, c.read_row.new.out))
    (between_to_end c.loop-at.out c.loop-at.at (length c.loop-at.out) (le_refl _)) c.read_row.ensures.row

pub returns-in_err-at : goal.returns-in_err-at
returns-in_err-at g c = record {
  fills = λ s was none one.
      let p = err_from_is_err_and c.from_residual.result c.from_residual.ensures.1 in
      rw (p.1, p.2) (first_failed _ _ g.met.R.FillSlice.joins g.met.R.FillSlice.tells s was none _ _ _
      (omega (arith, c.requires.some, c.read_behind-first.auto.out))
      (c.read_behind-first.ensures.row s was one) _ c.in_err-at.ensures);
}

pub loop-at-init : goal.loop-at-init
loop-at-init g c = record {
  turned = λ s was none one. (
    1,
    first_more _ _ g.met.R.FillSlice.joins g.met.R.FillSlice.tells s was none _ _ _
        (omega (arith, c.requires.some, c.read_behind-first.auto.out))
        (rw (← c.in_ok-at.ensures.0) (c.read_behind-first.ensures.row s was one)) c.in_ok-at.ensures.1,
  );
}

pub returns-in_err-at-2 : goal.returns-in_err-at-2
returns-in_err-at-2 g c = record {
  fills = λ s was none one.
      let before = c.loop-at.invariant.turned s was none one in
      let p = err_from_is_err_and c.from_residual-in_err-at-2.result c.from_residual-in_err-at-2.ensures.1 in
      rw (p.1, p.2) (ended_failed _ _ g.met.R.FillSlice.joins g.met.R.FillSlice.tells s was _ _ _ _ before.1 _ _ _
      c.loop-at-test.true (row g (goal.at.returns-in_err-at-2 g c).After-read_row) _ c.in_err-at-2.ensures);
}

pub loop-at-preserved : goal.loop-at-preserved
loop-at-preserved g c = record {
  turned = λ s was none one.
      let before = c.loop-at.invariant.turned s was none one in (
        before.0 + 1,
        turned_more _ _ g.met.R.FillSlice.joins g.met.R.FillSlice.tells s was _ _ _ _ before.1 _ _ _ c.loop-at-test.true
            (rw (← c.in_ok-at-2.ensures.0) (row g (goal.at.loop-at-preserved g c).After-read_row)) c.in_ok-at-2.ensures.1,
      );
}
