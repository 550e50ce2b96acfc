-- Each `read_until` hands out one line; one of nothing is the end.
use Rattle.std.proofs.Common.{[], ◌∷◌, ◌++◌, inl, inr, refl, sym, ap, subst, arith, length, length-append}
use Rattle.std.proofs.lemmas.Result.{err_from_is_err_and}
use Rattle.std.specs.List.{concat}
use Rattle.buffer_redux.specs.ReaderLaws.{ReadsAlong-then, WantsBytes}
use Rattle.buffer_redux.specs.UntilLaws.{ReadsUntil-end}
use Rattle.uses.proofs.Lines.{HandsLines-along, HandsLines-more}
use Rattle.uses.proofs.tally.count_pieces.Goals as goal

pub loop-count-init : goal.loop-count-init
loop-count-init g c = record { lines = []; counted = refl; hands = refl }

pub loop-count-preserved : goal.loop-count-preserved
loop-count-preserved g c =
    let before = c.loop-count.invariant in
    let line = c.read_until.new.out.items in
    let reads = rw c.clear.ensures.items at c.in_ok-read_until.ensures.until in
    record {
      lines = before.lines ++ line ∷ [];
      counted = omega (arith, before.counted, length-append before.lines (line ∷ []));
      hands = HandsLines-more _ _ before.lines line _ _ _ before.hands (_, reads)
          (omega (arith, reads.count, ap length reads.appended, c.if-branch-eq0.false));
    }

pub returns-then-branch-eq0 : goal.returns-then-branch-eq0
returns-then-branch-eq0 g c =
    let before = c.loop-count.invariant in
    let along = HandsLines-along _ _ before.lines _ _ before.hands in
    let reads = rw (c.clear.ensures.items, c.if-branch-eq0.true) at c.in_ok-read_until.ensures.until in
    let (none, end) = ReadsUntil-end _ _ 10 _ _ _ _ reads (subst WantsBytes (sym along.claims) c.requires.wants)
    (omega (arith, c.requires.capacity, along.capacity)) in
    record {
      end = (
        concat before.lines,
        record {
          along = ReadsAlong-then _ _ _ _ _ _ along end.along;
          none = end.none;
          dry = omega (arith, end.dry, along.grows.zero_reads);
        },
      );
      pieces = (before.lines, _, before.hands, before.counted, (0, rw none at reads));
      stopped = tt;
    }

pub returns-in_err-read_until-clause-stopped : goal.returns-in_err-read_until-clause-stopped
returns-in_err-read_until-clause-stopped g c =
    let before = c.loop-count.invariant in
    let p = err_from_is_err_and c.from_residual.result c.from_residual.ensures.1 in
    let failed = rw c.clear.ensures.items at c.in_err-read_until.ensures.until in
    rw (p.1, p.2) (before.lines, _, before.hands, inl (_, failed))

-- too many lines came
pub returns-clause-stopped : goal.returns-clause-stopped
returns-clause-stopped g c =
    let before = c.loop-count.invariant in (
      before.lines,
      _,
      before.hands,
      inr (
        c.from.ensures,
        omega (arith, before.counted, c.loop-count-test.false),
        refl {a = c.loop-count.reader},
      ),
    )
