-- The bytes that were handed out have the line feeds that were counted, and a fill that shows none met the end.
use Rattle.std.proofs.Common.{◌≡◌, ◌+◌, ◌==◌, Ok, inr, [], ◌++◌, length, refl, sym, ap, ◌∙◌, arith, length-append}
use Rattle.std.proofs.lemmas.List.Sums.{count_by-le-length, sum_by-append}
use Rattle.std.proofs.lemmas.Result.{err_from_is_err_and}
use Rattle.buffer_redux.specs.EmptyReads.{none_before_fault, none_where_shown, fill_once}
use Rattle.buffer_redux.specs.ReaderLaws.{FillBuf-along, ReadsAlong-none, ReadsAlong-shown, ReadsAlong-then, ReadsToEnd-of, ReadsToEnd-known}
use Rattle.uses.specs.LineCount.{line_feeds}
use Rattle.uses.proofs.Gaining.{seen}
use Rattle.uses.proofs.line_count.count_lines.Goals.{else-loop-test, then-loop-test+in_ok-shown+else-len-eq0+in-None}
use Rattle.uses.proofs.line_count.count_lines.Goals as goal

pub loop-init : goal.loop-init
loop-init g c = record {
  handed = [];
  along = ReadsAlong-none _ _ _;
  count = refl;
  none = refl;
  turns = omega arith;
  quiet = λ _. refl;
}

pub loop-preserved : goal.loop-preserved
loop-preserved g c =
    let before = c.loop.invariant in
    let filled = rw c.in_ok-shown.was at c.fill_buf.follows.holds-at-none in
    record {
      handed = before.handed ++ c.in_ok-shown.shown.now;
      along = ReadsAlong-shown _ _ _ _ _ _ _ before.along filled _ c.consume.ensures.inner c.consume.ensures.consumed;
      count = c.in-Some.ensures.1 ∙ (λ i. before.count i + c.count_line_feeds-found.ensures i)
          ∙ sym (sum_by-append _ before.handed c.in_ok-shown.shown.now);
      none = ap (λ l. l.reads.faults) c.consume.ensures.consumed.told ∙ filled.fills.caused ∙ before.none;
      turns = omega (
        arith,
        before.turns,
        length-append before.handed c.in_ok-shown.shown.now,
        c.if-len-eq0.false,
      );
      quiet = λ orders. ap (λ l. l.reads.zero_reads) c.consume.ensures.consumed.told
          ∙ none_where_shown g.P.ReaderPolicy.rules orders _ _ c.in_ok-shown.shown filled.fills.filled
          (omega (arith, c.if-len-eq0.false, ap length filled.shown))
          ∙ before.quiet orders;
    }

pub returns-then-len-eq0 : goal.returns-then-len-eq0
returns-then-len-eq0 g c =
    let before = c.loop.invariant in
    let filled = rw c.in_ok-shown.was at c.fill_buf.follows.holds-at-none in
    let end = ReadsToEnd-of _ _ _ _ _ _ _ before.along filled c.requires.wants c.requires.capacity c.if-len-eq0.true in
    record {
      lines = record { bytes = before.handed; end = end; count = before.count };
      caused = λ _. tt;
      once = λ orders. omega (
        arith,
        before.quiet orders,
        end.dry,
        fill_once g.P.ReaderPolicy.rules _ _ (Ok c.in_ok-shown.shown) filled.fills.filled,
      );
      part = tt;
      known = ReadsToEnd-known _ _ _ before.handed _ (λ xs. c.loop.lines ≡ line_feeds xs) end before.count;
    }

pub returns-in_err-shown-clause-once : goal.returns-in_err-shown-clause-once
returns-in_err-shown-clause-once g c orders =
    let p = err_from_is_err_and c.from_residual.result c.from_residual.ensures.1 in
    let filled = rw c.in_err-shown.was at c.fill_buf.follows.holds-at-none in
    rw p.1 (none_before_fault g.P.ReaderPolicy.rules orders _ _ _ filled.fills.filled ∙ c.loop.invariant.quiet orders)

pub returns-in_err-shown-clause-part : goal.returns-in_err-shown-clause-part
returns-in_err-shown-clause-part g c =
    let p = err_from_is_err_and c.from_residual.result c.from_residual.ensures.1 in
    let along = FillBuf-along _ _ _ _ _ c.fill_buf.follows.holds-at-none in
    rw p.1 (c.loop.invariant.handed, ReadsAlong-then _ _ _ _ _ _ c.loop.invariant.along along)

pub returns : goal.returns
returns g c =
    let before = c.loop.invariant in
    elim c.loop-test.branch [
      | else-loop-test w ↦ rw w.reader-is (record {
        lines = tt;
        caused = λ _. inr (record {
          other = c.from.ensures;
          large = omega (arith, before.turns, seen before.along.in_order, w.loop-test.false);
        });
        once = before.quiet;
        part = (before.handed, before.along);
        known = tt;
      })
      | then-loop-test+in_ok-shown+else-len-eq0+in-None w ↦
          (let filled = rw w.in_ok-shown.was at w.fill_buf.follows.holds-at-none in
          rw w.reader-is (record {
            lines = tt;
            caused = λ _. inr (record {
              other = c.from.ensures;
              large = omega (
                arith,
                w.in-None.ensures,
                before.count,
                count_by-le-length (λ b. b == 10) before.handed,
                w.count_line_feeds-found.ensures,
                count_by-le-length (λ b. b == 10) w.in_ok-shown.shown.now,
                seen before.along.in_order,
                seen filled.fills.in_order,
                ap length filled.shown,
              );
            });
            once = λ orders. none_where_shown g.P.ReaderPolicy.rules orders _ _ w.in_ok-shown.shown filled.fills.filled
                (omega (arith, w.if-len-eq0.false, ap length filled.shown))
                ∙ before.quiet orders;
            part = (
              before.handed,
              ReadsAlong-then _ _ _ _ _ _ before.along
                  (FillBuf-along _ _ _ _ _ w.fill_buf.follows.holds-at-none),
            );
            known = tt;
          }))
    ]
