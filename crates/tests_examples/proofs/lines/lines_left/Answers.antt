-- Each line that comes joins the run, and where none comes the stream has ended.
use Rattle.std.proofs.Common.{◌∷◌, [], ◌++◌, arith, length-append, refl}
use Rattle.std.proofs.lemmas.List.{map-append}
use Rattle.line_reader.specs.LinesAlongLaws.{NextLine-none, NextLine-some}
use Rattle.line_reader.specs.RunsLaws.{LineRuns-more}
use Rattle.tests_examples.proofs.lines.lines_left.Goals as goal

pub loop-count-init : goal.loop-count-init
loop-count-init g c = record { lines = []; counted = refl; run = refl }

pub loop-count-preserved : goal.loop-count-preserved
loop-count-preserved g c =
    let before = c.loop-count.invariant in
    let next = NextLine-some _ c.loop-count.reader c.next.follows.lender-at-none _ _ _ c.in_ok-next.was c.in-Some.is
    c.next.follows.holds-at-none in
    record {
      lines = before.lines ++ c.in-Some.field-0.now ∷ [];
      counted = omega (arith, before.counted, length-append before.lines (c.in-Some.field-0.now ∷ []));
      run = rw map-append (LineRuns-more _ _ _ _ _ _ before.run next);
    }

pub returns-in-None : goal.returns-in-None
returns-in-None g c =
    let before = c.loop-count.invariant in
    let next = NextLine-none _ c.loop-count.reader c.next.follows.lender-at-none _ _ c.in_ok-next.was c.in-None.is
    c.next.follows.holds-at-none in
    record { counted = (before.lines, before.counted, LineRuns-more _ _ _ _ _ _ before.run next) }
