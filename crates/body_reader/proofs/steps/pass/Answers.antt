-- Each pass takes bytes of which only so many stand before payload or the end, so another answer comes.
use Rattle.std.proofs.Common.{◌++◌, ap, take, ◌∙◌}
use Rattle.body_reader.proofs.Skipping.{passed_none, passed_on}
use Rattle.body_reader.proofs.steps.pass.Goals as goal

pub loop-count-init : goal.loop-count-init
loop-count-init g c = passed_none _ _ _ _ _ c.requires.place

pub loop-count-preserved : goal.loop-count-preserved
loop-count-preserved g c =
    let taken = c.loop-count.progress.taken.log.fills.consumed in
    let looks = rw c.buffer.ensures.value at c.in-Passed.ensures in
    passed_on _ _ _ _ _ _ _ c.loop-count.invariant _ _ looks _ (record {
      place = c.take.ensures.place;
      taken = c.take.ensures.taken ∙ ap (λ l. taken ++ take c.in-Passed.count l) c.buffer-in-Passed.ensures.value;
    }) _ c.consume.ensures.inner c.consume.ensures.consumed c.consume.ensures.keeps
