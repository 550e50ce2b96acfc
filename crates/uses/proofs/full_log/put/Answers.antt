-- Each write takes a front of what is left of the text, so all of them took a front of it; no policy refuses one.
use Rattle.std.proofs.Common.{length, ap, arith, length-drop, refl, inl, inr, ◌∙◌}
use Rattle.std.proofs.lemmas.Slice.{between_to_end}
use Rattle.buffer_redux.specs.LogGrows.{WriteLogGrows-joins}
use Rattle.buffer_redux.specs.WriterLaws.{WritesInOrder-piece, WritesInOrder-then}
use Rattle.buffer_redux.specs.WritesAlongLaws.{WriterStopped-after, WriterStopped-send}
use Rattle.uses.proofs.full_log.put.Goals as goal

pub loop-at-preserved : goal.loop-at-preserved
loop-at-preserved g c =
    let at = c.loop-at.at in
    let text = c.args.text.now in
    let before = c.loop-at.invariant in
    let wrote = c.in-Ok.ensures in
    let rest = ap length (between_to_end text at (length text) (omega arith)) in record {
      within = omega (arith, wrote.bound, rest, length-drop at text);
      grows = WriteLogGrows-joins _ _ _ before.grows wrote.keeps.grows;
      flushes = wrote.keeps.flushes ∙ before.flushes;
      taken = WritesInOrder-piece _ _ _ text at _ before.within before.taken wrote.in_order;
    }

pub returns-in-Ok-eq0-clause-taken : goal.returns-in-Ok-eq0-clause-taken
returns-in-Ok-eq0-clause-taken g c = WritesInOrder-then _ c.loop-at.log _ _ c.loop-at.invariant.taken
    (rw c.in-Ok-eq0.field-0-test at c.in-Ok-eq0.ensures.in_order)

pub returns-in-Ok-eq0-clause-caused : goal.returns-in-Ok-eq0-clause-caused
returns-in-Ok-eq0-clause-caused g c =
    let at = c.loop-at.at in
    let text = c.args.text.now in
    let before = c.loop-at.invariant in
    let rest = ap length (between_to_end text at (length text) (omega arith)) in
    let steady = (rw c.in-Ok-eq0.field-0-test at c.in-Ok-eq0.ensures.steadily) refl in
    inr (record {
      is_write_zero = c.from.ensures;
      zero_writes = omega (
        arith,
        before.grows.zero_writes,
        steady.1 refl (omega (arith, rest, length-drop at text, c.loop-at-test.true)),
      );
    })

pub returns-in-Err-clause-taken : goal.returns-in-Err-clause-taken
returns-in-Err-clause-taken g c = WritesInOrder-then _ c.loop-at.log _ _ c.loop-at.invariant.taken c.in-Err.ensures.in_order

pub returns-in-Err-clause-caused : goal.returns-in-Err-clause-caused
returns-in-Err-clause-caused g c =
    let log = c.loop-at.log.log.writes in
    let last = c.write.new.self.log.writes in
    elim c.in-Err.ensures.caused [
      | inl refused ↦ absurd refused.asked.allowed
      | inr sent ↦ WriterStopped-after c.args.log.now.log.writes log last c.in-Err.e c.loop-at.invariant.grows
          (WriterStopped-send log last c.in-Err.e sent)
    ]
