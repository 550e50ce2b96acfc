-- A byte that leads on joins those before.
use Rattle.std.proofs.Common.{inl, inr, arith, refl}
use Rattle.chunked.proofs.Framing.{comes_more, comes_none}
use Rattle.chunked.proofs.step.advance.Goals as goal

pub loop-taken-init : goal.loop-taken-init
loop-taken-init c =
    record { within = omega arith; comes = comes_none c.args.limits.now c.args.start c.requires; begun = inr refl }

pub loop-taken-preserved : goal.loop-taken-preserved
loop-taken-preserved c = record {
  within = omega arith;
  comes = comes_more c.args.limits.now c.args.start c.loop-taken.place c.in-Ok.next c.args.shown.now c.loop-taken.taken _
      c.loop-taken-test.true refl c.loop-taken.invariant.comes c.in-Ok.ensures.0 c.in-Ok.ensures.1;
  begun = inl (omega arith);
}
