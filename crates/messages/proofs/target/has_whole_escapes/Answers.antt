-- Below `at` all is whole, and with the place there all is below the next.
use Rattle.std.proofs.Common.{◌∙◌, IsTrue, below_more, sym}
use Rattle.messages.specs.Target.{is_whole_at}
use Rattle.messages.proofs.target.has_whole_escapes.Goals as goal

pub loop-at-preserved : goal.loop-at-preserved
loop-at-preserved c =
    below_more (λ k. IsTrue (is_whole_at c.args.text.now k)) c.loop-at.at c.loop-at.invariant
    (sym c.is_whole_at.ensures ∙ c.if-not-is_whole_at.false)
