-- A piece that is wanted is written whole, or a beginning of it.
use Rattle.std.proofs.Common.{refl}
use Rattle.parts.proofs.Listing.{puts_all}
use Rattle.parts.proofs.text.put_wanted.Goals as goal

pub returns-then-wanted : goal.returns-then-wanted
returns-then-wanted g c =
    rw c.if-wanted.true (puts_all g.W.Tell.log g.W.TellWrite.trace _ _ _ _ c.write_all.ensures.steps
    (c.write_all.ensures.often refl))
