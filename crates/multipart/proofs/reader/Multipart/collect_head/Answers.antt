-- What the reader of the head says, read through the view.
use Rattle.std.proofs.Common.{refl}
use Rattle.multipart.proofs.reader.Multipart.collect_head.Goals as goal

pub returns-clause-collects : goal.returns-clause-collects
returns-clause-collects g c =
    let did = c.collect_while.ensures in
    rw (← c.self.view_is) (refl, rw (c.head_most-most.ensures, ← c.self.view_is) at did.collects, did.full)

pub returns-clause-whole : goal.returns-clause-whole
returns-clause-whole g c = let did = c.collect_while.ensures in rw did.collects.takes.went.coding did.ended
