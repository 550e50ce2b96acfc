-- A run over bytes that are all payload takes them all, and stands where they lead.
use Rattle.std.proofs.Common.{[]}
use Rattle.body_reader.specs.ByByteLaws.{ran_leads, ran_still}
use Rattle.body_reader.proofs.by_byte.ByByteCoding.behind.Goals as goal

pub returns-clause-leads : goal.returns-clause-leads
returns-clause-leads g c follow payload =
    ran_leads _ c.args.place c.args.payload.now payload.0 _ _ [] c.run.ensures payload.1

pub returns-clause-still : goal.returns-clause-still
returns-clause-still g c more follow payload =
    ran_still _ c.args.place c.args.payload.now more payload.0 _ _ c.run.ensures payload.1
