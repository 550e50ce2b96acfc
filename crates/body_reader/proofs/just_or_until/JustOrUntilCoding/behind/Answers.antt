-- What is surely payload is clear of the delimiter, so it leads on as in a body that ends at that.
use Rattle.body_reader.specs.JustOrUntilLaws.{text_leads, text_still}
use Rattle.body_reader.proofs.just_or_until.JustOrUntilCoding.behind.Goals as goal

pub returns-clause-leads : goal.returns-clause-leads
returns-clause-leads c follow text =
    let s = c.args.self.now in
    text_leads _ _ _ s.some s.shorter s.fits c.args._place _ follow text

pub returns-clause-still : goal.returns-clause-still
returns-clause-still c more follow text =
    let s = c.args.self.now in
    text_still _ _ _ s.some s.shorter s.fits c.args._place c.args._payload.now more follow text
