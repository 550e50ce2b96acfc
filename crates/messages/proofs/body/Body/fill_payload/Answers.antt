-- What the reader did, told of one in a body; why none comes is named where it stands then.
use Rattle.messages.specs.Names.{body_rules, FillsPayload, std_read_rules}
use Rattle.messages.proofs.Inside.{body_goes, tells_why}
use Rattle.messages.proofs.body.Body.fill_payload.Goals as goal

pub returns-clause-goes : goal.returns-clause-goes
returns-clause-goes g c =
    let fills = c.fill_payload-answer.ensures.fills in
    rw (← c.self.view_is) (body_goes fills.went c.self.invariant.2 fills.whole)

pub returns-clause-fills : goal.returns-clause-fills
returns-clause-fills g c =
    let d = c.self.inside.reader in
    let fill = c.fill_payload-answer in
    rw (c.answer_of.ensures, c.place.ensures, ← c.self.view_is) (tells_why _ (λ told. FillsPayload g.R.TellRead.remaining
    std_read_rules (body_rules d.coding) d told fill.new.self) fill.result fill.ensures.fills)
