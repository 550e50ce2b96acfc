-- What the reader did, told of one in a body; why none comes is named where it stands then.
use Rattle.messages.specs.Names.{body_rules, ReadsPayload, std_read_rules}
use Rattle.messages.proofs.Asking.{body_asks}
use Rattle.messages.proofs.Inside.{body_goes, ok_named, read_went, rest_named, tells_why}
use Rattle.messages.proofs.body.Body.read.Goals as goal

pub returns-clause-goes : goal.returns-clause-goes
returns-clause-goes g c =
    let reads = c.read_payload-answer.ensures.reads in
    rw (c.answer_of.ensures, ← c.self.view_is)
    (body_goes (read_went _ _ reads) c.self.invariant.2 reads.whole)

pub returns-clause-bound : goal.returns-clause-bound
returns-clause-bound g c =
    let read = c.read_payload-answer in rw c.answer_of.ensures (ok_named _ read.result _ read.ensures.bound)

pub returns-clause-handed : goal.returns-clause-handed
returns-clause-handed g c =
    let read = c.read_payload-answer in
    rw (c.answer_of.ensures, ← c.self.view_is) (ok_named _ read.result _ read.ensures.handed)

pub returns-clause-rest : goal.returns-clause-rest
returns-clause-rest g c =
    let read = c.read_payload-answer in
    rw (c.answer_of.ensures, ← c.self.view_is) (rest_named _ read.result _ _ read.new.out read.ensures.rest)

pub returns-clause-reads : goal.returns-clause-reads
returns-clause-reads g c =
    let d = c.self.inside.reader in
    let read = c.read_payload-answer in
    rw (c.answer_of.ensures, c.place.ensures, ← c.self.view_is) (tells_why _ (λ told. ReadsPayload g.R.TellRead.remaining
    std_read_rules (body_rules d.coding) d read.new.out told read.new.self) read.result read.ensures.reads)

pub returns-clause-asks : goal.returns-clause-asks
returns-clause-asks g c =
    rw (← c.self.view_is) (body_asks c.get_ref.ensures.whole c.read_payload-answer.result c.read_payload-answer.ensures.reads)
