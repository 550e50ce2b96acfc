-- What a read as std's did, told of one in a body; what its calls tell changes none of that.
use Rattle.std.proofs.Common.{subst}
use Rattle.messages.specs.Names.{body_rules, IsBodyReader}
use Rattle.messages.proofs.Inside.{body_goes, body_room, told_went}
use Rattle.messages.proofs.body.tells.BodyTellRead.read_told.Goals as goal

pub invariant_of-self : goal.invariant_of-self
invariant_of-self g c =
    let read = c.read_told.ensures.read in
    let went = told_went g.R.TellRead.remaining c.self.inside.reader c.read_told.new.self c.read_told.new.out read.0
    c.read_told.result read.1 c.read_told.ensures.told in
    (c.self.invariant.0, c.self.invariant.1, body_room went c.self.invariant.2)

pub returns-clause-goes : goal.returns-clause-goes
returns-clause-goes g c =
    let read = c.read_told.ensures.read in
    let went = told_went g.R.TellRead.remaining c.self.inside.reader c.read_told.new.self c.read_told.new.out read.0
    c.read_told.result read.1 c.read_told.ensures.told in
    rw (← c.self.view_is) (body_goes went c.self.invariant.2
    (subst (λ x. IsBodyReader (body_rules x) c.read_told.new.self) went.coding c.read_told.ensures.whole))

pub returns-clause-read : goal.returns-clause-read
returns-clause-read g c = rw (← c.self.view_is) c.read_told.ensures.read
