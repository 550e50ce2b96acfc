-- What was taken leads to where the reader stands, so what is a body with that in front completes it from there.
use Rattle.body_reader.specs.BodyReaderLaws.{given}
use Rattle.body_reader.proofs.laws.given_body.Goals as goal

pub returns-clause-front : goal.returns-clause-front
returns-clause-front g c body payload behind rest is same =
    (given _ (g.met.C.Coding.lawful _) _ c.get_ref.ensures.whole body payload behind rest is same).front

pub returns-clause-given : goal.returns-clause-given
returns-clause-given g c = given _ (g.met.C.Coding.lawful _) _ c.get_ref.ensures.whole
