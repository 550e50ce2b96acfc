-- What a look of the one says of its grammar holds of the grammar of both.
use Rattle.std.proofs.Common.{refl}
use Rattle.body_reader.specs.declared.either.Side.TheVariants.{First, Second}
use Rattle.body_reader.specs.Either.{first_of, second_of}
use Rattle.body_reader.specs.EitherLaws.{side_looks}
use Rattle.body_reader.proofs.either.EitherCoding.look.Goals as goal

pub returns-in-First-place : goal.returns-in-First-place
returns-in-First-place g c =
    rw (c.in-First.is, c.in-First-place.is, c.first_look.ensures)
    (side_looks First first_of First first_of (λ p. refl) (λ v. refl) (g.A.Coding.grammar c.in-First.a) c.in-First-place.p
    c.args.shown.now c.look.result c.look.ensures)

pub returns-in-Second-place-2 : goal.returns-in-Second-place-2
returns-in-Second-place-2 g c =
    rw (c.in-Second.is, c.in-Second-place-2.is, c.second_look.ensures)
    (side_looks Second second_of Second second_of (λ q. refl) (λ w. refl) (g.B.Coding.grammar c.in-Second.b)
    c.in-Second-place-2.q c.args.shown.now c.look-in-Second-place-2.result c.look-in-Second-place-2.ensures)
