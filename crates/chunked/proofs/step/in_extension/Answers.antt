-- What can't go on is wrong, and what can runs over where the least that ends the extension doesn't fit the line.
use Rattle.std.proofs.Common.{◌<◌, arith, inl, inr, length, refl}
use Rattle.chunked.specs.WithinLaws.{leads, least_all, least_some, none}
use Rattle.chunked.proofs.step.in_extension.Goals as goal

pub returns-in-None : goal.returns-in-None
returns-in-None c = grind (arith, none)

pub returns-in-Some : goal.returns-in-Some
returns-in-Some c = λ l.
    let on = leads c.args.within c.args.byte c.in-Some.next c.in-Some.ensures in
    let text = least_some c.in-Some.next in
    inl (
      refl,
      record {
        text = text.0;
        extends = (on text.0).1 text.1;
        over = λ other more.
            omega (arith, c.if-room-least.true, c.least.ensures, least_all c.in-Some.next other ((on other).0 more));
      },
    )

pub returns-in-Some-2 : goal.returns-in-Some-2
returns-in-Some-2 c = λ l.
    let least = least_some c.in-Some.next in
    let fits : length least.0 < c.args.room = omega (arith, least.2, c.least.ensures, c.if-room-least.false) in (
      (c.requires, inr (c.in-Some.next, c.in-Some.ensures, (least.0, least.1, fits), refl)),
      (c.requires, (least.0, least.1, omega (arith, fits))),
    )
