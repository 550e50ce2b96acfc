-- The next message joins those that went, and it keeps the room and the limits.
use Rattle.std.proofs.Common.{[], ◌∷◌, ◌++◌, ◌∙◌, arith, ap, length-append, refl}
use Rattle.messages.specs.Names.{left_of, StreamWent-none}
use Rattle.messages.specs.MessagesLaws.{AreMessages-some, EachReadGave-joins, MessagesWent-joins}
use Rattle.messages.proofs.laws.pass.Goals as goal

pub loop-init : goal.loop-init
loop-init g c = record {
  messages = [];
  many = refl;
  went = record { bytes = []; are = refl; went = StreamWent-none g.R.TellRead.remaining (left_of c.args.requests) };
  gave = (refl, refl);
  limits = refl;
  room = refl;
}

pub loop-preserved : goal.loop-preserved
loop-preserved g c =
    let before = c.loop.invariant in
    let one = c.in-Ok.ensures.passed in
    record {
      messages = before.messages ++ (one.0, one.1) ∷ [];
      many = omega (arith, before.many, length-append before.messages ((one.0, one.1) ∷ []));
      went = MessagesWent-joins g.R.TellRead.remaining c.args.requests.decoder.0 (left_of c.args.requests) (left_of c.loop.next)
          (left_of c.in-Ok.behind) before.messages ((one.0, one.1) ∷ []) before.went
          (rw (ap (λ d. d.0) before.limits) at one.2);
      gave = EachReadGave-joins (left_of c.args.requests) (left_of c.loop.next) (left_of c.in-Ok.behind) before.gave one.3;
      limits = one.5 ∙ before.limits;
      room = one.4 ∙ before.room;
    }

pub returns-in-Err-clause-stopped : goal.returns-in-Err-clause-stopped
returns-in-Err-clause-stopped g c =
    let before = c.loop.invariant in (
      before.messages,
      c.loop.next,
      omega (arith, before.many, c.loop-test.true),
      before.went,
      before.gave,
      before.room,
      before.limits,
      c.in-Err.ensures.told,
      c.in-Err.ensures.stopped,
    )

pub returns-clause-in_order : goal.returns-clause-in_order
returns-clause-in_order g c =
    let before = c.loop.invariant in
    let went = before.went in (
      went.bytes,
      went.went.order.got,
      went.went.order.given,
      went.went.order.equal,
      grind (arith, AreMessages-some c.args.requests.decoder.0 before.messages went.bytes went.are),
    )
