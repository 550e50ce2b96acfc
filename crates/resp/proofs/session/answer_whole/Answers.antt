-- Whether a part was lost says what is due: the store as it was, or what the command means and does.
use Rattle.std.proofs.Common.{◌≡◌, inl, inr, refl, subst, sym, true, ◌∙◌}
use Rattle.std.specs.Prelude.{codes}
use Rattle.codec.specs.AnsweringLaws.{AnswersBy-answered}
use Rattle.resp.specs.Commands.{Means}
use Rattle.resp.specs.Sessions.{RepliesWhole, closes_by, session}
use Rattle.resp.specs.Stored.{held}
use Rattle.resp.proofs.Keys.{Same-refl}
use Rattle.resp.proofs.session.answer_whole.Goals as goal

pub returns-then-is_lost : goal.returns-then-is_lost
returns-then-is_lost g c =
    let values = held c.args.store.now in
    AnswersBy-answered _ _ _ _ (λ reply more t. RepliesWhole c.args.request.now values reply more t.waiting t.values
    × (t.closed ≡ closes_by more c.args.closed.now)) _
    (codes "-ERR out of memory\r\n") true (session c.clear.new.self values c.args.closed.now)
    ((c.clear.ensures, inl (sym c.is_lost.ensures ∙ c.if-is_lost.true, refl, refl, Same-refl values)), refl)
    c.write_answer.result c.write_answer.ensures.answers

pub returns-in-Ok : goal.returns-in-Ok
returns-in-Ok g c =
    let done = c.in-Ok.ensures in
    let command = c.command_of-command.result in
    let means = subst (λ parts. Means parts command) c.parts.ensures c.command_of-command.ensures in
    let is = inr (sym c.is_lost.ensures ∙ c.if-is_lost.false, (command, means, done.1, c.goes_on-more.ensures)) in
    (done.0, ((c.clear-2.ensures, is), c.closes.ensures), inl done.2)
