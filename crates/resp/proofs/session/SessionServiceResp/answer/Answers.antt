-- A piece that makes no request whole leaves the store as it was, and gets no reply, or why it is refused.
use Rattle.std.proofs.Common.{[], append-nil, false, inr, refl, ◌∙◌}
use Rattle.codec.specs.AnsweringLaws.{AnswersBy-answered}
use Rattle.resp.specs.Sessions.{RepliesBy}
use Rattle.resp.specs.Stored.{held}
use Rattle.resp.specs.declared.request.Fed.TheVariants.{Bad, More}
use Rattle.resp.proofs.Keys.{Same-refl}
use Rattle.resp.proofs.session.SessionServiceResp.answer.Goals as goal

pub returns-in-More : goal.returns-in-More
returns-in-More g c =
    let values = held c.args.self.now.store in
    ([], (More, c.take.new.self, c.in-More.ensures, (refl, refl, refl, Same-refl values), refl), inr (refl, refl))

pub returns-in-Bad : goal.returns-in-Bad
returns-in-Bad g c =
    let s = c.args.self.now in
    let values = held s.store in
    AnswersBy-answered _ _ _ _ (RepliesBy s c.args.item c.args.payload.now) _ _ false _ (
      Bad c.in-Bad.refusal,
      c.take.new.self,
      c.in-Bad.ensures,
      (append-nil _ ∙ c.refusal_text.ensures, refl, c.clear.ensures, Same-refl values),
      refl,
    )
    c.write_answer.result c.write_answer.ensures.answers
