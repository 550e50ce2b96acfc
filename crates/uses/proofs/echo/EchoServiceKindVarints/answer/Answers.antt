-- The test of the kind is the clause's own, so what was written is the answer that it asks for.
use Rattle.std.proofs.Common.{[], ◌∷◌, ◌++◌, false, length, refl, true}
use Rattle.std.proofs.lemmas.Bool.{eq-eqb, ne_eqb}
use Rattle.codec.specs.AnsweringLaws.{AnswersBy-answered}
use Rattle.decoders.specs.Varints.{varint_bytes}
use Rattle.uses.specs.Echo.{echoes}
use Rattle.uses.proofs.echo.EchoServiceKindVarints.answer.Goals as goal

pub returns-then-kind-eq0 : goal.returns-then-kind-eq0
returns-then-kind-eq0 g c =
    let kind = c.args.kind in
    let s = c.args.self.now in
    AnswersBy-answered _ _ _ _ (echoes s kind c.args.payload.now) _ (0 ∷ 0 ∷ []) false s
    (rw (eq-eqb kind 0 c.if-kind-eq0.true) (refl, refl)) c.write_answer.result c.write_answer.ensures.answers

pub returns : goal.returns
returns g c =
    let kind = c.args.kind in
    let payload = c.args.payload.now in
    let s = c.args.self.now in
    AnswersBy-answered _ _ _ _ (echoes s kind payload) _ ((kind ∷ varint_bytes (length payload)) ++ payload) true s
    (rw (ne_eqb kind 0 c.if-kind-eq0.false) (refl, refl)) c.write_item.result c.write_item.ensures.answers
