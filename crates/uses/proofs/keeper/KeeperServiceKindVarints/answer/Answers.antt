-- The test that failed says that the payload may be kept, and what was written is its answer.
use Rattle.std.proofs.Common.{[], ◌∷◌, arith, refl, true}
use Rattle.codec.specs.AnsweringLaws.{AnswersBy-answered}
use Rattle.uses.specs.Keeper.{KeepsPayload}
use Rattle.uses.proofs.keeper.KeeperServiceKindVarints.answer.Goals as goal

pub returns-in-Ok : goal.returns-in-Ok
returns-in-Ok g c =
    let kind = c.args.kind in
    AnswersBy-answered _ _ _ _ (KeepsPayload c.args.self.now kind c.args.payload.now) _ (kind ∷ 0 ∷ []) true _ (
      omega (arith, c.if-payload-saturating_sub.false, c.saturating_sub.ensures, c.len.ensures),
      c.in-Ok.ensures.items,
      refl,
      refl,
      refl,
    )
    c.write_answer.result c.write_answer.ensures.answers
