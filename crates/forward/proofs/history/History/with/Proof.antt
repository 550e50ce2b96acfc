-- `with` makes a value of no bytes, with the states that its clause names.
use Rattle.redux_buffer.proofs.Walks.{[], ◌∷◌, refl, proved, named, ‵, raw, ◌⊛◌, ◌$◌, ◌∵◌, !, qed, done, move, keep, split, fjoin, suffices, enter, no_more, returns, agg, alloc_all, pass_all, free_all, look_at, sets, nothing, yes, RefOf, shr_vals, shr_Tells, plain, Stays, says, stay_dropped, Goes-dropped, ends_at}
use Rattle.std.proofs.Common.{◌++◌}
use mir.Syntax.{a_type}
use mir.MapTy.{inst_fn}
use types.Run.{and_then}
use types.ByLocal.{get}
use denote.RattleType.{RattleType, owns}
use denote.Laws.{Is}
use denote.Param.{param, layouts}
use denote.Signature.{types_at}
use denote.Steps.{owned}
use denote.Struct.Laws.{makes}
use denote.Triple.Entry.{alive}
use Rattle.std.specs.contracts.marker.PhantomData as Mark
use Rattle.forward.proofs.Walks.{none, one, one_made}
use Rattle.forward.specs.contracts.history.History as History
use Rattle.forward.specs.contracts.history.History.with as F
use Rattle.forward.specs.contracts.history.History.with.Key.{name as #self}
use Rattle.forward.proofs.history.History.with.Statement as stated
use Rattle.forward.proofs.history.History.with.Code as code

abbrev stayed : (A : RattleType) → Stays (F.ended A).signature.params (F.ended A).kept
stayed A = (
  stay_dropped (RefOf (0 ∷ []) tt (plain (λ _. History.the_row (param 0 A))) (λ _. tt)) yes,
  (stay_dropped (RefOf (1 ∷ []) tt (plain (λ _. param 0 A)) (λ _. tt)) yes, tt),
)

pub with_spec : {M : Type 1} → stated.statement M
with_spec 𝓤 𝓛 𝓜 𝓡 wired A LA =
    let T = F.ended A in
    let c = F.clauses A 𝓛 𝓜.mem 𝓡.returns in
    let args = layouts (a_type ∷ []) (A, tt) in
    proved 𝓛 T (stayed A) c 𝓜 𝓡 (
      Goes-dropped 𝓛 3 (RefOf (0 ∷ []) tt (plain (λ _. History.the_row (param 0 A))) (λ _. tt)) yes (λ κs x f. refl),
      (Goes-dropped 𝓛 3 (RefOf (1 ∷ []) tt (plain (λ _. param 0 A)) (λ _. tt)) yes (λ κs x f. refl), tt),
    )
    (#self args) (inst_fn args code.function) (code.unfolded 𝓤 𝓛.H 𝓜 𝓡 wired (A, tt))
    (λ κs. (shr_vals, (shr_vals, tt)))
    (λ κs. (shr_Tells (named 0) κs.0 (History.the_row (param 0 A)), (shr_Tells (named 1) κs.1.0 (param 0 A), tt)))
    (λ κs qs bounds a n are.
    let us = shr_vals a.0 in let vs = shr_vals a.1.0 in
    let made : (History.the_row (param 0 A)).Denot =
    record { of = record {}; states = a.0.now.states ++ a.1.0.now ∷ [] } in
    qed 𝓛 ((raw (alive 𝓛 T.signature κs qs) ⊛ ‵ (owns (types_at T.signature.params κs) a (us, (vs, tt))))
    ∷ raw ((c κs a).requires n) ∷ []) ∵
    keep ! (0 ∷ []) $ split ! $ keep ! (0 ∷ []) $
    enter ! _ _ _ _ _ $ alloc_all ! (λ l. pass_all ! refl ((tt, tt), ((tt, tt), tt)) $
    sets ! (agg ! (no_more !)) refl (tt, tt) $
    sets ! (agg ! (and_then ! (get ! refl) (no_more !))) refl (tt, (tt, tt)) $
    nothing ! $ owned ! (Mark.the_row (param 0 A)) (Is (Mark.the_row (param 0 A)))
    (makes (Mark.the_type (param 0 A)) tt 𝓛) (record {}) (none ∷ []) (tt, (refl, tt)) $
    one_made ! (Mark.the_row (param 0 A)) (record {}) none $ fjoin ! $
    returns ! (look_at ! 0 refl) $ free_all ! refl $
    suffices ! _ (ends_at 𝓛 T (stayed A) c ((κs, qs, bounds, a, (us, (vs, tt))), n) (one none) made
    (tt, (tt, tt)) (tt, (tt, tt))) $
    says ! refl $ nothing ! $ nothing ! $ fjoin ! $ nothing ! $ fjoin ! $ move ! (2 ∷ 0 ∷ 1 ∷ []) $ done !))
