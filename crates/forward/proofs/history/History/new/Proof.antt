-- `new` makes a value of no bytes, at no state.
use Rattle.redux_buffer.proofs.Walks.{[], ◌∷◌, refl, proved, ‵, raw, ◌⊛◌, ◌$◌, ◌∵◌, !, qed, done, move, keep, split, fjoin, suffices, enter, no_more, returns, agg, alloc_all, pass_all, free_all, look_at, sets, nothing, says, ends_at}
use mir.Syntax.{a_type}
use mir.MapTy.{inst_fn}
use types.Run.{and_then}
use types.ByLocal.{get}
use denote.RattleType.{owns}
use denote.Laws.{Is}
use denote.Param.{param, layouts}
use denote.Signature.{types_at}
use denote.Steps.{owned}
use denote.Struct.Laws.{makes}
use denote.Triple.Entry.{alive}
use Rattle.std.specs.contracts.marker.PhantomData as Mark
use Rattle.forward.proofs.Walks.{none, one, one_made}
use Rattle.forward.specs.contracts.history.History as History
use Rattle.forward.specs.contracts.history.History.new as F
use Rattle.forward.specs.contracts.history.History.new.Key.{name as #self}
use Rattle.forward.proofs.history.History.new.Statement as stated
use Rattle.forward.proofs.history.History.new.Code as code

pub new_spec : {M : Type 1} → stated.statement M
new_spec 𝓤 𝓛 𝓜 𝓡 wired A LA =
    let T = F.ended A in
    let c = F.clauses A 𝓛 𝓜.mem 𝓡.returns in
    let args = layouts (a_type ∷ []) (A, tt) in
    let made : (History.the_row (param 0 A)).Denot = record { of = record {}; states = [] } in
    proved 𝓛 T tt c 𝓜 𝓡 tt (#self args) (inst_fn args code.function) (code.unfolded 𝓤 𝓛.H 𝓜 𝓡 wired (A, tt))
    (λ κs. tt) (λ κs. tt) (λ κs qs bounds a n are.
    qed 𝓛 ((raw (alive 𝓛 T.signature κs qs) ⊛ ‵ (owns (types_at T.signature.params κs) a tt)) ∷ raw ((c κs a).requires n) ∷ []) ∵
    keep ! (0 ∷ []) $ split ! $ keep ! (0 ∷ []) $
    enter ! _ _ _ _ _ $ alloc_all ! (λ l. pass_all ! refl tt $
    sets ! (agg ! (no_more !)) refl (tt, tt) $
    sets ! (agg ! (and_then ! (get ! refl) (no_more !))) refl (tt, (tt, tt)) $
    nothing ! $ owned ! (Mark.the_row (param 0 A)) (Is (Mark.the_row (param 0 A)))
    (makes (Mark.the_type (param 0 A)) tt 𝓛) (record {}) (none ∷ []) (tt, (refl, tt)) $
    one_made ! (Mark.the_row (param 0 A)) (record {}) none $ fjoin ! $
    returns ! (look_at ! 0 refl) $ free_all ! refl $
    suffices ! _ (ends_at 𝓛 T tt c ((κs, qs, bounds, a, tt), n) (one none) made tt tt) $ says ! refl $
    nothing ! $ move ! (2 ∷ 0 ∷ 1 ∷ []) $ done !))
