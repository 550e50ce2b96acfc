-- `zero` makes a value of no bytes, at 0.
use Rattle.redux_buffer.proofs.Walks.{[], ◌∷◌, refl, proved, vstruct, vnil, raw, ◌$◌, ◌∵◌, !, qed, done, keep, join, suffices, enter, no_more, returns, agg, alloc_all, pass_all, free_all, look_at, sets, pure_i, nothing, on_entry, Stays, says, ends_at}
use Rattle.redux_buffer.specs.declared.count.Count.{Count}
use Rattle.redux_buffer.specs.contracts.count.Count as T
use Rattle.redux_buffer.specs.contracts.count.Count.zero as f
use Rattle.redux_buffer.proofs.count.Count.zero.Statement.{statement}
use Rattle.redux_buffer.proofs.count.Count.zero.Code as code

abbrev stayed : Stays f.ended.signature.params f.ended.kept
stayed = tt

abbrev made : Count
made = record { total = 0 }

pub zero_spec : {M : Type 1} → statement M
zero_spec 𝓤 𝓛 𝓜 𝓡 wired =
    let c = f.clauses 𝓛 𝓜.mem 𝓡.returns in
    proved 𝓛 f.ended stayed c 𝓜 𝓡 tt f.Key.name code.function (code.unfolded 𝓤 𝓛.H 𝓜 𝓡 wired)
    (λ κs. tt) (λ κs. tt) (λ κs qs bounds a n are.
    qed 𝓛 (raw (on_entry 𝓛 f.signature κs qs a tt) ∷ raw ((c κs a).requires n) ∷ []) ∵ keep ! [] $
    enter ! _ _ _ _ _ $ alloc_all ! (λ l. pass_all ! refl tt $
    sets ! (agg ! (no_more !)) refl (tt, tt) $ returns ! (look_at ! 0 refl) $ free_all ! refl $
    pure_i ! (T.the_row.own_val made (vstruct vnil ∷ [])) ((λ vss. (tt, tt)), tt) ((tt, (refl, tt)), tt) $
    suffices ! _ (ends_at 𝓛 f.ended stayed c ((κs, qs, bounds, a, tt), n) (vstruct vnil) made tt tt) $
    says ! refl $
    nothing ! $ join ! $ nothing ! $ done !))
