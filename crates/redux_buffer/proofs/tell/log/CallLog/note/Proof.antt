-- An empty body. The borrow is opened, and closed at the lists that the clauses name.
use Rattle.redux_buffer.proofs.Walks.{[], ◌∷◌, refl, proved, ftrue, flft, id⊢, named, vunit, ‵, raw, ◌⊛◌, ◌$◌, ◌∵◌, !, qed, done, move, keep, use1, split, join, fsplit3, feq_i, suffices, group, enter, of_opd, unit_lit, returns, alloc_all, pass_all, free_all, look_at, sets, yes, MutRef, mut_vals, mut_Tells, ShrRef, shr_vals, shr_Tells, plain, named_lft, opens, closes, Stays, says, stay_ref, Goes-ref, stay_none_ref, Goes-none_ref, ends_at}
use Rattle.redux_buffer.specs.Calls.{after_call}
use Rattle.redux_buffer.specs.declared.tell.log.CallLog.{CallLog}
use Rattle.redux_buffer.specs.contracts.tell.log.CallLog as T
use Rattle.redux_buffer.specs.contracts.tell.log.Call as K
use Rattle.redux_buffer.specs.contracts.tell.log.CallLog.note as f
use Rattle.redux_buffer.proofs.tell.log.CallLog.note.Statement.{statement}
use Rattle.redux_buffer.proofs.tell.log.CallLog.note.Code as code

abbrev stayed : Stays f.ended.signature.params f.ended.kept
stayed = (
  stay_ref (0 ∷ []) tt (plain (λ _. T.the_row)),
  (stay_none_ref (1 ∷ []) tt (plain (λ κs. K.the_row (named_lft 3 2 tt κs))) yes, tt),
)

pub note_spec : {M : Type 1} → statement M
note_spec 𝓤 𝓛 𝓜 𝓡 wired =
    let c = f.clauses 𝓛 𝓜.mem 𝓡.returns in
    proved 𝓛 f.ended stayed c 𝓜 𝓡 (
      Goes-ref 𝓛 3 0 tt (plain (λ _. T.the_row)),
      (Goes-none_ref 𝓛 3 (1 ∷ []) tt (plain (λ κs. K.the_row (named_lft 3 2 tt κs))) yes, tt),
    )
    f.Key.name code.function (code.unfolded 𝓤 𝓛.H 𝓜 𝓡 wired)
    (λ κs. (mut_vals, (shr_vals, tt)))
    (λ κs. (mut_Tells (named 0) κs.0 T.the_row, (shr_Tells (named 1) κs.1.0 (K.the_row (named_lft 3 2 tt κs)), tt)))
    (λ κs qs bounds a n are.
    let b = a.0.ref_ptr.0 in let o = a.0.ref_ptr.1 in let h = a.0.now in let call = a.1.0.now in
    let vs = mut_vals a.0 in let us = shr_vals a.1.0 in
    let h' : CallLog = record { log = after_call h.log call } in
    qed 𝓛 (((‵ (flft κs.0 qs.0) ⊛ (‵ (flft κs.1.0 qs.1.0) ⊛ (‵ (flft κs.1.1.0 qs.1.1.0) ⊛ ‵ ftrue)))
    ⊛ (‵ ((MutRef (named 0) κs.0 T.the_row).own_val a.0 vs)
    ⊛ (‵ ((ShrRef (named 1) κs.1.0 (K.the_row (named_lft 3 2 tt κs))).own_val a.1.0 us) ⊛ ‵ ftrue)))
    ∷ raw ((c κs a).requires n) ∷ []) ∵
    split ! $ split ! $ move ! (2 ∷ []) $ split ! $
    -- [self; the call; the token of self; the other tokens; the `requires`]
    enter ! _ _ _ _ _ $ alloc_all ! (λ l. pass_all ! refl ((tt, tt), ((tt, tt), tt)) $
    fsplit3 ! $ move ! (1 ∷ 2 ∷ 4 ∷ []) $ opens ! tt T.the_row b o (λ ws.
    sets ! (of_opd ! (unit_lit !)) refl (tt, tt) $
    move ! (1 ∷ []) $ use1 𝓛 (‵ (T.the_row.own_val h' ws)) (id⊢ 𝓤 _) $ move ! (1 ∷ 0 ∷ []) $ closes ! tt T.the_row h' ws b o $
    -- [two parts of self; the token of self; self's first part; the call; the other tokens; the `requires`]
    returns ! (look_at ! 0 refl) $ free_all ! refl $ keep ! (3 ∷ 0 ∷ 1 ∷ 2 ∷ 4 ∷ 5 ∷ []) $
    suffices ! _ (ends_at 𝓛 f.ended stayed c ((κs, qs, bounds, a, (vs, (us, tt))), n) vunit tt
    (h', (tt, tt)) (tt, (tt, tt))) $ says ! refl $
    group ! 3 $ move ! (2 ∷ []) $ move ! (1 ∷ 0 ∷ []) $ join ! $ move ! (1 ∷ 2 ∷ 0 ∷ []) $ join ! $
    feq_i ! _ (vunit ∷ []) _ refl $ move ! (1 ∷ 2 ∷ 0 ∷ []) $ done !)))
