-- An empty body. The borrow is opened, and closed at the sum that the clause names.
use Rattle.redux_buffer.proofs.Walks.{◌+◌, [], ◌∷◌, refl, w64, proved, ftrue, flft, id⊢, named, vunit, ‵, raw, ◌⊛◌, ◌$◌, ◌∵◌, !, qed, done, move, keep, use1, split, join, fsplit3, feq_i, suffices, group, fjoin, nothing, enter, of_opd, unit_lit, returns, alloc_all, pass_all, free_all, look_at, sets, yes, MutRef, mut_vals, mut_Tells, usize, uint_vals, uint_Tells, plain, opens, closes, Stays, says, stay_ref, Goes-ref, stay_dropped, Goes-dropped, ends_at}
use Rattle.redux_buffer.specs.declared.count.Count.{Count}
use Rattle.redux_buffer.specs.contracts.count.Count as T
use Rattle.redux_buffer.specs.contracts.count.Count.add as f
use Rattle.redux_buffer.proofs.count.Count.add.Statement.{statement}
use Rattle.redux_buffer.proofs.count.Count.add.Code as code

abbrev stayed : Stays f.ended.signature.params f.ended.kept
stayed = (stay_ref (0 ∷ []) tt (plain (λ _. T.the_row)), (stay_dropped _ yes, tt))

pub add_spec : {M : Type 1} → statement M
add_spec 𝓤 𝓛 𝓜 𝓡 wired =
    let c = f.clauses 𝓛 𝓜.mem 𝓡.returns in
    proved 𝓛 f.ended stayed c 𝓜 𝓡
    (Goes-ref 𝓛 1 0 tt (plain (λ _. T.the_row)), (Goes-dropped 𝓛 1 (plain (λ _. usize)) yes (λ κs x w. refl), tt))
    f.Key.name code.function (code.unfolded 𝓤 𝓛.H 𝓜 𝓡 wired)
    (λ κs. (mut_vals, (uint_vals w64, tt))) (λ κs. (mut_Tells (named 0) κs.0 T.the_row, (uint_Tells w64, tt)))
    (λ κs qs bounds a n are.
    let b = a.0.ref_ptr.0 in let o = a.0.ref_ptr.1 in let h = a.0.now in
    let vs = mut_vals a.0 in let us = uint_vals w64 a.1.0 in
    let h' : Count = record { total = h.total + a.1.0 } in
    qed 𝓛 (((‵ (flft κs.0 qs.0) ⊛ ‵ ftrue)
    ⊛ (‵ ((MutRef (named 0) κs.0 T.the_row).own_val a.0 vs) ⊛ (‵ (usize.own_val a.1.0 us) ⊛ ‵ ftrue)))
    ∷ raw ((c κs a).requires n) ∷ []) ∵
    split ! $ split ! $ move ! (2 ∷ []) $ split ! $
    -- [self; the number; the token of self; the other tokens; the `requires`]
    enter ! _ _ _ _ _ $ alloc_all ! (λ l. pass_all ! refl ((tt, tt), ((tt, record { fits = are.1.0.1 }), tt)) $
    fsplit3 ! $ move ! (1 ∷ 2 ∷ 4 ∷ []) $ opens ! tt T.the_row b o (λ ws.
    sets ! (of_opd ! (unit_lit !)) refl (tt, tt) $
    move ! (1 ∷ []) $ use1 𝓛 (‵ (T.the_row.own_val h' ws)) (id⊢ 𝓤 _) $ move ! (1 ∷ 0 ∷ []) $ closes ! tt T.the_row h' ws b o $
    -- [two parts of self; the token of self; self's first part; the number; the other tokens; the `requires`]
    returns ! (look_at ! 0 refl) $ free_all ! refl $ keep ! (3 ∷ 0 ∷ 1 ∷ 2 ∷ 5 ∷ []) $
    suffices ! _ (ends_at 𝓛 f.ended stayed c ((κs, qs, bounds, a, (vs, (us, tt))), n) vunit tt
    (h', (tt, tt)) (tt, (tt, tt))) $ says ! refl $
    group ! 3 $ nothing ! $ nothing ! $ fjoin ! $ move ! (1 ∷ 0 ∷ []) $ join ! $ move ! (1 ∷ 2 ∷ 0 ∷ []) $ join ! $
    feq_i ! _ (vunit ∷ []) _ refl $ move ! (1 ∷ 2 ∷ 0 ∷ []) $ done !)))
