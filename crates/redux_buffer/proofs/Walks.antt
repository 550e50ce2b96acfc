-- The names that the walks of `src/tell/log.rt` cite, and those of `redux_buffer`'s `src/count.rt`.
pub use Rattle.std.proofs.Common.{◌≡◌, ℕ, ◌+◌, List, [], ◌∷◌, refl, w64}
pub use Rattle.std.proofs.raw_atomic.Walks.{proved}
pub use base.Fml.{ftrue, flft}
pub use base.Logic.{id⊢}
pub use mir.Syntax.{named}
pub use mir.Val.{Val, vunit, vptr, vstruct, vnil}
pub use contract.Running.{tables}
pub use types.Kit.{‵, raw, ◌⊛◌, ◌$◌, ◌∵◌, !, qed, done, move, keep, drop, use1, split, join, fsplit, fsplit3, fjoin, feq_i, feq_l, suffices, frame, group}
pub use types.Run.{enter, of_opd, unit_lit, no_more, returns}
pub use types.Part.{agg}
pub use types.ByLocal.{alloc_all, pass_all, free_all, look_at, sets}
pub use denote.Shadow.{pure_i}
pub use denote.Builtin.{RefOf, usize}
pub use denote.Plain.{uint_vals, uint_Tells}
pub use denote.Exit.{yes}
pub use denote.Ref.{MutRef, mut_vals, mut_Tells, ShrRef, shr_vals, shr_Tells}
pub use denote.Signature.{plain, named_lft}
pub use denote.Steps.{nothing, opens, closes}
pub use denote.Triple.Entry.{on_entry}
pub use denote.Triple.Walked.{Stays, walk_of, says, stay_ref, Goes-ref, stay_none_ref, Goes-none_ref, stay_dropped, Goes-dropped, ends_at}
