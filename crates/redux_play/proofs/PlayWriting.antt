-- Runs of a writer accept what their steps do.
use Rattle.std.proofs.Common.{◌≡◌, ℕ, ◌<◌, Bool, List, [], ◌∷◌, ◌++◌, length, take, sym, subst}
use Rattle.std.specs.Prelude.{MatchBool}
use Rattle.redux_buffer.specs.StreamLog.{StreamLog}
use Rattle.redux_play.specs.declared.play.WriterCall.{WriterCall}
use Rattle.redux_play.specs.declared.play.WriterAnswer.{WriterAnswer}
use Rattle.buffer_redux.specs.Policy.{WriteRules}
use Rattle.buffer_redux.specs.Buffered.{Buffered}
use Rattle.buffer_redux.specs.BufWriter.{WritesAlong}
use Rattle.buffer_redux.specs.WritesAlongLaws.{WritesAlong-joins, WritesAlong-none}
use Rattle.redux_play.specs.PlayWriter.{WriterStep, WriterPlays, accepted_bytes, bytes_accepted_by}
use Rattle.redux_play.specs.PlayRoom.{Runs}

module _ {S P : Type 0} (tells : S → StreamLog) (trace : S → S → Type 0) (rules : WriteRules P)
    (none : (u : S) → trace u u) (joins : (u v w : S) → trace u v → trace v w → trace u w) where
  -- what a run accepted
  WriterRuns-accepts : (s : Buffered S P) (calls : List WriterCall) (answers : List WriterAnswer) (t : Buffered S P)
      → Runs (WriterStep tells trace rules) s calls answers t
      → WritesAlong tells trace rules s (accepted_bytes calls answers) t
  WriterRuns-accepts s [] [] t e = subst (WritesAlong tells trace rules s []) e (WritesAlong-none tells trace rules none s)
  WriterRuns-accepts s [] (a ∷ answers) t e = absurd e
  WriterRuns-accepts s (c ∷ calls) [] t e = absurd e
  WriterRuns-accepts s (c ∷ calls) (a ∷ answers) t h =
      WritesAlong-joins tells trace rules joins s h.0 t (bytes_accepted_by c a) (accepted_bytes calls answers) h.1.accepts
      (WriterRuns-accepts h.0 calls answers t h.2)

  -- where the player stops, at the end or at a call that it didn't begin
  pub WriterPlays-stops : (s : Buffered S P) (calls : List WriterCall) (old answers : List WriterAnswer) (t : Buffered S P)
      (new : List WriterAnswer) → new ≡ old ++ answers → (ok : Bool) (index : ℕ) → length answers ≡ index
      → Runs (WriterStep tells trace rules) s (take index calls) answers t
      → MatchBool ok (index ≡ length calls) (index < length calls) → WriterPlays tells trace rules s calls old ok new t
  WriterPlays-stops s calls old answers t new gained ok index count run ended =
      let run' : Runs (WriterStep tells trace rules) s (take (length answers) calls) answers t =
      subst (λ n. Runs (WriterStep tells trace rules) s (take n calls) answers t) (sym count) run in
      record {
        answers = answers;
        gained = gained;
        run = run';
        ended = subst (λ n. MatchBool ok (n ≡ length calls) (n < length calls)) (sym count) ended;
        accepts = WriterRuns-accepts s (take (length answers) calls) answers t run';
      }
