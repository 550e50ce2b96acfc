-- Runs of a reader hand out what their steps do, and spare what those spare.
use Rattle.std.proofs.Common.{◌≡◌, ℕ, ◌<◌, Bool, List, [], ◌∷◌, ◌++◌, length, take, Option, refl, sym, ap, subst, ◌∙◌, append_assoc, append-nil}
use Rattle.std.proofs.lemmas.List.Elements.{All-head, All-tail, All-take}
use Rattle.std.specs.List.{All}
use Rattle.std.specs.Prelude.{MatchBool}
use Rattle.redux_play.specs.declared.play.ReaderCall.{ReaderCall}
use Rattle.redux_play.specs.declared.play.ReaderAnswer.{ReaderAnswer}
use Rattle.buffer_redux.specs.Policy.{ReadRules, ClaimsToSpare}
use Rattle.buffer_redux.specs.ReaderLaws.{ReadsAlong-none, ReadsAlong-joins}
use Rattle.redux_play.specs.PlayReader.{Handing, HandsOut, MakesNoRoom, ReaderStep, ReaderPlays}
use Rattle.buffer_redux.specs.Sparing.{Spared, Spared-none, Spared-joins, SparesClaimed}
use Rattle.redux_play.specs.PlayRoom.{Runs}

module _ {S P : Type 0} (remaining : S → Option (List ℕ)) (rules : ReadRules P) where
  HandsOut-none : (s : Handing S P) → HandsOut remaining rules s [] s
  HandsOut-none s = record {
    handed = sym (append-nil s.handed);
    along = ReadsAlong-none remaining rules s.reader;
    kind = refl;
    noted = refl;
  }

  HandsOut-joins : (s m t : Handing S P) (a b : List ℕ) → HandsOut remaining rules s a m → HandsOut remaining rules m b t
      → HandsOut remaining rules s (a ++ b) t
  HandsOut-joins s m t a b p q = record {
    handed = q.handed ∙ ap (λ l. l ++ b) p.handed ∙ append_assoc s.handed a b;
    along = ReadsAlong-joins remaining rules s.reader m.reader t.reader a b p.along q.along;
    kind = q.kind ∙ p.kind;
    noted = q.noted ∙ p.noted;
  }

  -- what a run handed out
  ReaderRuns-hands_out : (s : Handing S P) (calls : List ReaderCall) (answers : List ReaderAnswer) (t : Handing S P)
      → Runs (ReaderStep remaining rules) s calls answers t → (out : List ℕ) × HandsOut remaining rules s out t
  ReaderRuns-hands_out s [] [] t e = ([], subst (HandsOut remaining rules s []) e (HandsOut-none s))
  ReaderRuns-hands_out s [] (a ∷ answers) t e = absurd e
  ReaderRuns-hands_out s (c ∷ calls) [] t e = absurd e
  ReaderRuns-hands_out s (c ∷ calls) (a ∷ answers) t h =
      let rest = ReaderRuns-hands_out h.0 calls answers t h.2 in
      (h.1.out ++ rest.0, HandsOut-joins s h.0 t h.1.out rest.0 h.1.hands_out rest.1)

  -- a run that doesn't make room spares what the policy claims to
  ReaderRuns-sparing : (s : Handing S P) (calls : List ReaderCall) (answers : List ReaderAnswer) (t : Handing S P)
      → Runs (ReaderStep remaining rules) s calls answers t → All MakesNoRoom calls → SparesClaimed rules s.reader t.reader
  ReaderRuns-sparing s [] [] t e still keep claims =
      subst (λ (x : Handing S P). Spared keep s.reader x.reader) e (Spared-none keep s.reader)
  ReaderRuns-sparing s [] (a ∷ answers) t e still keep claims = absurd e
  ReaderRuns-sparing s (c ∷ calls) [] t e still keep claims = absurd e
  ReaderRuns-sparing s (c ∷ calls) (a ∷ answers) t h still keep claims =
      let m : Handing S P = h.0 in
      Spared-joins keep s.reader m.reader t.reader
      (h.1.sparing (All-head MakesNoRoom c calls still) keep claims)
      (ReaderRuns-sparing m calls answers t h.2 (All-tail MakesNoRoom c calls still) keep
      (subst (λ x. ClaimsToSpare x.spares keep) (sym h.1.hands_out.along.claims) claims))

  -- where the player stops, at the end or at a call that it didn't begin
  pub ReaderPlays-stops : (s : Handing S P) (calls : List ReaderCall) (old answers : List ReaderAnswer) (t : Handing S P)
      (new : List ReaderAnswer) → new ≡ old ++ answers → (ok : Bool) (index : ℕ) → length answers ≡ index
      → Runs (ReaderStep remaining rules) s (take index calls) answers t
      → MatchBool ok (index ≡ length calls) (index < length calls) → ReaderPlays remaining rules s calls old ok new t
  ReaderPlays-stops s calls old answers t new gained ok index count run ended =
      let out = ReaderRuns-hands_out s (take index calls) answers t run in
      record {
        answers = answers;
        gained = gained;
        run = subst (λ n. Runs (ReaderStep remaining rules) s (take n calls) answers t) (sym count) run;
        ended = subst (λ n. MatchBool ok (n ≡ length calls) (n < length calls)) (sym count) ended;
        out = out.0;
        hands_out = out.1;
        sparing = λ still.
            ReaderRuns-sparing s (take index calls) answers t run (All-take MakesNoRoom index calls still);
      }
