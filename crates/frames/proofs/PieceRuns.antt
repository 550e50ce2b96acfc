-- What the outcome of a whole run over pieces comes to.
use Rattle.std.proofs.Common.{ℕ, inl, inr, List, [], ◌++◌, length, false, Option, Result, Ok, Err, ◌≡◌, sym, ap, subst, ◌∙◌, arith}
use Rattle.std.proofs.lemmas.List.{nil_from_length}
use Rattle.forward.specs.StreamsLaws.{WriteGaveUp-so}
use Rattle.forward.specs.declared.error.Cause.{Cause}
use Rattle.forward.specs.declared.error.Cause.TheVariants as cause
use Rattle.piece_filter.specs.PieceRuns.{Over, all_over, over_held, over_lost}
use Rattle.piece_filter.specs.Pieces.{IsCoherent, OfferedWhole, PiecesEnd, Piecewise, grammar_of, held_of, piece_rules}
use Rattle.piece_filter.specs.PiecesLaws.{none_held}
use Rattle.frames.specs.Words.{Error, Begins, IsOpen, rest, FilterRules, ForwardAnswers, NoneFailed, StopsBy, Stopped, AllSent, OverCount, ReadFailed, WriteGaveUp, RunError}
use Rattle.programs.specs.Outcome.{IsErrorOf, Returns}
use Rattle.programs.specs.OutcomeLaws.{Returns-says}
use Rattle.programs.specs.declared.error.RunError.TheVariants.{Wrong, Read, Write, Io}

-- a run from empty buffers on that says so of each way to end says so of its outcome
module _ {T R D X A W E : Type 0} (remaining : R → Option (List ℕ)) (f : Piecewise T R D X A W E) (s t : T)
    (fresh : (piece_rules remaining f).fresh s) (unread : (f.source s).reader.block.bytes ≡ []) (sound : IsCoherent f)
    (never : (e : Error) → ¬ (f.refused e t)) where
  abbrev rules : FilterRules T E
  rules = piece_rules remaining f

  abbrev Went : List (List ℕ) → List (List ℕ) → Type 0
  Went = Over remaining f s t fresh unread

  module _ (Ran : Result (Unit {0}) (RunError E) → Type 0)
      (ended : (p : List (List ℕ)) → Went p p → PiecesEnd f s (Ok tt) t → AllSent (f.target t) → NoneFailed rules s t
      → Ran (Ok tt))
      (wrong : (p : List (List ℕ)) → Went p p → (why : E) → f.wrong s why t → AllSent (f.target t) → NoneFailed rules s t
      → Ran (Err (Wrong why)))
      (read : (p : List (List ℕ)) → Went p p → IsOpen (grammar_of f t) (rest (f.source t)) → (f.source t).ended ≡ false
      → (rest (f.source t) ≡ [] → OfferedWhole (f.source t)) → AllSent (f.target t) → (e : Error)
      → ReadFailed e (rules.read s) (rules.read t) (rules.target s).log (rules.target t).log → Ran (Err (Read e)))
      (write : (p lost : List (List ℕ)) → Went (p ++ lost) p → (e : Error)
      → WriteGaveUp ((lost ≡ []) × ((f.target t).block.bytes ≡ []) × ¬ (Begins (grammar_of f t) (rest (f.source t)))) e
      (rules.read s) (rules.read t) (rules.target s).log (rules.target t).log
      → Ran (Err (Write e)))
      (full : (p lost : List (List ℕ)) → Went (p ++ lost) p → (e : Error)
      → OverCount e (length p) (rules.read s) (rules.read t) (rules.target s).log (rules.target t).log → Ran (Err (Io e))) where
    stopped : (count : ℕ) (why : Cause E) (e : RunError E) → StopsBy rules count s why t → IsErrorOf why e → Ran (Err e)
    stopped count (cause.Wrong why) e (over, (none, end), sent, met) is = subst (λ x. Ran (Err x)) (sym is)
        (wrong over.payloads (all_over remaining f s t fresh unread count over none) why end (sound.all_sent t sent) met)
    stopped count (cause.Read fault) e (over, (none, open', going, whole), sent, again, failed) is =
        subst (λ x. Ran (Err x)) (sym is) (read over.payloads (all_over remaining f s t fresh unread count over none) open' going
        whole (sound.all_sent t sent) fault failed)
    stopped count (cause.Write fault) e (first, inr refused) is = absurd (never fault refused.1)
    stopped count (cause.Write fault) e (first, inl failed) is = subst (λ x. Ran (Err x)) (sym is)
        (write first.payloads (first.lost ++ held_of f t) (over_lost remaining f s t fresh unread count first) fault
        (WriteGaveUp-so (λ none. (
          ap (λ l. l ++ held_of f t) none.0 ∙ none_held remaining f t none.2.0,
          nil_from_length (f.target t).block.bytes none.1,
          none.2.1,
        )) failed))
    stopped count cause.Count e (over, large, met) is = subst (λ x. Ran (Err x)) (sym is.2)
        (full over.payloads (held_of f t) (over_held remaining f s t fresh unread count over) is.0
        (record { other = is.1; large = omega (arith, large, over.all); met = met }))

    pub outcome_ran : (answer : Result ℕ (Stopped E)) (returned : Result (Unit {0}) (RunError E)) → Returns answer returned
        → ForwardAnswers rules s answer t → Ran returned
    outcome_ran = Returns-says rules s t Ran (λ count (over, (none, end), sent, met).
        ended over.payloads (all_over remaining f s t fresh unread count over none) end (sound.all_sent t sent) met) stopped
