-- One step of a loop that plays calls.
use Rattle.std.proofs.Common.{◌≡◌, ℕ, ◌+◌, ◌<◌, ◌≤◌, List, [], ◌∷◌, ◌++◌, length, map, take, drop, Option, inl, inr, sym, ap, ◌∙◌, get_or}
use Rattle.std.proofs.lemmas.List.{drop_more, map-append, take_more, take-append-drop}
use Rattle.line_reader.specs.Calls.{Call, CallGoes, call_lines}
use Rattle.piece_reader.specs.Runs.{AnswerRuns}
use Rattle.piece_reader.specs.RunsLaws.{AnswerRuns-more}
use Rattle.line_reader.specs.LineReader.{LineState}
use Rattle.line_play.specs.Played.{AsksStopped, CallMade, asked}
use Rattle.line_play.specs.declared.calls.Ask.{Ask}

-- the next of the calls that were asked for stands behind those that were made
parted_asks : (asks : List Ask) (i : ℕ) (other : Ask) → i < length asks → (calls : List Call)
    → map asked calls ≡ take i asks → asks ≡ map asked calls ++ get_or asks i other ∷ drop (i + 1) asks
parted_asks asks i other inside calls so_far =
    sym (take-append-drop i asks) ∙ ap (λ l. take i asks ++ l) (drop_more asks i other inside)
    ∙ ap (λ l. l ++ get_or asks i other ∷ drop (i + 1) asks) (sym so_far)

-- no further call was begun
pub none_begun : {S : Type 0} (remaining : S → Option (List ℕ)) (s m : LineState S) (asks : List Ask) (i : ℕ) (other : Ask)
    → i < length asks → (calls : List Call) → map asked calls ≡ take i asks → AnswerRuns (CallGoes remaining) s calls m
    → (room : ℕ)
    (old new : List Call) → new ≡ old ++ calls → room ≤ length new → AsksStopped remaining s asks room old new m
none_begun remaining s m asks i other inside calls so_far run room old new gained full = record {
  calls = calls;
  gained = gained;
  next = get_or asks i other;
  more = drop (i + 1) asks;
  front = parted_asks asks i other inside calls so_far;
  wanted = inl (run, full);
}

module _ {S : Type 0} (remaining : S → Option (List ℕ)) (s m t : LineState S) (asks : List Ask) (i : ℕ)
    (inside : i < length asks) (calls : List Call) (so_far : map asked calls ≡ take i asks)
    (run : AnswerRuns (CallGoes remaining) s calls m) (other : Ask) (call : Call)
    (made : CallMade remaining m (get_or asks i other) call t) where
  pub asked_more : map asked (calls ++ call ∷ []) ≡ take (i + 1) asks
  asked_more =
      map-append asked calls (call ∷ []) ∙ ap (λ l. l ++ asked call ∷ []) so_far
      ∙ ap (λ a. take i asks ++ a ∷ []) made.asked ∙ sym (take_more asks i other inside)

  pub run_more : AnswerRuns (CallGoes remaining) s (calls ++ call ∷ []) t
  run_more = AnswerRuns-more (CallGoes remaining) s calls m call t run made.goes

  pub line_lost : (room : ℕ) (old new : List Call) → new ≡ old ++ calls → 0 < length (call_lines call)
      → AsksStopped remaining s asks room old new t
  line_lost room old new gained some = record {
    calls = calls;
    gained = gained;
    next = get_or asks i other;
    more = drop (i + 1) asks;
    front = parted_asks asks i other inside calls so_far;
    wanted = inr (call, made.asked, some, run_more);
  }
