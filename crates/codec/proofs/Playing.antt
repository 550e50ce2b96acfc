-- Loops that play calls.
use Rattle.std.specs.Prelude.{◌≡◌, ℕ, ◌+◌, ◌<◌, ◌≤◌, List, [], ◌∷◌, ◌++◌, length, map, take, get_or, Bool, true, false, MatchBool, Option, Result}
use Rattle.std.specs.Global.{Vec}
use Rattle.std.proofs.Common.{sym, ap, subst, ◌∙◌, arith, inl, append_assoc, length-append}
use Rattle.std.proofs.lemmas.List.{length-map, take-map}
use Rattle.codec.specs.PayloadsLaws.{before}
use Rattle.piece_reader.specs.Runs.{AnswersStopped, kept_answer}
use Rattle.piece_reader.specs.RunsLaws.{gains_more}
use Rattle.codec.specs.WriteRuns.{CallsPlayed}

-- the first so many calls were played: their answers were recorded, in a list with room for so many, which had this room at first
pub record PlaysSo {T E : Type 0} (Plays : T → List (Result (Option (List ℕ)) E) → T → Type 0)
    (old kept : List (Result (Option (Vec ℕ)) E)) (room have : ℕ) (s : T) (calls : ℕ) (m : T) : Type 0 where
  pub answers : List (Result (Option (List ℕ)) E)
  pub gained : map kept_answer kept ≡ map kept_answer old ++ answers
  pub count : length answers ≡ calls
  pub capacity : room ≤ have
  pub plays : Plays s answers m

module _ {T E : Type 0} {Plays : T → List (Result (Option (List ℕ)) E) → T → Type 0} {old kept : List (Result (Option (Vec ℕ)) E)}
    {room have : ℕ} {s : T} {calls : ℕ} {m : T} (so : PlaysSo Plays old kept room have s calls m) where
  -- one more was
  pub plays_on : (kept' : List (Result (Option (Vec ℕ)) E)) (have' : ℕ) (x : Result (Option (Vec ℕ)) E) (t : T)
      → kept' ≡ kept ++ x ∷ [] → have ≤ have' → Plays s (so.answers ++ kept_answer x ∷ []) t
      → PlaysSo Plays old kept' room have' s (calls + 1) t
  plays_on kept' have' x t is larger plays = record {
    answers = so.answers ++ kept_answer x ∷ [];
    gained = gains_more kept_answer old kept kept' so.answers x so.gained is;
    count = length-append so.answers (kept_answer x ∷ []) ∙ ap (λ n. n + 1) so.count;
    capacity = omega (arith, so.capacity, larger);
    plays = plays;
  }

  module _ (all : ℕ) (fewer : calls < all) (kept' : List (Result (Option (Vec ℕ)) E)) (is : kept' ≡ kept) where
    -- the record was full
    pub none_begun : have ≤ length kept
        → AnswersStopped Plays s all room (map kept_answer old) (map kept_answer kept') m
    none_begun full = record {
      answers = so.answers;
      gained = ap (λ l. map kept_answer l) is ∙ so.gained;
      fewer = omega (arith, so.count, fewer);
      wanted = inl (so.plays, omega (arith, so.capacity, full, length-map kept' kept_answer, ap length is));
    }

-- the first so many payloads were written so far, and each answer was recorded
pub record WritesSo {T X : Type 0} (Plays : T → List (List ℕ) → List (Result (Unit {0}) X) → T → Type 0)
    (old kept : List (Result (Unit {0}) X)) (room have : ℕ) (s : T) (payloads : List (Vec ℕ)) (i : ℕ) (m : T) : Type 0 where
  pub answers : List (Result (Unit {0}) X)
  pub gained : kept ≡ old ++ answers
  pub count : length answers ≡ i
  pub capacity : room ≤ have
  pub plays : Plays s (map (λ v. v.items) (take i payloads)) answers m

module _ {T X : Type 0} {Plays : T → List (List ℕ) → List (Result (Unit {0}) X) → T → Type 0}
    {old kept : List (Result (Unit {0}) X)} {room have : ℕ} {s : T} {payloads : List (Vec ℕ)} {i : ℕ} {m : T}
    (so : WritesSo Plays old kept room have s payloads i m) where
  -- one more was
  pub writes_on : (v : Vec ℕ) → i < length payloads → v ≡ get_or payloads i v → (kept' : List (Result (Unit {0}) X))
      (have' : ℕ) (answer : Result (Unit {0}) X) (t : T) → kept' ≡ kept ++ answer ∷ [] → have ≤ have'
      → Plays s (map (λ v. v.items) (take i payloads) ++ v.items ∷ []) (so.answers ++ answer ∷ []) t
      → WritesSo Plays old kept' room have' s payloads (i + 1) t
  writes_on v inside at kept' have' answer t is larger plays = record {
    answers = so.answers ++ answer ∷ [];
    gained = is ∙ ap (λ l. l ++ answer ∷ []) so.gained ∙ append_assoc old so.answers (answer ∷ []);
    count = length-append so.answers (answer ∷ []) ∙ ap (λ n. n + 1) so.count;
    capacity = omega (arith, so.capacity, larger);
    plays = subst (λ l. Plays s l (so.answers ++ answer ∷ []) t) (sym (before (λ v. v.items) payloads i v inside at)) plays;
  }

  -- all were, or the record was full
  pub writes_end : (kept' : List (Result (Unit {0}) X)) → kept' ≡ kept → (ok : Bool)
      → MatchBool ok (i ≡ length payloads) ((i < length payloads) × (have ≤ length kept))
      → CallsPlayed Plays s (map (λ v. v.items) payloads) room old ok kept' m
  writes_end kept' same ok ended = record {
    answers = so.answers;
    gained = same ∙ so.gained;
    plays = subst (λ l. Plays s l so.answers m)
        (sym (ap (λ n. take n (map (λ v. v.items) payloads)) so.count ∙ take-map (λ v. v.items) i payloads)) so.plays;
    ended = elim ok as (λ b. MatchBool b (i ≡ length payloads) ((i < length payloads) × (have ≤ length kept))
        → MatchBool b (length so.answers ≡ length (map (λ v. v.items) payloads))
        ((length so.answers < length (map (λ v. v.items) payloads)) × (room ≤ length kept'))) [
          | true ↦ λ all. omega (arith, all, so.count, length-map payloads (λ v. v.items))
          | false ↦ λ full. (
            omega (arith, full.0, so.count, length-map payloads (λ v. v.items)),
            omega (arith, full.1, so.capacity, ap length same),
          )
        ] ended;
  }
