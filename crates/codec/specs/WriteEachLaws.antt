-- Laws of a loop that writes payloads up to the first error, for the proofs of those who write one.
use Rattle.std.specs.Prelude.{◌≡◌, ℕ, ◌+◌, ◌<◌, List, [], ◌∷◌, ◌++◌, length, map, take, drop, get_or, Result, Ok, Err}
use Rattle.std.specs.Global.{Vec}
use Rattle.std.specs.List.{All}
use Rattle.std.proofs.Common.{sym, subst, arith}
use Rattle.std.proofs.lemmas.List.{drop-map, length-map, length-take-le, map-append}
use Rattle.std.proofs.lemmas.List.Elements.{All-drop, All-head}
use Rattle.codec.specs.declared.laws.runs.WriteEachError.{WriteEachError}
use Rattle.codec.specs.PayloadsLaws.{before, behind, parted}
use Rattle.codec.specs.WriteRuns.{CallsStopped}

-- the first so many payloads were written so far, and what was taken still is
pub record WroteSo {T X : Type 0} (Plays : T → List (List ℕ) → List (Result (Unit {0}) X) → T → Type 0)
    (Takes : T → List ℕ → Type 0) (s : T) (payloads : List (Vec ℕ)) (i : ℕ) (m : T) : Type 0 where
  pub plays : Plays s (map (λ v. v.items) (take i payloads)) (map (λ payload. Ok tt) (map (λ v. v.items) (take i payloads))) m
  pub takes : (payload : List ℕ) → Takes s payload → Takes m payload

module _ {T X : Type 0} {Call : T → List ℕ → Result (Unit {0}) X → T → Type 0}
    {Plays : T → List (List ℕ) → List (Result (Unit {0}) X) → T → Type 0} {Takes : T → List ℕ → Type 0}
    (more : (s : T) (payloads : List (List ℕ)) (answers : List (Result (Unit {0}) X)) (m : T) (payload : List ℕ)
    (answer : Result (Unit {0}) X) (t : T) → Plays s payloads answers m → Call m payload answer t
    → Plays s (payloads ++ payload ∷ []) (answers ++ answer ∷ []) t)
    (vs : List (Vec ℕ)) (i : ℕ) {s m : T} (so : WroteSo Plays Takes s vs i m) where
  abbrev done : List (List ℕ)
  done = map (λ v. v.items) (take i vs)

  module _ (v : Vec ℕ) (inside : i < length vs) (is : v ≡ get_or vs i v) (t : T) where
    -- one more payload was written
    pub wrote_more : ((other : List ℕ) → Takes m other → Takes t other) → Call m v.items (Ok tt) t
        → WroteSo Plays Takes s vs (i + 1) t
    wrote_more keeps wrote = record {
      plays = subst (λ l. Plays s l (map (λ payload. Ok tt) l) t) (sym (before (λ x. x.items) vs i v inside is))
          (subst (λ answers. Plays s (done ++ v.items ∷ []) answers t) (sym (map-append (λ p. Ok tt) done (v.items ∷ [])))
          (more s done (map (λ payload. Ok tt) done) m v.items (Ok tt) t so.plays wrote));
      takes = λ other taken. keeps other (so.takes other taken);
    }

    -- no further payload was written
    pub wrote_none : (why : WriteEachError X) → why.taken ≡ i → Call m v.items (Err why.error) t
        → CallsStopped Call Plays s (map (λ x. x.items) vs) why t
    wrote_none why count failed = record {
      done = done;
      taken = omega (
        arith,
        count,
        inside,
        length-map (take i vs) (λ (x : Vec ℕ). x.items),
        length-take-le i vs (omega (arith, inside)),
      );
      payload = v.items;
      later = map (λ x. x.items) (drop (i + 1) vs);
      all = parted (λ x. x.items) vs i v inside is;
      before = m;
      wrote = so.plays;
      failed = failed;
      plays = more s done (map (λ payload. Ok tt) done) m v.items (Err why.error) t so.plays failed;
    }

    -- where each payload is taken, this one is
    pub takes_next : All (Takes s) (map (λ x. x.items) vs) → Takes m v.items
    takes_next all = so.takes v.items
        (All-head (Takes s) v.items (map (λ x. x.items) (drop (i + 1) vs))
        (subst (All (Takes s)) (behind (λ x. x.items) vs i v inside is)
        (subst (All (Takes s)) (drop-map (λ x. x.items) i vs) (All-drop (Takes s) i (map (λ x. x.items) vs) all))))
