-- One step of a loop over payloads that are known.
use Rattle.std.proofs.Common.{◌≡◌, ℕ, ◌+◌, ◌<◌, ◌≤◌, List, [], ◌∷◌, ◌++◌, length, map, drop, sym, ap, subst, ◌∙◌, append_assoc, append-nil, get_or, inl, inr, refl, ◌⊎◌}
use Rattle.std.specs.Prelude.{Option, None, Some, Result, Ok, Err}
use Rattle.std.specs.Global.{Vec}
use Rattle.std.specs.IoError.{error_kind}
use Rattle.std.specs.declared.io.Error.{Error}
use Rattle.std.specs.declared.io.ErrorKind.TheVariants.{OutOfMemory}
use Rattle.std.proofs.lemmas.List.{drop_all, map-append}
use Rattle.piece_reader.specs.KnownPayloads.{AllRead, AnswersKnown, ReadStopped}
use Rattle.piece_reader.specs.Runs.{NextLost}
use Rattle.codec.specs.PayloadsLaws.{behind, kept_more, some_more}

-- some of all the payloads were read and kept, and these are left to read
pub record ReadsAll {T E : Type 0} (HasLeft : T → List (List ℕ) → Type 0) (faults : T → List Error)
    (Plays : T → List (Result (Option (List ℕ)) E) → T → Type 0) (s : T) (all kept left : List (List ℕ)) (t : T)
    : Type 0 where
  pub all_are : kept ++ left ≡ all
  pub has : HasLeft t left
  pub no_fault : faults t ≡ faults s
  pub plays : Plays s (map (λ payload. Ok (Some payload)) kept) t

module _ {T E : Type 0} {Call : T → Result (Option (List ℕ)) E → T → Type 0} {HasLeft : T → List (List ℕ) → Type 0}
    {faults : T → List Error} {io : Error → E} {Plays : T → List (Result (Option (List ℕ)) E) → T → Type 0}
    (more : (s : T) (answers : List (Result (Option (List ℕ)) E)) (m : T) (answer : Result (Option (List ℕ)) E) (t : T)
    → Plays s answers m → Call m answer t → Plays s (answers ++ answer ∷ []) t)
    (known : (s : T) (answer : Result (Option (List ℕ)) E) (payloads : List (List ℕ)) (t : T) → HasLeft s payloads
    → Call s answer t → AnswersKnown HasLeft faults io s answer payloads t)
    (vs : List (Vec ℕ)) (i : ℕ) {s m : T} (kept : List (Vec ℕ))
    (so_far : ReadsAll HasLeft faults Plays s (map (λ v. v.items) vs) (map (λ v. v.items) kept)
    (map (λ v. v.items) (drop i vs)) m) where
  abbrev all : List (List ℕ)
  all = map (λ v. v.items) vs

  abbrev held : List (List ℕ)
  held = map (λ v. v.items) kept

  abbrev left : List (List ℕ)
  left = map (λ v. v.items) (drop i vs)

  read_faulted : (e : Error) (t : T) → Call m (Err (io e)) t → ReadStopped HasLeft faults io Plays s all e t
  read_faulted e t next =
      let fails = known m (Err (io e)) left t so_far.has next in
      record {
        done = held;
        later = left;
        all = sym so_far.all_are;
        left = fails.1;
        failed = inr (
          more s (map (λ payload. Ok (Some payload)) held) m (Err (io e)) t so_far.plays next,
          fails.2 e refl ∙ ap (λ l. l ++ e ∷ []) so_far.no_fault,
        );
      }

  module _ (x : Vec ℕ) (inside : i < length vs) (is : x ≡ get_or vs i x) (t : T) where
    abbrev later : List (List ℕ)
    later = map (λ v. v.items) (drop (i + 1) vs)

    step : left ≡ x.items ∷ later
    step = behind (λ v. v.items) vs i x inside is

    first_has : HasLeft m (x.items ∷ later)
    first_has = subst (HasLeft m) step so_far.has

    read_some : (found : List ℕ) → Call m (Ok (Some found)) t → ReadsAll HasLeft faults Plays s all (held ++ found ∷ []) later t
    read_some found next =
        let first = known m (Ok (Some found)) (x.items ∷ later) t first_has next in
        record {
          all_are = append_assoc held (found ∷ []) later ∙ ap (λ p. held ++ p ∷ later) first.0
              ∙ ap (λ l. held ++ l) (sym step) ∙ so_far.all_are;
          has = first.1;
          no_fault = first.2 ∙ so_far.no_fault;
          plays = subst (λ answers. Plays s answers t) (sym (map-append (λ payload. Ok (Some payload)) held (found ∷ [])))
              (more s (map (λ payload. Ok (Some payload)) held) m (Ok (Some found)) t so_far.plays next);
        }

    -- one more was kept
    pub reads_on : (found : Vec ℕ) (kept' : List (Vec ℕ)) → kept' ≡ kept ++ found ∷ [] → Call m (Ok (Some found.items)) t
        → ReadsAll HasLeft faults Plays s (map (λ v. v.items) vs) (map (λ v. v.items) kept')
        (map (λ v. v.items) (drop (i + 1) vs)) t
    reads_on found kept' is' next = subst (λ l. ReadsAll HasLeft faults Plays s all l later t)
        (sym (kept_more (λ v. v.items) kept kept' found is')) (read_some found.items next)

    pub read_lost : (found : List ℕ) (e : Error) → error_kind e ≡ OutOfMemory → Call m (Ok (Some found)) t
        → ReadStopped HasLeft faults io Plays s (map (λ v. v.items) vs) e t
    read_lost found e memory next =
        let one = read_some found next in
        record {
          done = held ++ found ∷ [];
          later = later;
          all = sym one.all_are;
          left = one.has;
          failed = inl (memory, some_more held found, one.plays, one.no_fault);
        }

    pub read_fails : (e : Error) → ((error_kind e ≡ OutOfMemory) × NextLost Call m t) ⊎ Call m (Err (io e)) t
        → ReadStopped HasLeft faults io Plays s (map (λ v. v.items) vs) e t
    read_fails e (inl lost) = read_lost lost.1.payload e lost.0 lost.1.next
    read_fails e (inr faulted) = read_faulted e t faulted

    pub read_none : Call m (Ok None) t → ⊥
    read_none next = known m (Ok None) (x.items ∷ later) t first_has next

  module _ (end : length vs ≤ i) (t : T) where
    none_left : left ≡ []
    none_left = ap (λ l. map (λ v. v.items) l) (drop_all i vs end)

    pub read_more : (found : List ℕ) → Call m (Ok (Some found)) t → ⊥
    read_more found next = known m (Ok (Some found)) [] t (subst (HasLeft m) none_left so_far.has) next

    pub end_fails : (e : Error) → ((error_kind e ≡ OutOfMemory) × NextLost Call m t) ⊎ Call m (Err (io e)) t
        → ReadStopped HasLeft faults io Plays s (map (λ v. v.items) vs) e t
    end_fails e (inl lost) = absurd (read_more lost.1.payload lost.1.next)
    end_fails e (inr faulted) = read_faulted e t faulted

    all_kept : held ≡ all
    all_kept = sym (append-nil held) ∙ ap (λ l. held ++ l) (sym none_left) ∙ so_far.all_are

    pub read_all : Call m (Ok None) t → AllRead Plays s (map (λ v. v.items) vs) t
    read_all next = subst (λ l. AllRead Plays s l t) all_kept
        (more s (map (λ payload. Ok (Some payload)) held) m (Ok None) t so_far.plays next)
