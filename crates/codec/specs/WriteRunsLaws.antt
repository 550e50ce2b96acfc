-- Laws of runs of calls that write payloads: they go on by one call, and what their calls take in joins.
use Rattle.std.specs.Prelude.{◌≡◌, ℕ, List, [], ◌∷◌, ◌++◌, map, Result, Ok, Err}
use Rattle.std.proofs.Common.{sym, ap, subst, refl}
use Rattle.codec.specs.declared.error.WritePieceError.{WritePieceError}
use Rattle.codec.specs.declared.error.WritePieceError.TheVariants.{Refused, Io}
use Rattle.codec.specs.Encoding.{Encoding, IsWritable}
use Rattle.codec.specs.PieceWriter.{WriterState}
use Rattle.codec.specs.WritePiece.{PiecesTaken, WriteAnswer, WritesPiece, accepted}
use Rattle.codec.specs.WritePieceLaws.{PiecesTaken-joins, PiecesTaken-none}
use Rattle.codec.specs.WriteRuns.{CallPlays, CallRuns, IsFault, WritePlays, all_accepted}

-- what is taken in where each answer is `Ok`, and that only payloads with an answer count
pub all_accepted-ok : (X : Type 0) (payloads : List (List ℕ))
    → all_accepted {X = X} payloads (map (λ payload. Ok tt) payloads) ≡ payloads
all_accepted-ok X [] = refl
all_accepted-ok X (payload ∷ payloads) = ap (λ l. payload ∷ l) (all_accepted-ok X payloads)

module _ {T X : Type 0} (Call : T → List ℕ → Result (Unit {0}) X → T → Type 0) where
  pub CallRuns-more : (s : T) (payloads : List (List ℕ)) (answers : List (Result (Unit {0}) X)) (m : T) (payload : List ℕ)
      (answer : Result (Unit {0}) X) (t : T) → CallRuns Call s payloads answers m → Call m payload answer t
      → CallRuns Call s (payloads ++ payload ∷ []) (answers ++ answer ∷ []) t
  CallRuns-more s [] [] m payload answer t is wrote = (t, subst (λ x. Call x payload answer t) (sym is) wrote, refl)
  CallRuns-more s [] (a ∷ answers) m payload answer t run wrote = absurd run
  CallRuns-more s (p ∷ payloads) [] m payload answer t run wrote = absurd run
  CallRuns-more s (p ∷ payloads) (a ∷ answers) m payload answer t run wrote =
      (run.0, run.1, CallRuns-more run.0 payloads answers m payload answer t run.2 wrote)

  -- what calls took in that all answered `Ok`
  pub CallPlays-ok : (Taken : T → List (List ℕ) → T → Type 0) (s : T) (payloads : List (List ℕ)) (t : T)
      → CallPlays Call Taken s payloads (map (λ payload. Ok tt) payloads) t → Taken s payloads t
  CallPlays-ok Taken s payloads t plays = subst (λ l. Taken s l t) (all_accepted-ok X payloads) plays.taken

  module _ (Taken : T → List (List ℕ) → T → Type 0) (none : (s : T) → Taken s [] s)
      (joins : (s m t : T) (ps qs : List (List ℕ)) → Taken s ps m → Taken m qs t → Taken s (ps ++ qs) t)
      (went : (s : T) (payload : List ℕ) (answer : Result (Unit {0}) X) (t : T) → Call s payload answer t
      → Taken s (accepted payload answer) t) where
    pub CallRuns-taken : (s : T) (payloads : List (List ℕ)) (answers : List (Result (Unit {0}) X)) (t : T)
        → CallRuns Call s payloads answers t → Taken s (all_accepted payloads answers) t
    CallRuns-taken s [] [] t is = subst (Taken s []) is (none s)
    CallRuns-taken s [] (a ∷ answers) t run = absurd run
    CallRuns-taken s (p ∷ payloads) [] t run = absurd run
    CallRuns-taken s (p ∷ payloads) (a ∷ answers) t run =
        joins s run.0 t (accepted p a) (all_accepted payloads answers) (went s p a run.0 run.1)
        (CallRuns-taken run.0 payloads answers t run.2)

    -- one more call, and what all took in
    pub CallPlays-more : (s : T) (payloads : List (List ℕ)) (answers : List (Result (Unit {0}) X)) (m : T)
        (payload : List ℕ) (answer : Result (Unit {0}) X) (t : T) → CallPlays Call Taken s payloads answers m
        → Call m payload answer t → CallPlays Call Taken s (payloads ++ payload ∷ []) (answers ++ answer ∷ []) t
    CallPlays-more s payloads answers m payload answer t plays wrote =
        let run = CallRuns-more s payloads answers m payload answer t plays.run wrote in
        record { run = run; taken = CallRuns-taken s (payloads ++ payload ∷ []) (answers ++ answer ∷ []) t run }

-- the same of `write_piece`, under the encoder of the first
module _ {S E W : Type 0} (trace : S → S → Type 0) where
  -- a call under an encoder that is still the same
  pub WritesPiece-moved : (encoding : E → Encoding W) (s m t : WriterState S E) (payload : List ℕ) (answer : WriteAnswer W)
      → m.encoder ≡ s.encoder → WritesPiece trace (encoding m.encoder) m payload answer t
      → WritesPiece trace (encoding s.encoder) m payload answer t
  WritesPiece-moved encoding s m t payload answer same wrote =
      subst (λ d. WritesPiece trace (encoding d) m payload answer t) same wrote

  module _ (none : (x : S) → trace x x) where
    pub WritePlays-none : (e : Encoding W) (s : WriterState S E) → WritePlays trace e s [] [] s
    WritePlays-none e s = record { run = refl; taken = PiecesTaken-none trace e none s }

    pub WritePlays-more : ((a b c : S) → trace a b → trace b c → trace a c) → (encoding : E → Encoding W)
        (s : WriterState S E) (payloads : List (List ℕ)) (answers : List (WriteAnswer W)) (m : WriterState S E)
        (payload : List ℕ) (answer : WriteAnswer W) (t : WriterState S E)
        → WritePlays trace (encoding s.encoder) s payloads answers m
        → WritesPiece trace (encoding m.encoder) m payload answer t
        → WritePlays trace (encoding s.encoder) s (payloads ++ payload ∷ []) (answers ++ answer ∷ []) t
    WritePlays-more joins encoding s payloads answers m payload answer t plays wrote =
        let e = encoding s.encoder in
        CallPlays-more (WritesPiece trace e) (PiecesTaken trace e) (PiecesTaken-none trace e none)
        (PiecesTaken-joins trace e joins) (λ _ _ _ _ wrote. wrote.went) s payloads answers m payload answer t plays
        (WritesPiece-moved encoding s m t payload answer plays.taken.encoder wrote)

  -- what is taken stays so, and where a payload is, only a fault stops it
  pub WritesPiece-takes : (encoding : E → Encoding W) (s : WriterState S E) (payload : List ℕ) (answer : WriteAnswer W)
      (t : WriterState S E) → WritesPiece trace (encoding s.encoder) s payload answer t → (other : List ℕ)
      → (encoding s.encoder).takes other → (encoding t.encoder).takes other
  WritesPiece-takes encoding s payload answer t wrote other taken =
      subst (λ d. (encoding d).takes other) (sym wrote.went.encoder) taken

  pub WritesPiece-fails : (encoding : E → Encoding W) → ((d : E) → IsWritable (encoding d)) → (s : WriterState S E)
      (payload : List ℕ) (why : WritePieceError W) (t : WriterState S E) → (encoding s.encoder).takes payload
      → WritesPiece trace (encoding s.encoder) s payload (Err why) t → IsFault why
  WritesPiece-fails encoding law s payload (Io x) t taken wrote = tt
  WritesPiece-fails encoding law s payload (Refused w) t taken wrote =
      absurd ((law s.encoder).apart payload w taken wrote.answers.0)
