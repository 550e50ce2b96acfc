-- Runs of calls that write payloads: what they come to.
use Rattle.std.specs.Prelude.{◌≡◌, ℕ, ◌<◌, ◌≤◌, List, [], ◌∷◌, ◌++◌, length, map, take, Bool, MatchBool, Result, Ok, Err, ⊤}
use Rattle.std.specs.declared.io.Error.{Error}
use Rattle.codec.specs.declared.error.WritePieceError.{WritePieceError}
use Rattle.codec.specs.declared.error.WritePieceError.TheVariants.{Refused, Io}
use Rattle.codec.specs.declared.laws.runs.WriteEachError.{WriteEachError}
use Rattle.codec.specs.Encoding.{Encoding}
use Rattle.codec.specs.PieceWriter.{WriterState}
use Rattle.codec.specs.WritePiece.{PiecesTaken, WriteAnswer, WritesPiece, accepted}

-- the payloads that calls with these took in: those whose call returned `Ok`
abbrev pub all_accepted : {X : Type 0} → List (List ℕ) → List (Result (Unit {0}) X) → List (List ℕ)
all_accepted (payload ∷ payloads) (answer ∷ answers) = accepted payload answer ++ all_accepted payloads answers
all_accepted payloads answers = []

-- a call with a payload does this to a writer, and answers that
module _ {T X : Type 0} (Call : T → List ℕ → Result (Unit {0}) X → T → Type 0) where
  -- calls with these payloads, one after another, with as many answers
  abbrev pub CallRuns : T → List (List ℕ) → List (Result (Unit {0}) X) → T → Type 0
  CallRuns s [] [] t = s ≡ t
  CallRuns s (payload ∷ payloads) (answer ∷ answers) t =
      (m : T) × Call s payload answer m × CallRuns m payloads answers t
  CallRuns s [] (answer ∷ answers) t = ⊥
  CallRuns s (payload ∷ payloads) [] t = ⊥

  -- such calls, and what they took in
  pub record CallPlays (Taken : T → List (List ℕ) → T → Type 0) (s : T) (payloads : List (List ℕ))
      (answers : List (Result (Unit {0}) X)) (t : T) : Type 0 where
    pub run : CallRuns s payloads answers t
    pub taken : Taken s (all_accepted payloads answers) t

-- calls of a writer with these payloads do this to it, one after another, and answer these
module _ {T X : Type 0} (Plays : T → List (List ℕ) → List (Result (Unit {0}) X) → T → Type 0) where
  -- what was played: the answers that were gained are those of the first payloads, as many as there are answers; at Ok these are
  -- all, and else some are left, of which none was begun, and the record, which had room for so many, was full
  pub record CallsPlayed (s : T) (payloads : List (List ℕ)) (room : ℕ) (old : List (Result (Unit {0}) X)) (ok : Bool)
      (new : List (Result (Unit {0}) X)) (t : T) : Type 0 where
    pub answers : List (Result (Unit {0}) X)
    pub gained : new ≡ old ++ answers
    pub plays : Plays s (take (length answers) payloads) answers t
    pub ended : MatchBool ok (length answers ≡ length payloads)
        ((length answers < length payloads) × (room ≤ length new))

-- calls with payloads do that, one after another, and each of them does this
module _ {T X : Type 0} (Call : T → List ℕ → Result (Unit {0}) X → T → Type 0)
    (Plays : T → List (List ℕ) → List (Result (Unit {0}) X) → T → Type 0) where
  -- the first of these payloads, so many, were written by calls that answered `Ok`, and the next one was answered by this error
  pub record CallsStopped (s : T) (payloads : List (List ℕ)) (stopped : WriteEachError X) (t : T) : Type 0 where
    pub done : List (List ℕ)
    pub taken : stopped.taken ≡ length done
    pub payload : List ℕ
    pub later : List (List ℕ)
    pub all : payloads ≡ done ++ payload ∷ later
    pub before : T
    pub wrote : Plays s done (map (λ payload. Ok tt) done) before
    pub failed : Call before payload (Err stopped.error) t
    pub plays : Plays s (done ++ payload ∷ []) (map (λ payload. Ok tt) done ++ Err stopped.error ∷ []) t

  -- each of these payloads was written, up to the first error
  abbrev pub CallsEach : T → List (List ℕ) → Result (Unit {0}) (WriteEachError X) → T → Type 0
  CallsEach s payloads (Ok _) t = Plays s payloads (map (λ payload. Ok tt) payloads) t
  CallsEach s payloads (Err stopped) t = CallsStopped s payloads stopped t

-- calls of `write_piece`, and what they took in
abbrev pub WritePlays : {S E W : Type 0} → (S → S → Type 0) → Encoding W → WriterState S E → List (List ℕ)
    → List (WriteAnswer W) → WriterState S E → Type 0
WritePlays trace e = CallPlays (WritesPiece trace e) (PiecesTaken trace e)

-- an error that isn't about a payload
abbrev pub IsFault : {W : Type 0} → WritePieceError W → Type 0
IsFault (Io e) = ⊤
IsFault (Refused w) = ⊥

-- one of these payloads is refused, for this reason
pub record RefusesOne {W : Type 0} (e : Encoding W) (payloads : List (List ℕ)) (why : W) : Type 0 where
  pub before : List (List ℕ)
  pub payload : List ℕ
  pub later : List (List ℕ)
  pub all : payloads ≡ before ++ payload ∷ later
  pub refuses : e.refuses payload why

-- what holds of one that is
abbrev pub IfRefused : {W : Type 0} → (W → Type 0) → WritePieceError W → Type 0
IfRefused P (Io e) = ⊤
IfRefused P (Refused w) = P w

-- what holds of one that isn't
abbrev pub IfFault : {W : Type 0} → (Error → Type 0) → WritePieceError W → Type 0
IfFault P (Io e) = P e
IfFault P (Refused w) = ⊤
