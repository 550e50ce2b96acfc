-- Runs of calls: what they come to.
use Rattle.std.specs.Prelude.{◌≡◌, ℕ, ◌<◌, ◌≤◌, ◌⊎◌, List, [], ◌∷◌, ◌++◌, length, Option, None, Some, Result, Ok, Err}
use Rattle.std.specs.Global.{Vec}
use Rattle.std.specs.List.{flat_map}
use Rattle.std.specs.Option.{option_map}
use Rattle.piece_reader.specs.Grammar.{Grammar}
use Rattle.piece_reader.specs.NextPiece.{NextAnswer, NextPiece, PiecesWent}
use Rattle.piece_reader.specs.PieceReader.{ReaderState}
use Rattle.piece_reader.specs.Texts.{IsLast, StartsWith}

-- the payload that an answer hands out, or none
abbrev pub handed_payload : {E : Type 0} → Result (Option (List ℕ)) E → List (List ℕ)
handed_payload (Ok (Some payload)) = payload ∷ []
handed_payload (Ok None) = []
handed_payload (Err e) = []

-- the payloads that answers hand out
abbrev pub all_handed : {E : Type 0} → List (Result (Option (List ℕ)) E) → List (List ℕ)
all_handed answers = flat_map handed_payload answers

-- no answer tells that the stream ended
abbrev pub NoneTold : {E : Type 0} → List (Result (Option (List ℕ)) E) → Type 0
NoneTold [] = Unit {0}
NoneTold (Ok (Some payload) ∷ answers) = NoneTold answers
NoneTold (Ok None ∷ answers) = ⊥
NoneTold (Err e ∷ answers) = NoneTold answers

-- these bytes are what the answers hand out, one after another: pieces with these payloads, of which one may be a last one where
-- the next answer, if there is one, tells that the stream ended
abbrev pub Cuts : {W : Type 0} → Grammar W → List (NextAnswer W) → List ℕ → Type 0
Cuts g [] bytes = bytes ≡ []
Cuts {W} g (Ok (Some payload) ∷ answers) bytes =
    (more : List ℕ)
    × (StartsWith g bytes payload more
    ⊎ ((piece : List ℕ) × IsLast g piece payload × (bytes ≡ piece ++ more)
    × ((next : NextAnswer W) (later : List (NextAnswer W)) → answers ≡ next ∷ later → next ≡ Ok None)))
    × Cuts g answers more
Cuts g (Ok None ∷ answers) bytes = Cuts g answers bytes
Cuts g (Err e ∷ answers) bytes = Cuts g answers bytes

-- an answer that was recorded, by the bytes of its payload
abbrev pub kept_answer : {E : Type 0} → Result (Option (Vec ℕ)) E → Result (Option (List ℕ)) E
kept_answer (Ok found) = Ok (option_map (λ payload. payload.items) found)
kept_answer (Err e) = Err e

-- a call of a reader does this to it, and answers that
module _ {T A : Type 0} (Call : T → A → T → Type 0) where
  -- calls, one after another, with these answers
  abbrev pub AnswerRuns : T → List A → T → Type 0
  AnswerRuns s [] t = s ≡ t
  AnswerRuns s (answer ∷ answers) t = (m : T) × Call s answer m × AnswerRuns m answers t

  -- such calls, and what they come to
  pub record AnswerPlays (Went : T → List A → T → Type 0) (s : T) (answers : List A) (t : T) : Type 0 where
    pub run : AnswerRuns s answers t
    pub went : Went s answers t

-- one call was made, and the payload that it handed out is lost
pub record NextLost {T E : Type 0} (Call : T → Result (Option (List ℕ)) E → T → Type 0) (s t : T) : Type 0 where
  pub payload : List ℕ
  pub next : Call s (Ok (Some payload)) t

-- calls of a reader do this to it, one after another, and answer these
module _ {T E : Type 0} (Plays : T → List (Result (Option (List ℕ)) E) → T → Type 0) where
  -- just so many calls were made, and their answers are those that the record gained
  pub record AnswersPlayed (s : T) (calls : ℕ) (old new : List (Result (Option (List ℕ)) E)) (t : T) : Type 0 where
    pub answers : List (Result (Option (List ℕ)) E)
    pub gained : new ≡ old ++ answers
    pub all : length answers ≡ calls
    pub plays : Plays s answers t

  -- fewer calls were recorded. The record, which had room for so many, was full, and no further call was begun; or one more
  -- was made, and the payload that it handed out is lost
  pub record AnswersStopped (s : T) (calls room : ℕ) (old new : List (Result (Option (List ℕ)) E)) (t : T) : Type 0 where
    pub answers : List (Result (Option (List ℕ)) E)
    pub gained : new ≡ old ++ answers
    pub fewer : length answers < calls
    pub wanted : (Plays s answers t × (room ≤ length new))
        ⊎ ((payload : List ℕ) × Plays s (answers ++ Ok (Some payload) ∷ []) t)

-- calls of `next`, one after another, with these answers
abbrev pub NextRuns : {S D W : Type 0} → (S → Option (List ℕ)) → Grammar W → ReaderState S D → List (NextAnswer W)
    → ReaderState S D
    → Type 0
NextRuns remaining g = AnswerRuns (NextPiece remaining g)

-- what they come to: the bytes that they handed out, which are their pieces
pub record RunWent {S D W : Type 0} (remaining : S → Option (List ℕ)) (g : Grammar W) (s : ReaderState S D)
    (answers : List (NextAnswer W)) (t : ReaderState S D) : Type 0 where
  pub bytes : List ℕ
  pub cut : Cuts g answers bytes
  pub went : PiecesWent remaining g.most s bytes t
