-- What an answer to a piece does.
use Rattle.std.specs.Prelude.{◌≡◌, ◌⊎◌, ℕ, List, [], Bool, Result, Ok, Err}
use Rattle.std.specs.declared.convert.Infallible.{Infallible}
use Rattle.buffer_redux.specs.Buffered.{Buffered}
use Rattle.buffer_redux.specs.StreamLog.{StreamLog}
use Rattle.buffer_redux.specs.WriteParts.{WritesParts}
use Rattle.piece_reader.specs.Grammar.{Grammar}
use Rattle.codec.specs.declared.answering.AnswerError.{AnswerError}
use Rattle.codec.specs.declared.answering.AnswerError.TheVariants.{Write, Failed}

-- what a decoder reads as a piece, or as a last one: all its bytes, what it says, and its payload
pub record IsPieceRead {D W I : Type 0} (grammar : D → Grammar W) (item_of : D → List ℕ → I) (item : I) (payload : List ℕ)
    : Type 0 where
  pub decoder : D
  pub bytes : List ℕ
  pub is : (grammar decoder).piece bytes payload ⊎ (grammar decoder).last bytes payload
  pub says : item ≡ item_of decoder bytes

-- these bytes were taken in by one write of parts; or there are none, and nothing was done
abbrev pub WritesOnce : {T P : Type 0} → (T → StreamLog) → (T → T → Type 0) → Buffered T P → List ℕ → Buffered T P → Type 0
WritesOnce tells trace w bytes v = WritesParts tells trace w bytes (Ok tt) v ⊎ ((bytes ≡ []) × (v ≡ w))

-- at Ok such an answer was written, and it says whether a further piece is taken; at `Write` there was one, which one write of
-- parts refused; at `Failed` there was such a failure. Nothing else was done to the writer
abbrev pub WasAnswered : {A T P F : Type 0} → (T → StreamLog) → (T → T → Type 0) → (List ℕ → Bool → A → Type 0)
    → (F → A → Type 0) → Buffered T P → Result Bool (AnswerError F) → A → Buffered T P → Type 0
WasAnswered tells trace Answers Fails w (Ok more) t v =
    (answer : List ℕ) × Answers answer more t × WritesOnce tells trace w answer v
WasAnswered tells trace Answers Fails w (Err (Write e)) t v =
    (answer : List ℕ) × (more : Bool) × Answers answer more t × WritesParts tells trace w answer (Err e) v
WasAnswered tells trace Answers Fails w (Err (Failed why)) t v = Fails why t × (v ≡ w)

-- what a service fails by that can't fail
abbrev pub NeverFails : {A I : Type 0} → A → I → List ℕ → Infallible → A → Type 0
NeverFails a item payload why b = ⊥

-- this answer, behind which a further piece is taken or none, was written by one write of parts, or refused
abbrev pub AnswersBy : {T P F : Type 0} → (T → StreamLog) → (T → T → Type 0) → List ℕ → Bool → Buffered T P
    → Result Bool (AnswerError F) → Buffered T P → Type 0
AnswersBy tells trace answer more w (Ok further) v = (further ≡ more) × WritesParts tells trace w answer (Ok tt) v
AnswersBy tells trace answer more w (Err (Write e)) v = WritesParts tells trace w answer (Err e) v
AnswersBy tells trace answer more w (Err (Failed why)) v = ⊥
