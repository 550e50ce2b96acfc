-- A filter that answers payloads.
use Rattle.std.specs.Prelude.{◌≡◌, ℕ, ◌<◌, ◌⊎◌, List, [], ◌∷◌, ◌++◌, length, Bool, true, false, Result, Ok, Err}
use Rattle.std.specs.declared.io.Error.{Error}
use Rattle.buffer_redux.specs.BufReader.{RanDry}
use Rattle.buffer_redux.specs.Buffered.{Buffered}
use Rattle.buffer_redux.specs.declared.policy.StdPolicy.{StdPolicy}
use Rattle.piece_reader.specs.Grammar.{Grammar, IsOpen}
use Rattle.piece_reader.specs.PieceReader.{ReaderState, rest}
use Rattle.piece_reader.specs.Texts.{IsPieces}
use Rattle.programs.specs.Streams.{AllSent}
use Rattle.piece_filter.specs.Pieces.{AnswersAll, Piecewise, held_at}
use Rattle.piece_filter.specs.Puts.{IsRoomRefused, Puts}
use Rattle.piece_filter.specs.declared.answering.Answering.{Answering}

-- what one answer does: some bytes were taken in; or none were, and the writer is as it was; or the writer refused those that
-- would be written for this payload, and what answers is as it was
abbrev pub AnswersOne : {A W : Type 0} → (A → List ℕ → List ℕ → A → Type 0) → A → List ℕ → Buffered W StdPolicy
    → Result Bool Error → A → Buffered W StdPolicy → Type 0
AnswersOne Answers a payload w (Ok true) b v =
    (reply : List ℕ) × Answers a payload reply b × (0 < length reply) × Puts w reply (Ok tt) v
AnswersOne Answers a payload w (Ok false) b v = Answers a payload [] b × (v ≡ w)
AnswersOne {A} Answers a payload w (Err e) b v =
    (reply : List ℕ) × (after : A) × Answers a payload reply after × (b ≡ a) × Puts w reply (Err e) v

-- what is due of these bytes: what is written for the payloads of all whole pieces in them
pub record IsDue {A X : Type 0} (g : Grammar X) (Answers : A → List ℕ → List ℕ → A → Type 0) (a : A) (bytes due : List ℕ)
    : Type 0 where
  pub payloads : List (List ℕ)
  pub whole : List ℕ
  pub left : List ℕ
  pub equal : bytes ≡ whole ++ left
  pub pieces : IsPieces g whole payloads []
  pub is_open : IsOpen g left
  pub after : A
  pub answers : AnswersAll Answers a payloads due after

-- what is left begins with no piece; or the reader gave no more behind it, and it is none
abbrev pub IsWrongPiece : {R D X : Type 0} → Grammar X → ReaderState R D → X → ReaderState R D → Type 0
IsWrongPiece g s why t =
    g.wrong (rest t) why ⊎ (g.cut (rest t) why × IsOpen g (rest t) × (0 < length (rest t)) × RanDry s.reader t.reader)

-- the payload that is held wasn't answered, since room for its reply was refused
abbrev pub HoldsRefused : {A R D W X N : Type 0} → (A → List ℕ → List ℕ → A → Type 0) → Error → Answering R D W A X N → Type 0
HoldsRefused {A} Answers e t =
    (payload : List ℕ) × (reply : List ℕ) × (after : A) × (held_at t.source t.held ≡ payload ∷ [])
    × Answers t.service payload reply after × IsRoomRefused (length reply) e t.target

abbrev pub answering : {R D X A W N : Type 0} → (D → Grammar X) → (A → List ℕ → List ℕ → A → Type 0)
    → Piecewise (Answering R D W A X N) R D X A W X
answering grammar Answers = record {
  source = λ s. s.source;
  held = λ s. s.held;
  target = λ s. s.target;
  service = λ s. s.service;
  also = λ s. s.sent ≡ true → AllSent s.target;
  grammar = grammar;
  answers = Answers;
  due = λ d. IsDue (grammar d) Answers;
  wrong = λ s why t. IsWrongPiece (grammar t.source.decoder) s.source why t.source;
  drops = Unit {0};
  grows = Unit {0};
  sent = λ s. (s.sent ≡ true) × AllSent s.target;
  refused = HoldsRefused Answers;
  loses = 0;
}
