-- What pieces say that a step went on to.
use Rattle.std.proofs.Common.{◌≡◌, ℕ, ◌+◌, ◌-◌, List, [], ◌++◌, take, drop, sym, ap, subst, ◌∙◌, arith, inl, inr, append-nil, Option, Result, Ok, Err, Some, None, IfOk, IfSome}
use Rattle.std.proofs.lemmas.List.{drop-drop, take-append-drop}
use Rattle.buffer_redux.specs.Unbuffer.{HandsOutInOrder}
use Rattle.buffer_redux.specs.UnbufferLaws.{HandsOutInOrder-same}
use Rattle.piece_reader.specs.declared.decoder.Found.TheVariants as found
use Rattle.piece_reader.specs.declared.decoder.Span.{Span}
use Rattle.piece_reader.specs.declared.error.NextError.{NextError}
use Rattle.piece_reader.specs.declared.error.NextError.TheVariants.{Wrong, Io}
use Rattle.piece_reader.specs.Decoding.{bytes_at}
use Rattle.piece_reader.specs.Grammar.{Grammar, IsLawful}
use Rattle.piece_reader.specs.Items.{IsWhole, NextItem}
use Rattle.piece_reader.specs.NextPiece.{NextPiece, PiecesWent, load_answer}
use Rattle.piece_reader.specs.GrammarLaws.{wrong_some}
use Rattle.piece_reader.specs.NextPieceLaws.{NextPiece-refused}
use Rattle.piece_reader.specs.PieceReader.{ReaderState, IsPieceReader, left_of, rest}
use Rattle.piece_reader.specs.Steps.{Takes, TakesEnd}
use Rattle.piece_reader.proofs.Loading.{takes_shown}
use Rattle.piece_reader.proofs.Reading.{rest_whole}

module _ {S D : Type 0} where
  -- what stands at the front of the buffer is what was left, and what came
  pub hands_front : (s m t : ReaderState S D) (remaining : S → Option (List ℕ)) (most : ℕ) → PiecesWent remaining most s [] m
      → m.handed ≡ 0 → t.reader ≡ m.reader → HandsOutInOrder (left_of s) (take t.handed t.reader.block.bytes) (left_of t)
  hands_front s m t remaining most went none same = record {
    got = went.hands.got;
    given = ap (λ r. r.log.reads.given) same ∙ went.hands.given;
    equal = take-append-drop t.handed t.reader.block.bytes ∙ ap (λ r. r.block.bytes) same ∙ sym (rest_whole m none)
        ∙ went.hands.equal;
  }

  pub part_front : (t : ReaderState S D) → take (t.handed - 0) (drop 0 t.reader.block.bytes) ≡ take t.handed t.reader.block.bytes
  part_front t =
      let count : t.handed - 0 ≡ t.handed = omega arith in
      ap (λ n. take n t.reader.block.bytes) count

module _ {S D W : Type 0} where
  -- what was handed out as the last piece is what stands at the front of the buffer
  pub hands_last : (s m t : ReaderState S D) (remaining : S → Option (List ℕ)) (most : ℕ) (g : Grammar W)
      → PiecesWent remaining most s [] m → m.handed ≡ 0 → (r : Result (Option Span) (NextError W)) → TakesEnd g m r t
      → IfOk r (λ found. IfSome found (λ _. HandsOutInOrder (left_of s) (take t.handed t.reader.block.bytes) (left_of t)))
  hands_last s m t remaining most g went none (Ok None) takes = tt
  hands_last s m t remaining most g went none (Err (Wrong e)) takes = tt
  hands_last s m t remaining most g went none (Err (Io e)) takes = tt
  hands_last s m t remaining most g went none (Ok (Some span)) takes =
      hands_front s m t remaining most went none (ap (λ x. x.reader) takes.3)

  -- a piece that was buffered whole is what was handed out
  pub part_piece : (g : Grammar W) (s t : ReaderState S D) (at : ℕ) (span : Span) (used : ℕ) → at ≡ s.handed
      → Takes g s (found.Piece span used) t → take (t.handed - at) (drop at t.reader.block.bytes) ≡ take used (rest s)
  part_piece g s t at span used is takes =
      let same = takes.1 in
      let count : t.handed - at ≡ used = omega (arith, is, ap (λ x. x.handed) same) in
      ap (λ n. take n (drop at t.reader.block.bytes)) count ∙ ap (λ x. take used (drop at x.reader.block.bytes)) same
      ∙ ap (λ n. take used (drop n s.reader.block.bytes)) is

  pub hands_piece : (g : Grammar W) (s t : ReaderState S D) (span : Span) (used : ℕ) → Takes g s (found.Piece span used) t
      → HandsOutInOrder (left_of s) (take used (rest s)) (left_of t)
  hands_piece g s t span used takes =
      let same = takes.1 in
      record {
        got = [];
        given = ap (λ x. x.reader.log.reads.given) same ∙ sym (append-nil s.reader.log.reads.given);
        equal = ap (λ x. take used (rest s) ++ rest x) same
            ∙ ap (λ l. take used (rest s) ++ l) (sym (drop-drop used s.handed s.reader.block.bytes))
            ∙ take-append-drop used (rest s) ∙ sym (append-nil (rest s));
      }

  -- what a call handed out is a piece, or a last one
  pub whole_of : (remaining : S → Option (List ℕ)) (g : Grammar W) (s t : ReaderState S D) (payload : List ℕ)
      (next : NextPiece remaining g s (Ok (Some payload)) t) → IsWhole g next.bytes
  whole_of remaining g s t payload next = elim next.answers.1 [
    | inl is ↦ (payload, inl is.0)
    | inr is ↦ (payload, inr is.0)
  ]

module _ {S D W : Type 0} (grammar : D → Grammar W) (s t : ReaderState S D) where
  -- what is looked at for an item is a piece
  pub whole_piece : (at : ℕ) (span : Span) (used : ℕ) → at ≡ s.handed → Takes (grammar s.decoder) s (found.Piece span used) t
      → IsWhole (grammar t.decoder) (take (t.handed - at) (drop at t.reader.block.bytes))
  whole_piece at span used is takes =
      let told : t.decoder ≡ s.decoder = ap (λ x. x.decoder) takes.1 in
      subst (IsWhole (grammar t.decoder)) (sym (part_piece (grammar s.decoder) s t at span used is takes))
      (subst (λ d. IsWhole (grammar d) (take used (rest s))) (sym told) (bytes_at span (rest s), inl takes.0.is))

  module _ (remaining : S → Option (List ℕ)) (payload : List ℕ)
      (next : NextPiece remaining (grammar s.decoder) s (Ok (Some payload)) t)
      (front : HandsOutInOrder (left_of s) (take t.handed t.reader.block.bytes) (left_of t)) where
    pub whole_front : IsWhole (grammar t.decoder) (take (t.handed - 0) (drop 0 t.reader.block.bytes))
    whole_front =
        let same : next.bytes ≡ take (t.handed - 0) (drop 0 t.reader.block.bytes) =
        HandsOutInOrder-same (left_of s) (left_of t) next.bytes (take t.handed t.reader.block.bytes) next.went.hands front
        ∙ sym (part_front t) in
        subst (IsWhole (grammar t.decoder)) same
        (subst (λ d. IsWhole (grammar d) next.bytes) (sym next.went.decoder)
        (whole_of remaining (grammar s.decoder) s t payload next))

-- what is promised of an answer, where that is a place
module _ {S D W : Type 0} (s t : ReaderState S D) (r : Result (Option Span) (NextError W)) (span : Span)
    (is : r ≡ Ok (Some span)) where
  pub loaded_front : IfOk r (λ found. IfSome found (λ _.
      HandsOutInOrder (left_of s) (take t.handed t.reader.block.bytes) (left_of t)))
      → HandsOutInOrder (left_of s) (take t.handed t.reader.block.bytes) (left_of t)
  loaded_front front = subst (λ x. IfOk x (λ found. IfSome found (λ _.
      HandsOutInOrder (left_of s) (take t.handed t.reader.block.bytes) (left_of t)))) is
      front

pub loaded_next : {S D W : Type 0} (grammar : D → Grammar W) (s t : ReaderState S D) (remaining : S → Option (List ℕ))
    (r : Result (Option Span) (NextError W)) (span : Span) → r ≡ Ok (Some span)
    → NextPiece remaining (grammar s.decoder) s (load_answer r t) t
    → NextPiece remaining (grammar s.decoder) s (load_answer (Ok (Some span)) t) t
loaded_next grammar s t remaining r span is next =
    subst (λ x. NextPiece remaining (grammar s.decoder) s (load_answer x t) t) is next

-- what is left begins with no piece
pub wrong_now : {S D W : Type 0} (remaining : S → Option (List ℕ)) (g : Grammar W) → IsLawful g → (s t : ReaderState S D) (e : W)
    → g.wrong (rest s) e → t ≡ s → IsPieceReader g s → NextPiece remaining g s (Err (Wrong e)) t
wrong_now remaining g law s t e wrong same whole = subst (NextPiece remaining g s (Err (Wrong e))) (sym same)
    (NextPiece-refused remaining g s whole (wrong_some g law (rest s) e wrong) e wrong)

-- a piece that was buffered whole says what all of its bytes say
pub says_piece : {S D W I : Type 0} (remaining : S → Option (List ℕ)) (grammar : D → Grammar W) (item_of : D → List ℕ → I)
    (s t : ReaderState S D) → IsLawful (grammar s.decoder) → IsPieceReader (grammar s.decoder) s → IsPieceReader
    (grammar s.decoder) t
    → (at : ℕ) → at ≡ s.handed → (span : Span) (used : ℕ) → Takes (grammar s.decoder) s (found.Piece span used) t → (item : I)
    → item ≡ item_of t.decoder (take (t.handed - at) (drop at t.reader.block.bytes))
    → NextItem remaining (grammar s.decoder) (item_of s.decoder) s
    (Ok (Some (item, record { from = at + span.from; len = span.len }))) t
says_piece remaining grammar item_of s t law before whole at here span used takes item is =
    let g = grammar s.decoder in
    let next = takes_shown remaining g law s t at here before whole span used takes in
    let bytes = part_piece g s t at span used here takes
    ∙ HandsOutInOrder-same (left_of s) (left_of t) (take used (rest s)) next.bytes (hands_piece g s t span used takes)
    next.went.hands in
    record {
      next = next;
      says = is ∙ ap (λ x. item_of x.decoder (take (t.handed - at) (drop at t.reader.block.bytes))) takes.1
          ∙ ap (item_of s.decoder) bytes;
    }
