-- What follows where a reader only looked at more bytes.
use Rattle.std.specs.Prelude.{◌≡◌, ℕ, ◌≤◌, List, [], Option, None, Some, Result, Ok, Err, IfOk, IfSome, OnErr}
use Rattle.std.proofs.Common.{ap, subst, arith}
use Rattle.buffer_redux.specs.Unbuffer.{HandsOutInOrder}
use Rattle.buffer_redux.specs.UnbufferLaws.{HandsOutInOrder-same}
use Rattle.piece_reader.specs.declared.decoder.Span.{Span}
use Rattle.piece_reader.specs.declared.error.NextError.{NextError}
use Rattle.piece_reader.specs.declared.error.NextError.TheVariants.{Wrong, Io}
use Rattle.piece_reader.specs.Grammar.{Grammar}
use Rattle.piece_reader.specs.Items.{NextItem}
use Rattle.piece_reader.specs.NextPiece.{NextAnswer, NextAnswers, NextBuffered, NextPiece, PiecesWent, StaysLeft, StaysLooked}
use Rattle.piece_reader.specs.PiecesWentLaws.{PiecesWent-inside}
use Rattle.piece_reader.specs.PieceReader.{ReaderState, left_of, rest}

-- what a call does is what it would have done with fewer bytes looked at
module _ {S D W : Type 0} (remaining : S → Option (List ℕ)) (g : Grammar W) (s t : ReaderState S D) (seen : ℕ)
    (more : s.seen ≤ seen) where
  answers : (answer : NextAnswer W) (bytes : List ℕ) → NextAnswers g (record s { seen = seen }) answer bytes t
      → NextAnswers g s answer bytes t
  answers (Ok (Some payload)) bytes a = a
  answers (Ok None) bytes a = a
  answers (Err (Wrong e)) bytes a = a
  answers (Err (Io e)) bytes a = a

  looked : (answer : NextAnswer W) → OnErr answer (StaysLooked g (record s { seen = seen }) t)
      → OnErr answer (StaysLooked g s t)
  looked (Ok found) l = tt
  looked (Err e) l = record { stays = omega (arith, more, l.stays); all = l.all; shows = l.shows }

  pub NextPiece-looked : (answer : NextAnswer W) → NextPiece remaining g (record s { seen = seen }) answer t
      → NextPiece remaining g s answer t
  NextPiece-looked answer next =
      let went = next.went in
      record {
        bytes = next.bytes;
        went = record {
          hands = went.hands;
          known = went.known;
          grows = went.grows;
          held = went.held;
          still = went.still;
          capacity = went.capacity;
          limit = went.limit;
          decoder = went.decoder;
        };
        answers = answers answer next.bytes next.answers;
        asked = next.asked;
        offered = next.offered;
        gave = next.gave;
        told = next.told;
        looked = looked answer next.looked;
        whole = next.whole;
      }

module _ {S D W : Type 0} (remaining : S → Option (List ℕ)) (g : Grammar W) (s m : ReaderState S D)
    (stays : StaysLeft g s m) where
  -- nothing was handed out
  pub StaysLeft-went : PiecesWent remaining g.most s [] m
  StaysLeft-went = PiecesWent-inside remaining g.most s m [] (ap (λ x. x.reader) stays.same) (ap (λ x. x.decoder) stays.same)
      (ap (λ x. rest x) stays.same)

  -- what the next call does is what it would have done before
  pub StaysLeft-next : (t : ReaderState S D) (answer : NextAnswer W) → NextPiece remaining g m answer t
      → NextPiece remaining g s answer t
  StaysLeft-next t answer next =
      NextPiece-looked remaining g s t m.seen stays.stays answer (subst (λ x. NextPiece remaining g x answer t) stays.same next)

  pub StaysLeft-item : {I : Type 0} (item_of : List ℕ → I) (t : ReaderState S D)
      (answer : Result (Option (I × Span)) (NextError W))
      → NextItem remaining g item_of m answer t → NextItem remaining g item_of s answer t
  StaysLeft-item item_of t answer item =
      let next = StaysLeft-next t _ item.next in
      let hands = subst (λ u. HandsOutInOrder u item.next.bytes (left_of t)) (ap (λ x. left_of x) stays.same)
      item.next.went.hands in
      let bytes = HandsOutInOrder-same (left_of s) (left_of t) item.next.bytes next.bytes hands next.went.hands in
      record { next = next; says = subst (λ l. IfOk answer (λ found. IfSome found (λ said. said.0 ≡ item_of l))) bytes item.says }

-- what a call that asks nobody went through: a piece was handed out, or nothing
pub NextBuffered-went : {S D W : Type 0} (remaining : S → Option (List ℕ)) (g : Grammar W) (s t : ReaderState S D)
    (found : Option (List ℕ)) → NextBuffered remaining g s found t → (bytes : List ℕ) × PiecesWent remaining g.most s bytes t
NextBuffered-went remaining g s t (Some payload) (next, same) = (next.bytes, next.went)
NextBuffered-went remaining g s t None (stays, none) = ([], StaysLeft-went remaining g s t stays)
