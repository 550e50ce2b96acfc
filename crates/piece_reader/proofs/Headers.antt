-- What a call of a reader of pieces has done so far, turn by turn.
use Rattle.std.proofs.Common.{◌≡◌, ℕ, ◌<◌, List, [], ◌++◌, length, Bool, true, false, refl, sym, ap, ◌∙◌, arith, inl, inr, Option, Result, Ok}
use Rattle.std.specs.declared.io.Error.{Error}
use Rattle.buffer_redux.specs.Asking.{AskedOver}
use Rattle.buffer_redux.specs.AskingLaws.{AskedOver-on}
use Rattle.piece_reader.specs.Grammar.{Grammar, IsOpen, IsOpenBelow}
use Rattle.piece_reader.specs.GrammarLaws.{open_with}
use Rattle.piece_reader.specs.Looking.{IsAskedFor}
use Rattle.piece_reader.specs.NextPiece.{AsksGive, PiecesWent, AskedUnlessEnded, NoFault, NoEnd, OffersMore, OffersOver}
use Rattle.piece_reader.specs.NextPieceLaws.{AskedUnlessEnded-told, OffersMore-told}
use Rattle.piece_reader.specs.PiecesWentLaws.{PiecesWent-none, PiecesWent-joins}
use Rattle.piece_reader.specs.PieceReader.{ReaderState, left_of, rest}
use Rattle.piece_reader.specs.Steps.{AsksFor, IsShortOf}

-- nothing was handed out so far, and no fault and no end was met; the stream was asked only where what was there settled
-- nothing, and each time it gave a byte
pub record HeaderBytes {S D W : Type 0} (remaining : S → Option (List ℕ)) (g : Grammar W) (s m : ReaderState S D) : Type 0 where
  pub went : PiecesWent remaining g.most s [] m
  pub ended : m.ended ≡ s.ended
  pub faults : NoFault s m
  pub no_end : NoEnd s m
  pub asks : AsksGive s m
  pub asked : AskedUnlessEnded (IsOpen g) s m
  pub offered : OffersMore s m

module _ {S D W : Type 0} (remaining : S → Option (List ℕ)) (g : Grammar W) (s : ReaderState S D) where
  -- nothing was done yet
  pub HeaderBytes-none : HeaderBytes remaining g s s
  HeaderBytes-none = record {
    went = PiecesWent-none remaining g.most s;
    ended = refl;
    faults = refl;
    no_end = refl;
    asks = omega arith;
    asked = inl refl;
    offered = inl refl;
  }

  module _ (m : ReaderState S D) (h : HeaderBytes remaining g s m) where
    -- a header goes on where nothing was read, and nothing was handed out
    pub HeaderBytes-told : (t : ReaderState S D) → PiecesWent remaining g.most m [] t → t.reader.log ≡ m.reader.log
        → t.ended ≡ m.ended → HeaderBytes remaining g s t
    HeaderBytes-told t went told ended = record {
      went = PiecesWent-joins remaining g.most s m t [] [] h.went went;
      ended = ended ∙ h.ended;
      faults = ap (λ l. l.reads.faults) told ∙ h.faults;
      no_end = ap (λ l. l.reads.zero_reads) told ∙ h.no_end;
      asks = omega (arith, h.asks, ap (λ l. l.reads.asks) told, ap (λ l. length l.reads.given) told);
      asked = AskedUnlessEnded-told (IsOpen g) s m t told h.asked;
      offered = OffersMore-told s m t told h.offered;
    }

    -- behind a header the stream was asked
    over_then : (P Q : List ℕ → Type 0) (t : ReaderState S D) → ((more : List ℕ) → P (rest m ++ more) → Q (rest m ++ more))
        → AskedOver P (left_of m) (left_of t) → AskedOver Q (left_of s) (left_of t)
    over_then P Q t so =
        AskedOver-on P Q (left_of s) (left_of m) (left_of t) [] h.went.hands h.went.grows.asks h.asks so

    -- behind a header the stream was asked until so many bytes are there
    module _ (n : ℕ) (lacks : IsOpenBelow g n (rest m)) (answer : Result Bool Error) (t : ReaderState S D)
        (a : AsksFor remaining g n m answer t) where
      abbrev short : List ℕ → Type 0
      short = IsShortOf n m.reader.block.capacity t.reader.log.reads.offer

      pub went_on : PiecesWent remaining g.most s [] t
      went_on = PiecesWent-joins remaining g.most s m t [] [] h.went a.went

      pub asked_on : AskedUnlessEnded (IsOpen g) s t
      asked_on = elim a.asked [
        | inl same ↦ AskedUnlessEnded-told (IsOpen g) s m t same.1 h.asked
        | inr over ↦ inr (
          sym h.ended ∙ over.0,
          over_then short (IsOpen g) t (λ more few. open_with g n (rest m) more (rest m ++ more) refl few.0 lacks) over.1,
        )
      ]

      -- the last ask was for so many, behind a look at what was left before
      pub asked_last : s.ended ≡ false → AskedOver (IsAskedFor (rest m) n t.reader.log.reads.offer) (left_of s) (left_of t)
      asked_last going = elim a.asked [
        | inl same ↦ (let odd : true ≡ false = sym same.0 ∙ h.ended ∙ going in cc)
        | inr over ↦ over_then short (IsAskedFor (rest m) n t.reader.log.reads.offer) t
            (λ more few. (few.0, few.1, more, refl)) over.1
      ]

      pub offered_on : OffersMore s t
      offered_on = elim a.asked [
        | inl same ↦ OffersMore-told s m t same.1 h.offered
        | inr over ↦ inr (over_then short (OffersOver s.reader.block.capacity t.reader.log.reads.offer) t
            (λ more few. (omega (arith, few.0, few.1), λ none. few.2 none ∙ h.went.capacity)) over.1)
      ]

      -- what is there still settles nothing
      pub still_open : length (rest t) < n → IsOpen g (rest t)
      still_open few = open_with g n (rest m) a.went.hands.got (rest t) a.went.hands.equal few lacks

    pub HeaderBytes-more : (n : ℕ) → IsOpenBelow g n (rest m) → (t : ReaderState S D) → AsksFor remaining g n m (Ok true) t
        → HeaderBytes remaining g s t
    HeaderBytes-more n lacks t a = record {
      went = went_on n lacks (Ok true) t a;
      ended = a.ended ∙ h.ended;
      faults = (a.more refl).2 ∙ h.faults;
      no_end = (a.more refl).1 ∙ h.no_end;
      asks = omega (arith, h.asks, (a.more refl).3);
      asked = asked_on n lacks (Ok true) t a;
      offered = offered_on n lacks (Ok true) t a;
    }
