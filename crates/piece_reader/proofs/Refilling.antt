-- What one ask of the stream does where nothing is left.
use Rattle.std.proofs.Common.{◌≡◌, ◌↔◌, ℕ, ◌<◌, List, [], ◌∷◌, ◌++◌, length, Bool, true, false, Option, Result, Ok, Err, refl, sym, ap, subst, ◌∙◌, arith, inl, inr}
use Rattle.std.proofs.lemmas.List.{nil_from_length}
use Rattle.std.specs.declared.io.Error.{Error}
use Rattle.buffer_redux.specs.AskingLaws.{AskedOver-on}
use Rattle.piece_reader.specs.Grammar.{Grammar}
use Rattle.piece_reader.specs.NextPiece.{AskedUnlessEnded, Faulted, OffersAll, PiecesWent, Refills}
use Rattle.piece_reader.specs.NextPieceLaws.{AskedUnlessEnded-told, MetEnd-joins, still_going}
use Rattle.piece_reader.specs.PiecesWentLaws.{PiecesWent-inside, PiecesWent-joins}
use Rattle.piece_reader.specs.PieceReader.{IsPieceReader, ReaderState, left_of, rest}
use Rattle.piece_reader.specs.Steps.{AsksFor, IsShortOf}
use Rattle.piece_reader.proofs.Taking.{whole_as}
use Rattle.piece_reader.proofs.Headers.{HeaderBytes, HeaderBytes-none, HeaderBytes-told}

-- something is left then just where the answer says so
pub came_left : {S D W : Type 0} (remaining : S → Option (List ℕ)) (g : Grammar W) (s t : ReaderState S D)
    (answer : Result Bool Error) → Refills remaining g s answer t → (answer ≡ Ok true) ↔ (0 < length (rest t))
came_left remaining g s t (Ok true) r = (λ _. (r.more refl).0, λ _. refl)
came_left remaining g s t (Ok false) r =
    (λ odd. cc, λ some. absurd (omega (arith, some, ap length (r.end refl).0)))
came_left remaining g s t (Err e) r =
    (λ odd. cc, λ some. absurd (omega (arith, some, ap length (r.failed e refl).0)))

-- what was handed out was dropped, and nothing is left
module _ {S D W : Type 0} (remaining : S → Option (List ℕ)) (g : Grammar W) (s m : ReaderState S D)
    (went : PiecesWent remaining g.most s [] m) (ended : m.ended ≡ s.ended)
    (told : m.reader.log ≡ s.reader.log) where
  header : HeaderBytes remaining g s m
  header = HeaderBytes-told remaining g s s (HeaderBytes-none remaining g s) m went told ended

  asked_empty : (answer : Result Bool Error) (t : ReaderState S D) → AsksFor remaining g 1 m answer t
      → AskedUnlessEnded (λ bytes. bytes ≡ []) s t
  asked_empty answer t a = elim a.asked [
    | inl same ↦ inl (same.1 ∙ told)
    | inr over ↦ inr (
      sym ended ∙ over.0,
      AskedOver-on (IsShortOf 1 m.reader.block.capacity t.reader.log.reads.offer) (λ bytes. bytes ≡ []) (left_of s) (left_of m)
          (left_of t) [] went.hands went.grows.asks header.asks
          (λ more few. nil_from_length (rest m ++ more) (omega (arith, few.0))) over.1,
    )
  ]

  -- at each ask nothing was there
  offered_all : (answer : Result Bool Error) (t : ReaderState S D) → AsksFor remaining g 1 m answer t → OffersAll s t
  offered_all answer t a = elim a.asked [
    | inl same ↦ inl (same.1 ∙ told)
    | inr over ↦
        let few = over.1.such in
        inr (few.2 (nil_from_length (rest m ++ over.1.came) (omega (arith, few.0))) ∙ went.capacity)
  ]

  -- what changes where the end alone is noted behind the answer
  module _ (t : ReaderState S D) (came flag : Bool) where
    abbrev pub noted : ReaderState S D
    noted = record t { ended = flag }

    went_on : AsksFor remaining g 1 m (Ok came) t → PiecesWent remaining g.most s [] noted
    went_on a = PiecesWent-joins remaining g.most s t noted [] []
        (PiecesWent-joins remaining g.most s m t [] [] went a.went)
        (PiecesWent-inside remaining g.most t noted [] refl refl refl)

    asked_then : AsksFor remaining g 1 m (Ok came) t → AskedUnlessEnded (λ bytes. bytes ≡ []) s noted
    asked_then a = AskedUnlessEnded-told (λ bytes. bytes ≡ []) s t noted refl (asked_empty (Ok came) t a)

    still_whole : AsksFor remaining g 1 m (Ok came) t → (flag ≡ true → rest t ≡ []) → IsPieceReader g noted
    still_whole a none_left = whole_as g t a.whole t.handed t.seen flag a.whole.handed a.whole.searched none_left

    pub refilled : came ≡ true → flag ≡ false → AsksFor remaining g 1 m (Ok came) t → Refills remaining g s (Ok came) noted
    refilled is open' a =
        let more = a.more (ap (λ b. Ok b) is) in
        let going : t.ended ≡ false = still_going t.ended (rest t) a.whole.ended (omega (arith, more.0)) in record {
          went = went_on a;
          asked = asked_then a;
          offered = offered_all (Ok came) t a;
          more = λ _. (
            omega (arith, more.0),
            sym ended ∙ sym a.ended ∙ going,
            open',
            more.1 ∙ ap (λ l. l.reads.zero_reads) told,
            more.2 ∙ ap (λ l. l.reads.faults) told,
          );
          end = λ odd. (let no : true ≡ false = sym is ∙ cc in cc);
          failed = λ e odd. cc;
          whole = still_whole a (λ odd. (let no : true ≡ false = sym odd ∙ open' in cc));
        }

    pub ends : came ≡ false → flag ≡ true → AsksFor remaining g 1 m (Ok came) t → Refills remaining g s (Ok came) noted
    ends is closed a =
        let end = a.end (ap (λ b. Ok b) is) in
        let empty : rest t ≡ [] = nil_from_length (rest t) (omega (arith, end.0)) in record {
          went = went_on a;
          asked = asked_then a;
          offered = offered_all (Ok came) t a;
          more = λ odd. (let no : true ≡ false = cc in cc);
          end = λ _. (
            empty,
            closed,
            MetEnd-joins s m t header.ended header.no_end end.1,
            end.2 ∙ ap (λ l. l.reads.faults) told,
          );
          failed = λ e odd. cc;
          whole = still_whole a (λ _. empty);
        }

  module _ (t : ReaderState S D) where
    pub fails : (e : Error) → AsksFor remaining g 1 m (Err e) t → Refills remaining g s (Err e) t
    fails e a =
        let f = a.failed e refl in record {
          went = PiecesWent-joins remaining g.most s m t [] [] went a.went;
          asked = asked_empty (Err e) t a;
          offered = offered_all (Err e) t a;
          more = λ odd. cc;
          end = λ odd. cc;
          failed = λ e' is. (
            nil_from_length (rest t) (omega (arith, f.0)),
            sym ended ∙ f.1,
            a.ended ∙ f.1,
            f.2 ∙ ap (λ l. l.reads.zero_reads) told,
            (let same : e ≡ e' = cc in
                subst (λ x. Faulted s x t) same (f.3 ∙ ap (λ l. l.reads.faults ++ e ∷ []) told)),
          );
          whole = a.whole;
        }
