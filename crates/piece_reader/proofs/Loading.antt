-- What the turns of `step_on` come to.
use Rattle.std.proofs.Common.{◌≡◌, ℕ, ◌+◌, ◌<◌, ◌≤◌, List, [], ◌∷◌, ◌++◌, length, length-take-le, drop, take, true, false, refl, sym, ap, subst, ◌∙◌, arith, inl, inr, append-nil, Bool, Option, Result, Ok, Err, Some, None, length-append, length-drop}
use Rattle.std.proofs.lemmas.List.{drop-drop, nil_from_length, take-append-drop}
use Rattle.std.proofs.Math.Seq.{take-append_seam}
use Rattle.std.specs.declared.io.Error.{Error}
use Rattle.piece_reader.specs.declared.decoder.Found.{Found}
use Rattle.piece_reader.specs.declared.decoder.Found.TheVariants as found
use Rattle.piece_reader.specs.declared.decoder.Span.{Span}
use Rattle.piece_reader.specs.declared.error.NextError.{NextError}
use Rattle.piece_reader.specs.declared.error.NextError.TheVariants.{Wrong, Io}
use Rattle.piece_reader.specs.Decoding.{bytes_at}
use Rattle.piece_reader.specs.Grammar.{Grammar, IsLawful, IsOpen, IsOpenBelow}
use Rattle.piece_reader.specs.NextPiece.{load_answer, AsksGive, AskedUnlessEnded, NextAnswer, NextPiece, MetEnd, NoEnd, OffersMore, PiecesWent, StaysLooked}
use Rattle.piece_reader.specs.NextPieceLaws.{AskedUnlessEnded-told, MetEnd-joins, MetEnd-once, OffersMore-told, seen_inside, still_going}
use Rattle.piece_reader.specs.PiecesWentLaws.{PiecesWent-joins, PiecesWent-inside}
use Rattle.piece_reader.specs.PieceReader.{ReaderState, IsPieceReader, rest}
use Rattle.piece_reader.specs.StaysLeftLaws.{NextPiece-looked}
use Rattle.piece_reader.specs.Steps.{AsksFor, Takes, TakesEnd}
use Rattle.piece_reader.proofs.Reading.{rest_whole}
use Rattle.piece_reader.proofs.Headers.{HeaderBytes, HeaderBytes-none, HeaderBytes-told, HeaderBytes-more, asked_on, offered_on, still_open, went_on}

-- where an end was met nothing was asked that gave none
gave_end : {S D : Type 0} {Such : List ℕ → Type 0} (s t : ReaderState S D) → AskedUnlessEnded Such s t → MetEnd s t → NoEnd s t
    → AsksGive s t
gave_end s t (inl same) met none =
    omega (arith, ap (λ l. l.reads.asks) same, ap (λ l. length l.reads.given) same)
gave_end s t (inr over) met none =
    absurd (omega (arith, MetEnd-once s t over.0 met, none))

-- what holds before each turn of `step_on`: nothing was handed out, and the next piece isn't buffered whole
pub record LoadHead {S D W : Type 0} (remaining : S → Option (List ℕ)) (g : Grammar W) (s m : ReaderState S D) (need : ℕ)
    : Type 0 where
  pub header : HeaderBytes remaining g s m
  pub handed : m.handed ≡ 0
  pub few : length (rest m) < need
  pub most : need ≤ g.most
  pub lacks : IsOpenBelow g need (rest m)
  pub start : s.seen ≡ length (rest s)
  pub seen : m.seen ≡ length (rest m)
  pub whole : IsPieceReader g m

-- as many bytes came as were asked for, and what stands at the front of them was looked at
pub record Turned {S D W : Type 0} (remaining : S → Option (List ℕ)) (g : Grammar W) (s m : ReaderState S D) (looked : Found W)
    (t : ReaderState S D) : Type 0 where
  pub header : HeaderBytes remaining g s m
  pub handed : m.handed ≡ 0
  pub before : IsPieceReader g m
  pub takes : Takes g m looked t
  pub start : s.seen ≡ length (rest s)
  pub seen : length (rest s) ≤ m.seen
  pub whole : IsPieceReader g t

module _ {S D W : Type 0} (remaining : S → Option (List ℕ)) (g : Grammar W) (law : IsLawful g) (s : ReaderState S D) where
  -- the next piece is buffered whole, and is handed out
  module _ (m t : ReaderState S D) (h : HeaderBytes remaining g s m) (whole : IsPieceReader g m) (whole' : IsPieceReader g t)
      (span : Span)
      (used : ℕ) (takes : Takes g m (found.Piece span used) t) where
    some : 0 < length (rest m)
    some = omega (
      arith,
      law.some (take used (rest m)) (bytes_at span (rest m)) takes.0.is,
      length-take-le used (rest m) takes.0.inside,
      takes.0.inside,
    )

    open_m : m.ended ≡ false
    open_m = still_going m.ended (rest m) whole.ended some

    pub takes_next : NextPiece remaining g s (Ok (Some (bytes_at span (rest m)))) t
    takes_next =
        let w : ReaderState S D = record m { handed = m.handed + used; seen = 0 } in
        let behind : rest w ≡ drop used (rest m) = sym (drop-drop used m.handed m.reader.block.bytes) in
        let bytes = take used (rest m) in
        let split : bytes ++ rest w ≡ rest m = ap (λ l. bytes ++ l) behind ∙ take-append-drop used (rest m) in
        let inside = PiecesWent-inside remaining g.most m w bytes refl refl split in
        subst (NextPiece remaining g s (Ok (Some (bytes_at span (rest m))))) (sym takes.1) (record {
          bytes = bytes;
          went = PiecesWent-joins remaining g.most s m w [] bytes h.went inside;
          answers = (h.faults, inl (takes.0.is, open_m, h.no_end));
          asked = AskedUnlessEnded-told (IsOpen g) s m w refl h.asked;
          offered = OffersMore-told s m w refl h.offered;
          gave = λ _ _. h.asks;
          told = λ ended. (let odd : true ≡ false = sym ended ∙ sym h.ended ∙ open_m in cc);
          looked = tt;
          whole = subst (IsPieceReader g) takes.1 whole';
        })

  -- the same, once it stands at the front
  pub takes_loaded : (m t : ReaderState S D) (span : Span) (used : ℕ) → Turned remaining g s m (found.Piece span used) t
      → NextPiece remaining g s (Ok (Some (bytes_at span t.reader.block.bytes))) t
  takes_loaded m t span used turn =
      let same : rest m ≡ t.reader.block.bytes =
      rest_whole m turn.handed ∙ ap (λ x. x.reader.block.bytes) (sym turn.takes.1) in
      subst (λ l. NextPiece remaining g s (Ok (Some (bytes_at span l))) t) same
      (takes_next m t turn.header turn.before turn.whole span used turn.takes)

  -- what is left begins with no piece
  pub wrong_next : (m t : ReaderState S D) (e : W) → Turned remaining g s m (found.Wrong e) t
      → NextPiece remaining g s (Err (Wrong e)) t
  wrong_next m t e turn =
      let h = turn.header in
      let wrong = turn.takes.0 in
      let none : ¬ (rest m ≡ []) = λ none. law.nothing e (subst (λ l. g.wrong l e) none wrong) in
      let open_m : m.ended ≡ false = elim m.ended as (λ b. b ≡ m.ended → b ≡ false) [
        | true ↦ λ is. absurd (none (turn.before.ended (sym is)))
        | false ↦ λ is. refl
      ] refl in
      subst (NextPiece remaining g s (Err (Wrong e))) (sym turn.takes.1) (record {
        bytes = [];
        went = h.went;
        answers = (refl, h.faults, open_m, inl (wrong, h.no_end));
        asked = h.asked;
        offered = h.offered;
        gave = λ _ _. h.asks;
        told = λ ended. (let odd : true ≡ false = sym ended ∙ sym h.ended ∙ open_m in cc);
        looked = record {
          stays = omega (arith, turn.start, turn.seen);
          all = λ _. turn.seen;
          shows = λ open'. absurd (open'.not_wrong e wrong);
        };
        whole = turn.before;
      })

  -- the next piece wasn't there yet
  pub loads_on : (m t : ReaderState S D) (need : ℕ) → Turned remaining g s m (found.More need) t → LoadHead remaining g s t need
  loads_on m t need turn =
      let wants = turn.takes in
      let w : ReaderState S D = record m { seen = length (rest m) } in
      subst (λ x. LoadHead remaining g s x need) (sym wants.3) (record {
        header = HeaderBytes-told remaining g s m turn.header w
            (PiecesWent-inside remaining g.most m w [] refl refl refl) refl refl;
        handed = turn.handed;
        few = wants.0;
        most = wants.1;
        lacks = wants.2;
        start = turn.start;
        seen = refl;
        whole = subst (IsPieceReader g) wants.3 turn.whole;
      })

  module _ (m : ReaderState S D) (need : ℕ) (h : LoadHead remaining g s m need) where
    -- what was looked at shows that what came since settles nothing
    still_looked : (answer : Result Bool Error) (t : ReaderState S D) → AsksFor remaining g need m answer t
        → length (rest t) < need → StaysLooked g s t
    still_looked answer t a few =
        let more = ap length h.header.went.hands.equal in
        let all : length (rest s) ≤ t.seen =
        omega (arith, a.seen, h.seen, more, length-append (rest s) h.header.went.hands.got) in
        record {
          stays = omega (arith, h.start, all);
          all = λ _. all;
          shows = λ _. record {
            need = need;
            most = h.most;
            few = few;
            lacks = subst (IsOpenBelow g need)
                (sym (ap (λ n. take n (rest t)) (a.seen ∙ h.seen)
                ∙ ap (take (length (rest m))) a.went.hands.equal ∙ take-append_seam (rest m) a.went.hands.got)) h.lacks;
          };
        }

    pub load_fails : (e : Error) (t : ReaderState S D) → AsksFor remaining g need m (Err e) t
        → NextPiece remaining g s (Err (Io e)) t
    load_fails e t a =
        let f = a.failed e refl in record {
          bytes = [];
          went = went_on remaining g s m h.header need h.lacks (Err e) t a;
          answers = (
            refl,
            still_open remaining g s m h.header need h.lacks (Err e) t a f.0,
            f.3 ∙ ap (λ l. l ++ e ∷ []) h.header.faults,
            a.ended ∙ f.1,
            f.2 ∙ h.header.no_end,
          );
          asked = asked_on remaining g s m h.header need h.lacks (Err e) t a;
          offered = offered_on remaining g s m h.header need h.lacks (Err e) t a;
          gave = λ _ none. absurd (omega (
            arith,
            ap length none,
            ap length f.3,
            ap length h.header.faults,
            length-append m.reader.log.reads.faults (e ∷ []),
          ));
          told = λ ended. (let odd : true ≡ false = sym ended ∙ sym h.header.ended ∙ f.1 in cc);
          looked = still_looked (Err e) t a f.0;
          whole = a.whole;
        }

    pub loaded : (t : ReaderState S D) → AsksFor remaining g need m (Ok true) t → HeaderBytes remaining g s t
    loaded t a = HeaderBytes-more remaining g s m h.header need h.lacks t a

    module _ (t : ReaderState S D) (a : AsksFor remaining g need m (Ok false) t) where
      ends : MetEnd s t
      ends = MetEnd-joins s m t h.header.ended h.header.no_end (a.end refl).1

      pub end_open : IsOpen g (rest t)
      end_open = still_open remaining g s m h.header need h.lacks (Ok false) t a (a.end refl).0

      went : PiecesWent remaining g.most s [] t
      went = went_on remaining g s m h.header need h.lacks (Ok false) t a

      asked : AskedUnlessEnded (IsOpen g) s t
      asked = asked_on remaining g s m h.header need h.lacks (Ok false) t a

      offered : OffersMore s t
      offered = offered_on remaining g s m h.header need h.lacks (Ok false) t a

      still_ended : 0 < length (rest t) → s.ended ≡ true → t.ended ≡ true
      still_ended left ended = a.ended ∙ h.header.ended ∙ ended

      -- what `take_end` answers
      pub load_finished : (r : Result (Option Span) (NextError W)) (v : ReaderState S D) → TakesEnd g t r v → IsPieceReader g v
          → NextPiece remaining g s (load_answer r v) v
      load_finished (Ok None) v (none, is) whole =
          let w : ReaderState S D = record t { ended = false } in
          let inside = PiecesWent-inside remaining g.most t w [] refl refl refl in
          subst (NextPiece remaining g s (Ok None)) (sym is) (record {
            bytes = [];
            went = PiecesWent-joins remaining g.most s t w [] [] went inside;
            answers = (refl, none, (a.end refl).2 ∙ h.header.faults, refl, ends);
            asked = AskedUnlessEnded-told (IsOpen g) s t w refl asked;
            offered = OffersMore-told s t w refl offered;
            gave = λ none _. gave_end s t asked ends none;
            told = λ _. refl;
            looked = tt;
            whole = subst (IsPieceReader g) is whole;
          })
      load_finished (Ok (Some span)) v (some, within, last, is) whole =
          let len = length (rest t) in
          let w : ReaderState S D = record t { handed = len; seen = 0; ended = true } in
          let bytes = t.reader.block.bytes in
          let left : rest t ≡ bytes = rest_whole t a.handed in
          let none : rest w ≡ [] =
          nil_from_length (drop len bytes) (omega (arith, length-drop len bytes, ap length left)) in
          let split : rest t ++ rest w ≡ rest t = ap (λ l. rest t ++ l) none ∙ append-nil (rest t) in
          let inside = PiecesWent-inside remaining g.most t w (rest t) refl refl split in
          let lent : bytes_at span (rest t) ≡ bytes_at span v.reader.block.bytes =
          ap (bytes_at span) (left ∙ ap (λ x. x.reader.block.bytes) (sym is)) in
          subst (λ l. NextPiece remaining g s (Ok (Some l)) v) lent
          (subst (NextPiece remaining g s (Ok (Some (bytes_at span (rest t))))) (sym is) (record {
            bytes = rest t;
            went = PiecesWent-joins remaining g.most s t w [] (rest t) went inside;
            answers = ((a.end refl).2 ∙ h.header.faults, inr (last, end_open, some, none, refl, ends));
            asked = AskedUnlessEnded-told (IsOpen g) s t w refl asked;
            offered = OffersMore-told s t w refl offered;
            gave = λ none _. gave_end s t asked ends none;
            told = λ ended. absurd (omega (arith, some, ap length (a.whole.ended (still_ended some ended))));
            looked = tt;
            whole = subst (IsPieceReader g) is whole;
          }))
      load_finished (Err (Wrong e)) v (some, cut, is) whole = subst (NextPiece remaining g s (Err (Wrong e))) (sym is) (record {
        bytes = [];
        went = went;
        answers = (
          refl,
          (a.end refl).2 ∙ h.header.faults,
          still_going t.ended (rest t) a.whole.ended some,
          inr (cut, end_open, some, ends),
        );
        asked = asked;
        offered = offered;
        gave = λ none _. gave_end s t asked ends none;
        told = λ ended. absurd (omega (arith, some, ap length (a.whole.ended (still_ended some ended))));
        looked = still_looked (Ok false) t a (a.end refl).0;
        whole = a.whole;
      })
      load_finished (Err (Io e)) v ends' whole = absurd ends'

-- a look alone settles nothing
pub next_looked : {S D W : Type 0} (remaining : S → Option (List ℕ)) (grammar : D → Grammar W) (s m t : ReaderState S D)
    (need : ℕ) (answer : NextAnswer W) → IsPieceReader (grammar s.decoder) s → Takes (grammar s.decoder) s (found.More need) m
    → NextPiece remaining (grammar m.decoder) m answer t → NextPiece remaining (grammar s.decoder) s answer t
next_looked remaining grammar s m t need answer whole wants next =
    NextPiece-looked remaining (grammar s.decoder) s t (length (rest s)) (seen_inside (grammar s.decoder) s whole) answer
    (subst (λ x. NextPiece remaining (grammar s.decoder) x answer t) wants.3
    (subst (λ d. NextPiece remaining (grammar d) m answer t) (ap (λ x. x.decoder) wants.3) next))

-- a piece that is buffered whole is handed out, and shown where it stands in the buffer
pub takes_shown : {S D W : Type 0} (remaining : S → Option (List ℕ)) (g : Grammar W) → IsLawful g → (s t : ReaderState S D)
    (at : ℕ) → at ≡ s.handed → IsPieceReader g s → IsPieceReader g t → (span : Span) (used : ℕ)
    → Takes g s (found.Piece span used) t
    → NextPiece remaining g s
    (Ok (Some (bytes_at (record { from = at + span.from; len = span.len }) t.reader.block.bytes))) t
takes_shown remaining g law s t at is whole whole' span used takes =
    let bytes = s.reader.block.bytes in
    let shown : bytes_at span (rest s) ≡ bytes_at (record { from = at + span.from; len = span.len }) t.reader.block.bytes =
    ap (take span.len) (drop-drop span.from s.handed bytes) ∙ ap (λ n. take span.len (drop (n + span.from) bytes)) (sym is)
    ∙ ap (λ x. take span.len (drop (at + span.from) x.reader.block.bytes)) (sym takes.1) in
    subst (λ l. NextPiece remaining g s (Ok (Some l)) t) shown
    (takes_next remaining g law s s t (HeaderBytes-none remaining g s) whole whole' span used takes)

-- the answer of a read is one under the first grammar still
pub asked_as : {S D W : Type 0} (remaining : S → Option (List ℕ)) (grammar : D → Grammar W) (s m t : ReaderState S D) (need : ℕ)
    (came is : Bool) → came ≡ is → m.decoder ≡ s.decoder → AsksFor remaining (grammar m.decoder) need m (Ok came) t
    → AsksFor remaining (grammar s.decoder) need m (Ok is) t
asked_as remaining grammar s m t need came is told same asked =
    subst (λ d. AsksFor remaining (grammar d) need m (Ok is) t) same
    (subst (λ b. AsksFor remaining (grammar m.decoder) need m (Ok b) t) told asked)

-- a turn whose calls are under the grammar of their own reader is one under the first grammar
pub turned : {S D W : Type 0} (remaining : S → Option (List ℕ)) (grammar : D → Grammar W)
    (law : (d : D) → IsLawful (grammar d)) (s m t v : ReaderState S D) (need : ℕ) {came : Bool} {r looked : Found W}
    → LoadHead remaining (grammar s.decoder) s m need → came ≡ true → AsksFor remaining (grammar m.decoder) need m (Ok came) t
    → r ≡ looked → Takes (grammar t.decoder) t r v → IsPieceReader (grammar t.decoder) v
    → Turned remaining (grammar s.decoder) s t looked v
turned remaining grammar law s m t v need {came} {r} {looked} h told a is takes whole =
    let g = grammar s.decoder in
    let asked = asked_as remaining grammar s m t need came true told h.header.went.decoder a in
    let same : t.decoder ≡ s.decoder = asked.went.decoder ∙ h.header.went.decoder in
    record {
      header = loaded remaining g (law s.decoder) s m need h t asked;
      handed = asked.handed;
      before = asked.whole;
      takes = subst (λ x. Takes g t x v) is (subst (λ d. Takes (grammar d) t r v) same takes);
      start = h.start;
      seen = omega (
        arith,
        asked.seen,
        h.seen,
        ap length h.header.went.hands.equal,
        length-append (rest s) h.header.went.hands.got,
      );
      whole = subst (λ d. IsPieceReader (grammar d) v) same whole;
    }
