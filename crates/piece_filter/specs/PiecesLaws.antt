-- Payloads of pieces are handed out in order, and what is due is sent with what becomes of them.
use Rattle.std.proofs.Common.{◌≡◌, ℕ, ◌+◌, ◌<◌, ◌≤◌, inl, inr, List, [], ◌∷◌, ◌++◌, length, false, Option, None, Some, Result, Ok, Err, refl, sym, ap, subst, ◌∙◌, arith, append-nil, append_assoc, length-append, flat_map, Bool, true}
use Rattle.std.proofs.lemmas.Bool.{cases_lt, true≢false}
use Rattle.std.proofs.lemmas.List.{nil_from_length}
use Rattle.std.specs.declared.io.Error.{Error}
use Rattle.buffer_redux.specs.Asking.{AskedOver}
use Rattle.buffer_redux.specs.BufWriter.{WritesInOrder}
use Rattle.buffer_redux.specs.LogGrows.{ReadLogGrows}
use Rattle.buffer_redux.specs.Unbuffer.{HandsOutInOrder, Unbuffered}
use Rattle.buffer_redux.specs.WriterLaws.{WritesInOrder-joins, WritesInOrder-none}
use Rattle.piece_reader.specs.Grammar.{Begins, Grammar, IsOpen}
use Rattle.piece_reader.specs.NextPiece.{AskedUnlessEnded, Faulted, NextPiece, PiecesWent, NextAnswer, StaysLooked}
use Rattle.piece_reader.specs.NextPieceLaws.{MetEnd-once}
use Rattle.piece_reader.specs.PieceReader.{ReaderState, left_of, rest}
use Rattle.piece_reader.specs.PiecesWentLaws.{PiecesWent-joins, PiecesWent-none, drop_none}
use Rattle.piece_reader.specs.declared.error.NextError.TheVariants as Why
use Rattle.piece_reader.specs.Texts.{HasPieces, IsPieces, StartsWith}
use Rattle.forward.specs.Filter.{AsksSent, FilterRules, IsLawful, Moves, StaysOpen}
use Rattle.forward.specs.Prompt.{AskedLast, AsksGiveOrFail}
use Rattle.forward.specs.PromptLaws.{AskedLast-after}
use Rattle.forward.specs.Streams.{came}
use Rattle.programs.specs.TakenIn.{sent_all, taken_more}
use Rattle.piece_filter.specs.Pieces.{AnswersAll, HandsPieces, IsCoherent, IsText, OfferedWhole, PiecesEnd, Piecewise, TakesReplies, grammar_of, held_at, held_of, piece_rules, StaysSeen}

-- from an empty buffer on, what was given is what was handed out, and what is left
pub given_since : {S D : Type 0} (s t : ReaderState S D) (bytes : List ℕ) → s.reader.block.bytes ≡ []
    → HandsOutInOrder (left_of s) bytes (left_of t)
    → t.reader.log.reads.given ≡ s.reader.log.reads.given ++ (bytes ++ rest t)
given_since s t bytes none hands = hands.given ∙ ap (λ l. s.reader.log.reads.given ++ l)
    (sym (hands.equal ∙ ap (λ l. l ++ hands.got) (drop_none s.handed s.reader.block.bytes none)))

-- no payload is handed out behind an end that no call has told
pub open_piece : {X : Type 0} (none : NextAnswer X) (ended : Bool) (payload : List ℕ) → none ≡ Ok None
    → (ended ≡ true → Ok (Some payload) ≡ none) → ended ≡ false
open_piece none true payload is told = (let odd : Ok (Some payload) ≡ none = told refl in cc)
open_piece none false payload is told = refl

module _ {R D X : Type 0} {remaining : R → Option (List ℕ)} {g : Grammar X} {s t : ReaderState R D} where
  -- as many went and are left as were left and came
  pub counted : {found : NextAnswer X} (next : NextPiece remaining g s found t)
      → length next.bytes + length (rest t) ≡ length (rest s) + length next.went.hands.got
  counted next = omega (
    arith,
    ap length next.went.hands.equal,
    length-append next.bytes (rest t),
    length-append (rest s) next.went.hands.got,
  )

  pub given_more : {found : NextAnswer X} (next : NextPiece remaining g s found t)
      → length t.reader.log.reads.given ≡ length s.reader.log.reads.given + length next.went.hands.got
  given_more next =
      ap length next.went.hands.given ∙ length-append s.reader.log.reads.given next.went.hands.got

  -- where no piece was buffered, bytes came, or the end did
  pub more_came : s.ended ≡ false → ¬ (Begins g (rest s)) → (payload : List ℕ)
      → NextPiece remaining g s (Ok (Some payload)) t → came s.reader.log.reads < came t.reader.log.reads
  more_came going no_piece payload next = elim next.answers.1 [
    | inl whole ↦ elim (cases_lt 0 (length next.went.hands.got)) [
      | inl some ↦ omega (arith, some, given_more next, whole.2)
      | inr none ↦ absurd (no_piece (record {
        piece = next.bytes;
        payload = payload;
        more = rest t;
        is = whole.0;
        equal = sym (append-nil (rest s))
            ∙ ap (λ l. rest s ++ l) (sym (nil_from_length next.went.hands.got (omega (arith, none))))
            ∙ sym next.went.hands.equal;
      }))
    ]
    | inr last ↦ omega (arith, MetEnd-once s t going last.5, given_more next)
  ]

  -- an ask behind which nothing is left, and that handed nothing out, was for the whole buffer: at the end, and where one failed
  offered_whole : (found : NextAnswer X) (next : NextPiece remaining g s found t) → next.bytes ≡ [] → rest t ≡ []
      → ¬ (t.reader.log ≡ s.reader.log) → OfferedWhole t
  offered_whole found next none empty asked = elim next.offered [
    | inl same ↦ absurd (asked same)
    | inr over ↦
        let given = s.reader.log.reads.given in
        over.such.1 (nil_from_length (rest s ++ over.came) (omega (
          arith,
          ap length none,
          ap length empty,
          ap length over.given,
          counted next,
          given_more next,
          length-append (rest s) over.came,
          length-append given (over.came ++ t.reader.log.reads.latest),
          length-append over.came t.reader.log.reads.latest,
        ))) ∙ sym next.went.capacity
  ]

  pub offered_at_end : NextPiece remaining g s (Ok None) t → s.ended ≡ false → OfferedWhole t
  offered_at_end next going =
      let a = next.answers in
      offered_whole (Ok None) next a.0 a.1
      (λ same. omega (arith, MetEnd-once s t going a.4, ap (λ l. l.reads.zero_reads) same))

  pub offered_at_fault : (e : Error) → NextPiece remaining g s (Err (Why.Io e)) t → rest t ≡ [] → OfferedWhole t
  offered_at_fault e next empty =
      let met = length-append s.reader.log.reads.faults (e ∷ []) in
      offered_whole (Err (Why.Io e)) next next.answers.0 empty
      (λ same. omega (arith, ap length next.answers.2, met, ap (λ l. length l.reads.faults) same))

-- what was looked at stays so
pub still_seen : {R D X : Type 0} {g : Grammar X} {s t : ReaderState R D} → StaysLooked g s t → StaysSeen g s t
still_seen looked = record { stays = looked.stays; all = looked.all }

-- each ask gave a byte, but for the one that failed
pub gave_but_failed : {S D : Type 0} (Such : List ℕ → Type 0) (s m : ReaderState S D) (e : Error) → AskedUnlessEnded Such s m
    → Faulted s e m → AsksGiveOrFail s.reader.log m.reader.log
gave_but_failed Such s m e (inl same) fault = omega (
  arith,
  ap (λ l. l.reads.asks) same,
  ap (λ l. length l.reads.given) same,
  ap (λ l. length l.reads.faults) same,
)
gave_but_failed Such s m e (inr over) fault = omega (
  arith,
  over.1.asks,
  ap length over.1.given,
  length-append s.reader.log.reads.given (over.1.came ++ m.reader.log.reads.latest),
  length-append over.1.came m.reader.log.reads.latest,
  ap length fault,
  length-append s.reader.log.reads.faults (e ∷ []),
)

module _ {A : Type 0} (Answers : A → List ℕ → List ℕ → A → Type 0) where
  pub answers_one : (a b : A) (payload reply : List ℕ) → Answers a payload reply b → AnswersAll Answers a (payload ∷ []) reply b
  answers_one a b payload reply is = (b, reply, [], is, (refl, refl), sym (append-nil reply))

  answers_join : (a b c : A) (p q : List (List ℕ)) (x y : List ℕ) → AnswersAll Answers a p x b → AnswersAll Answers b q y c
      → AnswersAll Answers a (p ++ q) (x ++ y) c
  answers_join a b c [] q x y first second =
      subst (λ l. AnswersAll Answers a q (l ++ y) c) (sym first.0) (subst (λ s. AnswersAll Answers s q y c) first.1 second)
  answers_join a b c (payload ∷ p) q x y (m, one, more, is, all, equal) second = (
    m,
    one,
    more ++ y,
    is,
    answers_join m b c p q more y all second,
    ap (λ l. l ++ y) equal ∙ append_assoc one more y,
  )

-- what is written for payloads whatever came before
pub coded_all : (coded : List ℕ → List ℕ) (a b : Unit {0}) (p : List (List ℕ)) (reply : List ℕ)
    → AnswersAll (λ _ payload reply _. reply ≡ coded payload) a p reply b → reply ≡ flat_map coded p
coded_all coded a b [] reply is = is.0
coded_all coded a b (payload ∷ p) reply (m, first, more, is, all, equal) =
    equal ∙ ap (λ l. l ++ more) is ∙ ap (λ l. coded payload ++ l) (coded_all coded m b p more all)

module _ {X : Type 0} (g : Grammar X) where
  -- whole pieces stand in front of others
  pieces_join : (P : List ℕ → List (List ℕ) → Type 0)
      → ((bytes payload more : List ℕ) (q : List (List ℕ)) → StartsWith g bytes payload more → P more q → P bytes (payload ∷ q))
      → (a b : List ℕ) (p q : List (List ℕ)) → IsPieces g a p [] → P b q → P (a ++ b) (p ++ q)
  pieces_join P one a b [] q is others = subst (λ l. P (l ++ b) q) (sym is) others
  pieces_join P one a b (payload ∷ p) q (more, starts, is) others =
      one (a ++ b) payload (more ++ b) (p ++ q) (record {
        piece = starts.piece;
        is = starts.is;
        equal = ap (λ l. l ++ b) starts.equal ∙ append_assoc starts.piece more b;
      }) (pieces_join P one more b p q is others)

  -- whole pieces are a text
  pub whole_text : (bytes : List ℕ) (p : List (List ℕ)) → IsPieces g bytes p [] → HasPieces g bytes p
  whole_text bytes [] is = is
  whole_text bytes (payload ∷ p) (more, starts, is) = inl (more, starts, whole_text more p is)

-- the stream was asked, also for the last time, behind what had come
asked_last : {S : Type 0} (Such : List ℕ → Type 0) (s m : Unbuffered S) (over : AskedOver Such s m)
    → ReadLogGrows s.log.reads m.log.reads → AskedLast over.came s.log m.log
asked_last Such s m over grows = record {
  given = over.given;
  asks = omega (
    arith,
    over.asks,
    ap length grows.faults.equal,
    length-append s.log.reads.faults grows.faults.more,
  );
}

module _ {T R D X A W E : Type 0} (remaining : R → Option (List ℕ)) (f : Piecewise T R D X A W E) where
  abbrev rules : FilterRules T E
  rules = piece_rules remaining f

  -- nothing is held where there is no place
  pub none_held : (s : T) → f.held s ≡ None → held_of f s ≡ []
  none_held s none = ap (λ h. held_at (f.source s) h) none

  -- what was handed out went over
  pub handed_all : (s t : T) (p : List (List ℕ)) (hands : HandsPieces remaining f s p t) → f.held s ≡ None → f.held t ≡ None
      → hands.got ≡ p
  handed_all s t p hands none none' =
      sym (ap (λ l. l ++ hands.got) (none_held s none)) ∙ hands.order ∙ ap (λ l. p ++ l) (none_held t none') ∙ append-nil p

  -- nothing was handed out, or one payload
  pub hands_nothing : (s t : T) (p : List (List ℕ))
      → PiecesWent remaining (grammar_of f s).most (f.source s) [] (f.source t) → held_of f s ≡ p ++ held_of f t
      → (f.source t).ended ≡ (f.source s).ended → (f.source s).seen ≤ (f.source t).seen → HandsPieces remaining f s p t
  hands_nothing s t p went order same seen = record {
    bytes = [];
    got = [];
    went = went;
    text = inl refl;
    order = append-nil (held_of f s) ∙ order;
    dry = λ ended. inl (sym same ∙ ended);
    behind = λ ended. (refl, refl, same ∙ ended);
    seen = λ none. seen;
  }

  pub hands_one : (s t : T) (payload : List ℕ) (p : List (List ℕ)) → (f.source s).ended ≡ false
      → NextPiece remaining (grammar_of f s) (f.source s) (Ok (Some payload)) (f.source t)
      → held_of f s ++ payload ∷ [] ≡ p ++ held_of f t → HandsPieces remaining f s p t
  hands_one s t payload p going next order = record {
    bytes = next.bytes;
    got = payload ∷ [];
    went = next.went;
    text = elim next.answers.1 [
      | inl whole ↦ inl ([], record { piece = next.bytes; is = whole.0; equal = sym (append-nil next.bytes) }, refl)
      | inr last ↦ inr (inr (record { is = last.0; open' = last.1; some = last.2 }, refl), last.4)
    ];
    order = order;
    dry = λ ended. elim next.answers.1 [
      | inl whole ↦ absurd (true≢false (sym ended ∙ whole.1))
      | inr last ↦ inr (omega (arith, MetEnd-once (f.source s) (f.source t) going last.5))
    ];
    behind = λ ended. absurd (true≢false (sym ended ∙ going));
    seen = λ none. omega (arith, ap length none);
  }

  hands_none : (s : T) → HandsPieces remaining f s [] s
  hands_none s =
      hands_nothing s s [] (PiecesWent-none remaining (grammar_of f s).most (f.source s)) refl refl (omega arith)

  module _ (a b c : T) (p q : List (List ℕ)) (h : HandsPieces remaining f a p b) (k : HandsPieces remaining f b q c) where
    -- behind the end nothing more is handed out
    text_joins : IsText (grammar_of f a) (h.bytes ++ k.bytes) (h.got ++ k.got) (f.source c).ended
    text_joins =
        let g = grammar_of f a in
        elim h.text [
          | inl whole ↦ elim (subst (λ d. IsText (f.grammar d) k.bytes k.got (f.source c).ended) h.went.decoder k.text) [
            | inl more ↦ inl (pieces_join g (λ bytes l. IsPieces g bytes l []) (λ bytes l more q starts is. (more, starts, is))
                h.bytes k.bytes h.got k.got whole more)
            | inr last ↦ inr (
              pieces_join g (HasPieces g) (λ bytes l more q starts is. inl (more, starts, is)) h.bytes k.bytes h.got k.got
                  whole last.0,
              last.1,
            )
          ]
          | inr last ↦
              let none = k.behind last.1 in inr (
                subst (λ l. HasPieces g (h.bytes ++ l) (h.got ++ k.got)) (sym none.0)
                    (subst (λ l. HasPieces g (h.bytes ++ []) (h.got ++ l)) (sym none.1)
                    (subst (λ l. HasPieces g l (h.got ++ [])) (sym (append-nil h.bytes))
                    (subst (λ l. HasPieces g h.bytes l) (sym (append-nil h.got)) last.0))),
                none.2,
              )
        ]

    hands_joins : HandsPieces remaining f a (p ++ q) c
    hands_joins = record {
      bytes = h.bytes ++ k.bytes;
      got = h.got ++ k.got;
      went = PiecesWent-joins remaining (grammar_of f a).most (f.source a) (f.source b) (f.source c) h.bytes k.bytes h.went
          (subst (λ d. PiecesWent remaining (f.grammar d).most (f.source b) k.bytes (f.source c)) h.went.decoder k.went);
      text = text_joins;
      order =
          sym (append_assoc (held_of f a) h.got k.got) ∙ ap (λ l. l ++ k.got) h.order ∙ append_assoc p (held_of f b) k.got
          ∙ ap (λ l. p ++ l) k.order ∙ sym (append_assoc p q (held_of f c));
      dry = λ ended. elim (k.dry ended) [
        | inl before ↦ elim (h.dry before) [
          | inl first ↦ inl first
          | inr dry ↦ inr (omega (arith, dry, k.went.grows.zero_reads))
        ]
        | inr dry ↦ inr (omega (arith, dry, h.went.grows.zero_reads))
      ];
      behind = λ ended.
          let first = h.behind ended in
          let next = k.behind first.2 in
          (ap (λ l. l ++ k.bytes) first.0 ∙ next.0, ap (λ l. l ++ k.got) first.1 ∙ next.1, next.2);
      seen = λ none.
          omega (
            arith,
            h.seen (nil_from_length h.got (omega (arith, ap length none, length-append h.got k.got))),
            k.seen (nil_from_length k.got (omega (arith, ap length none, length-append h.got k.got))),
          );
    }

  -- nothing was taken in
  pub takes_nothing : (s t : T) → f.service t ≡ f.service s → WritesInOrder (f.target s) [] (f.target t)
      → (f.target t).block.capacity ≡ (f.target s).block.capacity → TakesReplies f s [] t
  takes_nothing s t same order room = record { reply = []; answers = (refl, same); in_order = order; room = λ fixed. room }

  pub takes_none : (s : T) → TakesReplies f s [] s
  takes_none s = takes_nothing s s refl (WritesInOrder-none (f.target s)) refl

  takes_joins : (a b c : T) (p q : List (List ℕ)) → TakesReplies f a p b → TakesReplies f b q c → TakesReplies f a (p ++ q) c
  takes_joins a b c p q h k = record {
    reply = h.reply ++ k.reply;
    answers = answers_join f.answers (f.service a) (f.service b) (f.service c) p q h.reply k.reply h.answers k.answers;
    in_order = WritesInOrder-joins (f.target a) (f.target b) (f.target c) h.reply k.reply h.in_order k.in_order;
    room = λ fixed. k.room fixed ∙ h.room fixed;
  }

  module _ (sound : IsCoherent f) where
    ends_after : (a b c : T) (p : List (List ℕ)) (how : Result (Unit {0}) E) → HandsPieces remaining f a p b
        → PiecesEnd f b how c → PiecesEnd f a how c
    ends_after a b c p (Ok _) h end = (
      end.0,
      elim end.1 [
        | inl ended ↦ elim (h.dry ended) [ inl first ↦ inl first | inr dry ↦ inr (omega (arith, dry, end.2)) ]
        | inr dry ↦ inr (omega (arith, dry, h.went.grows.zero_reads))
      ],
      omega (arith, end.2, h.went.grows.zero_reads),
      end.3,
    )
    ends_after a b c p (Err why) h end = sound.wrong_after a b c why h.went.grows.zero_reads end

    asks_sent : (first s t : T) (p : List (List ℕ)) → rules.fresh first → Moves rules first p p s → StaysOpen rules first s
        → rules.lacks s → f.sent s → rules.asks s t → AsksSent rules first s t
    asks_sent first s t p fresh moves still lacks sent (inl same, grows) = inl same
    asks_sent first s t p fresh moves (inr closed) lacks sent (inr over, grows) =
        absurd (true≢false (sym closed ∙ over.0))
    asks_sent first s t p fresh moves (inl gives) lacks sent (inr over, grows) =
        let hands = moves.hands in
        let takes = moves.takes in
        let left = rest (f.source s) in
        let d = (f.source first).decoder in
        let came = hands.went.hands in
        let whole : IsPieces (f.grammar d) hands.bytes p [] = elim hands.text [
          | inl is ↦ subst (λ l. IsPieces (f.grammar d) hands.bytes l []) (handed_all first s p hands fresh.1 lacks.0) is
          | inr last ↦ absurd (true≢false (sym last.1 ∙ over.0))
        ] in
        let asked = over.1 in
        inr (record {
          before = came.got ++ asked.came;
          asked = AskedLast-after (f.source first).reader.log (f.source s).reader.log (f.source t).reader.log came.got asked.came
              came.given gives.give
              (asked_last (IsOpen (grammar_of f s)) (left_of (f.source s)) (left_of (f.source t)) asked grows);
          due = takes.reply;
          is_due = subst (λ l. f.due d (f.service first) l takes.reply)
              (sym (append_assoc hands.bytes left asked.came) ∙ ap (λ l. l ++ asked.came) came.equal
              ∙ append_assoc (rest (f.source first)) came.got asked.came)
              (sound.is_due d (f.service first) (f.service s) hands.bytes (left ++ asked.came) takes.reply p whole
              (subst (λ d. IsOpen (f.grammar d) (left ++ asked.came)) hands.went.decoder asked.such) takes.answers);
          sent = sent_all (f.target first) (f.target s) takes.reply takes.in_order fresh.0 (sound.all_sent s sent);
        })

    pub piece_lawful : IsLawful (piece_rules remaining f)
    piece_lawful = record {
      hands_none = hands_none;
      hands_joins = hands_joins;
      takes_none = takes_none;
      takes_joins = takes_joins;
      ends_after = λ a b c p how h still end. (end.0, ends_after a b c p how h end.1);
      waits_lacks = λ s waits. (waits.0, waits.1.no_piece);
      waits_fresh = λ s waits sent. ((sound.all_sent s sent).empty, waits.0);
      taken_on = λ s t p taken. omega (arith, taken_more (f.target s) (f.target t) taken.reply taken.in_order);
      asks_sent = asks_sent;
    }
