-- What the calls of a filter of pieces do.
use Rattle.std.proofs.Common.{◌≡◌, ℕ, ◌+◌, ◌≤◌, ◌<◌, ◌⊎◌, inl, inr, Bool, true, false, if◌then◌else◌, nat_lt, List, [], ◌∷◌, ◌++◌, length, Option, None, Some, Result, Ok, Err, refl, sym, ap, subst, ◌∙◌, arith, length-drop, OnErr, OnOk}
use Rattle.std.proofs.lemmas.Bool.{true≢false}
use Rattle.std.proofs.lemmas.Bool.Decides.{nat_tests}
use Rattle.std.specs.declared.io.Error.{Error}
use Rattle.buffer_redux.specs.BufWriter.{WasFlushed, WritesInOrder}
use Rattle.buffer_redux.specs.LogGrows.{ReadLogGrows-none}
use Rattle.buffer_redux.specs.StreamLog.{StreamLog}
use Rattle.buffer_redux.specs.WriterLaws.{WritesInOrder-none}
use Rattle.piece_reader.specs.Decoding.{IsLent, bytes_at}
use Rattle.piece_reader.specs.Grammar.{Begins, IsOpen}
use Rattle.piece_reader.specs.NextPiece.{Faulted, NextAnswer, NextPiece, PiecesWent, StaysLeft, empty_reads}
use Rattle.piece_reader.specs.NextPieceLaws.{MetEnd-once}
use Rattle.piece_reader.specs.PieceReader.{IsPieceReader, rest}
use Rattle.piece_reader.specs.PiecesWentLaws.{PiecesWent-none}
use Rattle.piece_reader.specs.StaysLeftLaws.{StaysLeft-went}
use Rattle.piece_reader.specs.declared.decoder.Span.{Span}
use Rattle.piece_reader.specs.declared.error.NextError.TheVariants as Why
use Rattle.forward.specs.Filter.{AskAnswers, FilterAsks, FilterFlushes, FilterPasses, FilterRules, SomeCame, StaysOpen}
use Rattle.forward.specs.Streams.{came}
use Rattle.forward.specs.Target.{PassWrites, bytes_taken}
use Rattle.forward.specs.declared.error.AskError.TheVariants.{Wrong, Io, IoBehind}
use Rattle.forward.specs.declared.error.AskError.{AskError}
use Rattle.programs.specs.Streams.{AllSent}
use Rattle.programs.specs.TakenIn.{TakesAll, taken_more, target_of}
use Rattle.programs.specs.TargetLaws.{TakesAll-not_passed, TakesAll-passed, WasFlushed-sent, WasFlushed-writes, nothing_passed}
use Rattle.piece_filter.specs.Pieces.{CanShow, HandsPieces, HasEnded, IsReady, Keeps, Piecewise, TakesReplies, grammar_of, held_at, held_of, piece_rules}
use Rattle.piece_filter.specs.PiecesLaws.{answers_one, counted, gave_but_failed, given_more, hands_nothing, hands_one, more_came, none_held, offered_at_end, offered_at_fault, open_piece, still_seen, takes_none, takes_nothing}

-- there is no place
pub not_held : (h : Option Span) → ((span : Span) → ¬ (h ≡ Some span)) → h ≡ None
not_held None isnt = refl
not_held (Some span) isnt = absurd (isnt span refl)

module _ {T R D X A W E : Type 0} (remaining : R → Option (List ℕ)) (f : Piecewise T R D X A W E) {s : T}
    (ready : IsReady f s) (t : T) where
  abbrev pub rules : FilterRules T E
  rules = piece_rules remaining f

  abbrev NextGives : NextAnswer X → Type 0
  NextGives answer = NextPiece remaining (grammar_of f s) (f.source s) answer (f.source t)

  -- these payloads were taken out, and the stream wasn't asked
  pub record Took (p : List (List ℕ)) : Type 0 where
    pub hands : HandsPieces remaining f s p t
    pub told : (f.source t).reader.log ≡ (f.source s).reader.log
    pub closed : HasEnded f s → HasEnded f t
    pub leaves : IsReady f t

  -- the reader was let be
  module _ (same : f.source t ≡ f.source s) (also : f.also t) where
    let_be : (p : List (List ℕ)) → held_of f s ≡ p ++ held_at (f.source s) (f.held t)
        → CanShow (grammar_of f s) (f.source s) (f.held t) → Took p
    let_be p order shows = record {
      hands = hands_nothing remaining f s t p
          (subst (PiecesWent remaining (grammar_of f s).most (f.source s) []) (sym same)
          (PiecesWent-none remaining (grammar_of f s).most (f.source s)))
          (order ∙ ap (λ m. p ++ held_at m (f.held t)) (sym same)) (ap (λ m. m.ended) same)
          (omega (arith, ap (λ m. m.seen) same));
      told = ap (λ m. m.reader.log) same;
      closed = λ ended. ap (λ m. m.ended) same ∙ ended;
      leaves = record {
        whole = subst (λ m. IsPieceReader (f.grammar m.decoder) m) (sym same) ready.whole;
        shows = subst (λ m. CanShow (f.grammar m.decoder) m (f.held t)) (sym same) shows;
        also = also;
      };
    }

    -- what is held still is, or was taken out
    pub took_none : f.held t ≡ f.held s → Took []
    took_none held = let_be [] (ap (λ h. held_at (f.source s) h) (sym held))
        (subst (CanShow (grammar_of f s) (f.source s)) (sym held) ready.shows)

    pub took_held : (span : Span) → f.held s ≡ Some span → f.held t ≡ None
        → Took (bytes_at span (f.source s).reader.block.bytes ∷ [])
    took_held span is none = let_be (bytes_at span (f.source s).reader.block.bytes ∷ [])
        (ap (λ h. held_at (f.source s) h) is
        ∙ ap (λ h. bytes_at span (f.source s).reader.block.bytes ∷ held_at (f.source s) h) (sym none))
        (subst (CanShow (grammar_of f s) (f.source s)) (sym none) tt)

  none_shown : f.held t ≡ None → CanShow (grammar_of f t) (f.source t) (f.held t)
  none_shown none = subst (CanShow (grammar_of f t) (f.source t)) (sym none) tt

  -- a call of the reader leaves one
  ready_then : (answer : NextAnswer X) → NextGives answer → CanShow (grammar_of f t) (f.source t) (f.held t) → f.also t
      → IsReady f t
  ready_then answer next shows also = record {
    whole = subst (λ d. IsPieceReader (f.grammar d) (f.source t)) (sym next.went.decoder) next.whole;
    shows = shows;
    also = also;
  }

  -- the next that was buffered was taken out, or is held
  took_buffered : f.held s ≡ None → (p : List (List ℕ)) (payload : List ℕ) → payload ∷ [] ≡ p ++ held_of f t
      → CanShow (grammar_of f t) (f.source t) (f.held t) → f.also t → NextGives (Ok (Some payload))
      → (f.source t).reader ≡ (f.source s).reader → Took p
  took_buffered lacks p payload order shows also next same =
      let going = open_piece (Ok None) (f.source s).ended payload refl next.told in
      record {
        hands = hands_one remaining f s t payload p going next
            (ap (λ l. l ++ payload ∷ []) (none_held remaining f s lacks) ∙ order);
        told = ap (λ r. r.log) same;
        closed = λ ended. absurd (true≢false (sym ended ∙ going));
        leaves = ready_then (Ok (Some payload)) next shows also;
      }

  pub took_next : f.held s ≡ None → f.held t ≡ None → f.also t → (payload : List ℕ) → NextGives (Ok (Some payload))
      → (f.source t).reader ≡ (f.source s).reader → Took (payload ∷ [])
  took_next lacks none also payload = took_buffered lacks (payload ∷ []) payload
      (ap (λ l. payload ∷ l) (sym (none_held remaining f t none))) (none_shown none) also

  pub took_hold : f.held s ≡ None → (span : Span) → f.held t ≡ Some span → f.also t
      → IsLent (grammar_of f t) (f.source t).handed (f.source t).reader.block.bytes span
      → NextGives (Ok (Some (bytes_at span (f.source t).reader.block.bytes))) → (f.source t).reader ≡ (f.source s).reader
      → Took []
  took_hold lacks span is also lent = took_buffered lacks [] (bytes_at span (f.source t).reader.block.bytes)
      (ap (λ h. held_at (f.source t) h) (sym is)) (subst (CanShow (grammar_of f t) (f.source t)) (sym is) lent) also

  -- a payload was answered by these bytes; or it was dropped; or that failed
  passed : (payload reply : List ℕ) → Took (payload ∷ []) → f.answers (f.service s) payload reply (f.service t)
      → WritesInOrder (f.target s) reply (f.target t) → (¬ f.grows → (f.target t).block.capacity ≡ (f.target s).block.capacity)
      → PassWrites 0 (rules.rounds s) (λ e. f.refused e t) (rules.target s) (Ok true) (rules.target t)
      → (bytes_taken (rules.target s) < bytes_taken (rules.target t)) ⊎ (f.drops × (f.sent s → f.sent t))
      → FilterPasses rules s (Ok true) t
  passed payload reply took is taken room wrote some = record {
    told = took.told;
    ready = took.leaves;
    closed = took.closed;
    wrote = wrote;
    answers = (
      payload,
      record {
        hands = took.hands;
        takes = record {
          reply = reply;
          answers = answers_one f.answers (f.service s) (f.service t) payload reply is;
          in_order = taken;
          room = room;
        };
      },
      some,
    );
  }

  pub answered : {Refused : Error → Type 0} {need : ℕ} (payload reply : List ℕ) → Took (payload ∷ [])
      → f.answers (f.service s) payload reply (f.service t)
      → TakesAll need Refused (f.target s) reply (Ok tt) (f.target t) → need ≤ length reply → 0 < length reply
      → ((length reply ≤ (f.target s).block.capacity) ⊎ (¬ f.grows) → (f.target t).block.capacity ≡ (f.target s).block.capacity)
      → (f.target t).block.capacity ≤ (f.target s).block.capacity + length reply + rules.rounds s
      → FilterPasses rules s (Ok true) t
  answered payload reply took is takes near some kept grown = passed payload reply took is takes.taken (λ fixed. kept (inr fixed))
      (TakesAll-passed (f.target s) (f.target t) 0 (rules.rounds s) takes (omega (arith, near)) some (λ small. kept (inl small))
      grown)
      (inl (omega (arith, some, taken_more (f.target s) (f.target t) reply takes.taken)))

  pub dropped : (payload : List ℕ) → Took (payload ∷ []) → f.answers (f.service s) payload [] (f.service t)
      → f.target t ≡ f.target s → f.drops → (f.sent s → f.sent t) → FilterPasses rules s (Ok true) t
  dropped payload took is same drops sent = passed payload [] took is
      (subst (WritesInOrder (f.target s) []) (sym same) (WritesInOrder-none (f.target s))) (λ _. ap (λ u. u.block.capacity) same)
      (nothing_passed (f.target s) (f.target t) 0 (rules.rounds s) (λ e. f.refused e t) true same) (inr (drops, sent))

  pub lost : {Refused : Error → Type 0} {need : ℕ} {bytes : List ℕ} (p : List (List ℕ)) → length p ≤ f.loses → Took p
      → f.service t ≡ f.service s → (e : Error) → TakesAll need Refused (f.target s) bytes (Err e) (f.target t)
      → (Refused e → f.refused e t) → (f.target t).block.capacity ≡ (f.target s).block.capacity → FilterPasses rules s (Err e) t
  lost p few took same e takes so kept = record {
    told = took.told;
    ready = took.leaves;
    closed = took.closed;
    wrote = TakesAll-not_passed (f.target s) (f.target t) 0 (rules.rounds s) takes kept so;
    answers = (p, record { hands = took.hands; takes = takes_nothing remaining f s t same takes.taken kept }, few);
  }

  -- all was flushed, or not
  module _ (still : f.source t ≡ f.source s) (also : f.also t) (held : f.held t ≡ f.held s) (same : f.service t ≡ f.service s)
      (tells : W → StreamLog) (trace : W → W → Type 0) where
    took : Took []
    took = took_none still also held

    pub flushed : (f.drops → ¬ (f.sent s)) → (answer : Result (Unit {0}) Error)
        → WasFlushed tells trace (f.target s) answer (f.target t)
        → (OnOk answer (AllSent (f.target t)) → OnOk answer (f.sent t)) → FilterFlushes rules s answer t
    flushed unsent answer w sends = record {
      told = took.told;
      ready = took.leaves;
      closed = took.closed;
      wrote = WasFlushed-writes (f.target s) (f.target t) w;
      steps = inr w.steps;
      quiet = λ drops sent. absurd (unsent drops sent);
      moves = record { hands = took.hands; takes = takes_nothing remaining f s t same w.in_order w.capacity };
      lacks = λ lacks. (held ∙ lacks.0, subst (λ m. ¬ (Begins (f.grammar m.decoder) (rest m))) (sym still) lacks.1);
      sent = sends (WasFlushed-sent (f.target s) (f.target t) answer w);
    }

  -- none is held, and what writes and answers is let be
  module _ (lacks : f.held s ≡ None) (keeps : Keeps f s t) (also : f.also t) where
    same : f.target t ≡ f.target s
    same = keeps.target

    taken : TakesReplies f s [] t
    taken = takes_nothing remaining f s t keeps.service
        (subst (WritesInOrder (f.target s) []) (sym same) (WritesInOrder-none (f.target s))) (ap (λ u. u.block.capacity) same)

    -- none was there
    pub none_passed : f.held t ≡ None → StaysLeft (grammar_of f s) (f.source s) (f.source t)
        → ¬ (Begins (grammar_of f s) (rest (f.source s))) → FilterPasses rules s (Ok false) t
    none_passed none stays no_piece = record {
      told = ap (λ m. m.reader.log) stays.same;
      ready = record {
        whole = subst (λ d. IsPieceReader (f.grammar d) (f.source t)) (sym (ap (λ m. m.decoder) stays.same)) stays.whole;
        shows = none_shown none;
        also = also;
      };
      closed = λ ended. ap (λ m. m.ended) stays.same ∙ ended;
      wrote = nothing_passed (f.target s) (f.target t) 0 (rules.rounds s) (λ e. f.refused e t) false same;
      answers = (
        record {
          hands = hands_nothing remaining f s t []
              (StaysLeft-went remaining (grammar_of f s) (f.source s) (f.source t) stays)
              (none_held remaining f s lacks ∙ sym (none_held remaining f t none)) (ap (λ m. m.ended) stays.same) stays.stays;
          takes = taken;
        },
        (none, subst (λ m. ¬ (Begins (f.grammar m.decoder) (rest m))) (sym stays.same) no_piece),
        λ has. has lacks,
        λ _. keeps.sent,
        ap (λ u. target_of u) same,
        record { stays = stays.stays; all = λ open'. omega (arith, stays.looked open') },
      );
    }

    -- the reader was asked for the next
    module _ (going : (f.source s).ended ≡ false) where
      asked : (found : NextAnswer X) → NextGives found → CanShow (grammar_of f t) (f.source t) (f.held t)
          → HandsPieces remaining f s [] t → empty_reads (f.source t).reader ≤ empty_reads (f.source s).reader + 1
          → (answer : Result Bool (AskError E)) → OnErr answer (rules.looks s t) → AskAnswers rules s answer t
          → FilterAsks rules s answer t
      asked found next shows hands once answer looks answers = record {
        told = ap (λ u. target_of u) same;
        ready = ready_then found next shows also;
        moves = record { hands = hands; takes = taken };
        sent = keeps.sent;
        asks = (next.asked, next.went.grows);
        once = record {
          once = once;
          quiet = λ ended. absurd (true≢false (sym ended ∙ going));
          closed = λ ended. absurd (true≢false (sym ended ∙ going));
        };
        grows = next.went.grows;
        looks = looks;
        answers = answers;
      }

      some_came : (answer : NextAnswer X) → NextGives answer → came (rules.read s).reads < came (rules.read t).reads
          → SomeCame rules s t
      some_came answer next more = record {
        asks = elim next.asked [
          | inl same ↦ absurd (omega (arith, more, ap (λ l. came l.reads) same))
          | inr over ↦ over.1.some
        ];
        more = more;
      }

      -- a payload came, and is held
      pub asked_more : (span : Span) → f.held t ≡ Some span
          → IsLent (grammar_of f t) (f.source t).handed (f.source t).reader.block.bytes span
          → ¬ (Begins (grammar_of f s) (rest (f.source s)))
          → NextGives (Ok (Some (bytes_at span (f.source t).reader.block.bytes))) → FilterAsks rules s (Ok true) t
      asked_more span is lent no_piece next =
          let payload = bytes_at span (f.source t).reader.block.bytes in
          asked (Ok (Some payload)) next (subst (CanShow (grammar_of f t) (f.source t)) (sym is) lent)
          (hands_one remaining f s t payload [] going next
          (ap (λ l. l ++ payload ∷ []) (none_held remaining f s lacks) ∙ ap (λ h. held_at (f.source t) h) (sym is)))
          (elim next.answers.1 [
            | inl whole ↦ omega (arith, whole.2)
            | inr last ↦ omega (arith, MetEnd-once (f.source s) (f.source t) going last.5)
          ])
          (Ok true) tt (
            λ none. (let no : Some span ≡ None = sym is ∙ none in cc),
            next.answers.0,
            elim next.answers.1 [
              | inl whole ↦ inl (record {
                zero_reads = whole.2;
                give = omega (arith, next.gave whole.2 next.answers.0, ap length next.answers.0);
              })
              | inr last ↦ inr last.4
            ],
            some_came (Ok (Some payload)) next (more_came going no_piece payload next),
          )

      -- no payload came
      module _ (none : f.held t ≡ None) where
        asked_nothing : (found : NextAnswer X) (next : NextGives found) → next.bytes ≡ [] → (f.source t).ended ≡ false
            → empty_reads (f.source t).reader ≤ empty_reads (f.source s).reader + 1
            → (f.source s).seen ≤ (f.source t).seen → (answer : Result Bool (AskError E)) → OnErr answer (rules.looks s t)
            → AskAnswers rules s answer t → FilterAsks rules s answer t
        asked_nothing found next is open' once seen answer looks answers = asked found next (none_shown none)
            (hands_nothing remaining f s t []
            (subst (λ l. PiecesWent remaining (grammar_of f s).most (f.source s) l (f.source t)) is next.went)
            (none_held remaining f s lacks ∙ sym (none_held remaining f t none)) (open' ∙ sym going) seen)
            once answer looks answers

        pub asked_none : NextGives (Ok None) → FilterAsks rules s (Ok false) t
        asked_none next =
            let a = next.answers in
            let met = MetEnd-once (f.source s) (f.source t) going a.4 in
            asked_nothing (Ok None) next a.0 a.3 (omega (arith, met)) (omega (
              arith,
              ready.whole.handed,
              length-drop (f.source s).handed (f.source s).reader.block.bytes,
              counted next,
              ap length a.0,
              ap length a.1,
            )) (Ok false) tt
            ((none, (a.1, inr (omega (arith, met)), omega (arith, met), inr (offered_at_end next going))), a.2)

        pub asked_wrong : (e : X) → NextGives (Err (Why.Wrong e)) → (why : E) → f.wrong s why t
            → FilterAsks rules s (Err (Wrong why)) t
        asked_wrong e next why wrong =
            let a = next.answers in
            asked_nothing (Err (Why.Wrong e)) next a.0 a.2 (elim a.3 [
              | inl begins ↦ omega (arith, begins.1)
              | inr cut ↦ omega (arith, MetEnd-once (f.source s) (f.source t) going cut.3)
            ]) next.looked.stays (Err (Wrong why)) (still_seen next.looked) ((none, wrong), a.1)

        -- a read failed, behind bytes that came or none
        module _ (e : Error) (next : NextGives (Err (Why.Io e))) where
          failed : (answer : Result Bool (AskError E)) → OnErr answer (rules.looks s t)
              → (rules.waits t → Faulted (f.source s) e (f.source t) → StaysOpen rules s t → AskAnswers rules s answer t)
              → FilterAsks rules s answer t
          failed answer looks answers =
              let a = next.answers in
              let is_open = subst (λ d. IsOpen (f.grammar d) (rest (f.source t))) (sym next.went.decoder) a.1 in
              asked_nothing (Err (Why.Io e)) next a.0 a.3 (omega (arith, a.4)) next.looked.stays answer looks (answers
              (none, is_open, a.3, offered_at_fault e next) a.2
              (inl (record {
                zero_reads = a.4;
                give = gave_but_failed (IsOpen (grammar_of f s)) (f.source s) (f.source t) e next.asked a.2;
              })))

          most : (grammar_of f t).most ≡ (grammar_of f s).most
          most = ap (λ d. (f.grammar d).most) next.went.decoder

          grew : length (rest (f.source s)) ≤ length (rest (f.source t))
          grew = omega (arith, ap length next.answers.0, counted next)

          pub asked_fault : length (rest (f.source t)) < (grammar_of f s).most → (came : Bool)
              → came ≡ nat_lt (length (rest (f.source s))) (length (rest (f.source t)))
              → FilterAsks rules s (Err (if came then IoBehind e else Io e)) t
          asked_fault few false is = failed (Err (Io e)) (still_seen next.looked)
              (λ waits fault still. (waits, fault, still, grind (arith, nat_tests, is, grew, most)))
          asked_fault few true is =
              let longer : length (rest (f.source s)) < length (rest (f.source t)) = grind (arith, nat_tests, is) in
              failed (Err (IoBehind e)) (still_seen next.looked)
              (λ waits fault still. (
                waits,
                fault,
                still,
                omega (arith, longer, few, most),
                some_came (Err (Why.Io e)) next (omega (
                  arith,
                  longer,
                  next.answers.4,
                  given_more next,
                  ap length next.answers.0,
                  counted next,
                )),
              ))

-- the end is known, and the reader isn't asked
pub asked_ended : {T R D X A W E : Type 0} (remaining : R → Option (List ℕ)) (f : Piecewise T R D X A W E)
    {s : T} → IsReady f s → f.held s ≡ None → HasEnded f s → FilterAsks (piece_rules remaining f) s (Ok false) s
asked_ended remaining f {s} ready lacks ended = record {
  told = refl;
  ready = ready;
  moves = record {
    hands = (took_none remaining f ready s refl ready.also refl).hands;
    takes = takes_none remaining f s;
  };
  sent = λ sent. sent;
  asks = (inl refl, ReadLogGrows-none (f.source s).reader.log.reads);
  once = record { once = omega arith; quiet = λ closed. refl; closed = λ closed. closed };
  grows = ReadLogGrows-none (f.source s).reader.log.reads;
  looks = tt;
  answers = ((lacks, (ready.whole.ended ended, inl ended, omega arith, inl ended)), refl);
}
