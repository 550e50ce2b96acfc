-- What the calls of a filter that answers payloads do.
use Rattle.std.proofs.Common.{◌≡◌, ℕ, inl, inr, Bool, true, false, if◌then◌else◌, nat_lt, List, [], ◌∷◌, length, Option, None, Some, Result, Ok, Err, refl, sym, ap, subst, arith, ◌∙◌}
use Rattle.std.proofs.lemmas.Bool.{true≢false}
use Rattle.std.specs.declared.io.Error.{Error}
use Rattle.buffer_redux.specs.BufWriter.{WasFlushed}
use Rattle.buffer_redux.specs.Faults.{MetInterrupts-none}
use Rattle.buffer_redux.specs.StreamLog.{StreamLog}
use Rattle.buffer_redux.specs.Buffered.{Buffered}
use Rattle.buffer_redux.specs.declared.policy.StdPolicy.{StdPolicy}
use Rattle.piece_reader.specs.Decoding.{IsLent, bytes_at}
use Rattle.piece_reader.specs.Grammar.{Begins, Grammar}
use Rattle.piece_reader.specs.NextPiece.{NextAnswer, NextPiece, StaysLeft}
use Rattle.piece_reader.specs.NextPieceLaws.{MetEnd-once}
use Rattle.piece_reader.specs.PieceReader.{ReaderState, rest}
use Rattle.piece_reader.specs.declared.decoder.Span.{Span}
use Rattle.piece_reader.specs.declared.error.NextError.TheVariants as Why
use Rattle.forward.specs.Filter.{FilterAsks, FilterFlushes, FilterPasses, FilterRules, Moves, PassAnswers}
use Rattle.forward.specs.PromptLaws.{WritesOn-none}
use Rattle.forward.specs.declared.error.AskError.TheVariants.{Wrong, Io, IoBehind}
use Rattle.programs.specs.Streams.{AllSent}
use Rattle.piece_filter.specs.Answering.{AnswersOne, IsWrongPiece, answering}
use Rattle.piece_filter.specs.AnsweringLaws.{answering_lawful}
use Rattle.piece_filter.specs.Pieces.{IsReady, Keeps, Piecewise, held_at, piece_rules}
use Rattle.piece_filter.specs.PiecesCalls as pieces
use Rattle.piece_filter.specs.PiecesLaws.{takes_none}
use Rattle.piece_filter.specs.declared.answering.Answering.{Answering}

module _ {R D X A W N : Type 0} (remaining : R → Option (List ℕ)) (grammar : D → Grammar X)
    (Answers : A → List ℕ → List ℕ → A → Type 0) {s : Answering R D W A X N}
    (ready : IsReady (answering grammar Answers) s) where
  abbrev rules : FilterRules (Answering R D W A X N) X
  rules = piece_rules remaining (answering grammar Answers)

  abbrev f : Piecewise (Answering R D W A X N) R D X A W X
  f = answering grammar Answers

  -- a payload that was held is answered
  module _ (span : Span) (held : s.held ≡ Some span) (b : A) (v : Buffered W StdPolicy) where
    abbrev payload : List ℕ
    payload = bytes_at span s.source.reader.block.bytes

    abbrev answered : Bool → Answering R D W A X N
    answered sent = record s { target = v; service = b; held = None; sent = sent }

    pub passes : AnswersOne Answers s.service payload s.target (Ok true) b v → FilterPasses rules s (Ok true) (answered false)
    passes (reply, is, some, puts) =
        pieces.answered remaining f ready (answered false) payload reply
        (pieces.took_held remaining f ready (answered false) refl (λ sent. absurd (true≢false (sym sent))) span held refl)
        is puts.takes (omega arith) some (λ fits. elim fits [ inl small ↦ puts.kept small | inr fixed ↦ absurd (fixed tt) ])
        puts.grown

    pub drops : AnswersOne Answers s.service payload s.target (Ok false) b v → FilterPasses rules s (Ok true) (answered s.sent)
    drops (is, same) =
        let still : AllSent s.target → AllSent v = subst AllSent (sym same) in
        pieces.dropped remaining f ready (answered s.sent) payload
        (pieces.took_held remaining f ready (answered s.sent) refl (λ sent. still (ready.also sent)) span held refl)
        is same tt (λ sent. (sent.0, still sent.1))

    pub refused : (e : Error) → AnswersOne Answers s.service payload s.target (Err e) b v
        → FilterPasses rules s (Err e) (record s { target = v; service = b; sent = false })
    refused e (reply, after, is, same, puts) =
        let t : Answering R D W A X N = record s { target = v; service = b; sent = false } in
        let holds = ap (λ h. held_at s.source h) held in
        pieces.lost remaining f ready t [] (omega arith)
        (pieces.took_none remaining f ready t refl (λ sent. absurd (true≢false (sym sent))) refl) same e puts.takes
        (λ room. (payload, reply, after, holds, subst (λ a. Answers a payload reply after) (sym same) is, room)) puts.refused

  -- the next was buffered, and is held; or none was
  module _ (lacks : s.held ≡ None) (m : ReaderState R D) where
    abbrev holding : Span → Answering R D W A X N
    holding span = record s { source = m; held = Some span }

    module _ (span : Span) (lent : IsLent (grammar m.decoder) m.handed m.reader.block.bytes span)
        (next : NextPiece remaining (grammar s.source.decoder) s.source (Ok (Some (bytes_at span m.reader.block.bytes))) m)
        (same : m.reader ≡ s.source.reader) where
      took : pieces.Took remaining f ready (holding span) []
      took = pieces.took_hold remaining f ready (holding span) lacks span refl ready.also lent next same

      joins : (t : Answering R D W A X N) (p q : List (List ℕ)) → Moves rules (holding span) p q t → Moves rules s p q t
      joins t p q moves = record {
        hands = (answering_lawful grammar Answers remaining).hands_joins s (holding span) t [] p took.hands moves.hands;
        takes = record {
          reply = moves.takes.reply;
          answers = moves.takes.answers;
          in_order = moves.takes.in_order;
          room = moves.takes.room;
        };
      }

      answers_behind : (t : Answering R D W A X N) (answer : Result Bool Error) → PassAnswers rules (holding span) answer t
          → PassAnswers rules s answer t
      answers_behind t (Ok true) (p, moves, some) = (p, joins t (p ∷ []) (p ∷ []) moves, some)
      answers_behind t (Ok false) (moves, none, isnt, sent, still, looks) =
          absurd (isnt (λ none. (let odd : Some span ≡ None = none in cc)))
      answers_behind t (Err e) (lost, moves, few) = (lost, joins t lost [] moves, few)

      pub passes_behind : (t : Answering R D W A X N) (answer : Result Bool Error) → FilterPasses rules (holding span) answer t
          → FilterPasses rules s answer t
      passes_behind t answer p = record {
        told = p.told ∙ took.told;
        ready = p.ready;
        closed = λ ended. p.closed (took.closed ended);
        wrote = p.wrote;
        answers = answers_behind t answer p.answers;
      }

    pub none_passes : StaysLeft (grammar s.source.decoder) s.source m → ¬ (Begins (grammar s.source.decoder) (rest s.source))
        → FilterPasses rules s (Ok false) (record s { source = m })
    none_passes stays no_piece = pieces.none_passed remaining f ready (record s { source = m }) lacks
        (record { target = refl; service = refl; sent = λ sent. sent }) ready.also lacks stays no_piece

    -- the reader was asked for the next
    module _ (going : s.source.ended ≡ false) where
      abbrev asked : Option Span → Answering R D W A X N
      asked h = record s { source = m; held = h }

      abbrev kept : (h : Option Span) → Keeps f s (asked h)
      kept h = record { target = refl; service = refl; sent = λ sent. sent }

      abbrev Next : NextAnswer X → Type 0
      Next answer = NextPiece remaining (grammar s.source.decoder) s.source answer m

      pub asked_more : (span : Span) → IsLent (grammar m.decoder) m.handed m.reader.block.bytes span
          → ¬ (Begins (grammar s.source.decoder) (rest s.source))
          → Next (Ok (Some (bytes_at span m.reader.block.bytes))) → FilterAsks rules s (Ok true) (asked (Some span))
      asked_more span lent no_piece next =
          pieces.asked_more remaining f ready (asked (Some span)) lacks (kept (Some span)) ready.also going
          span refl lent no_piece next

      pub asked_none : Next (Ok None) → FilterAsks rules s (Ok false) (asked s.held)
      asked_none next = pieces.asked_none remaining f ready (asked s.held) lacks (kept s.held) ready.also going lacks next

      pub asked_wrong : (why : X) → Next (Err (Why.Wrong why)) → FilterAsks rules s (Err (Wrong why)) (asked s.held)
      asked_wrong why next = pieces.asked_wrong remaining f ready (asked s.held) lacks (kept s.held) ready.also going lacks why
          next why (subst (λ d. IsWrongPiece (grammar d) s.source why m) (sym next.went.decoder) (elim next.answers.3 [
            | inl begins ↦ inl begins.0
            | inr (cut, is_open, some, met) ↦ inr (cut, is_open, some, omega (arith, MetEnd-once s.source m going met))
          ]))

      pub asked_fault : (e : Error) → Next (Err (Why.Io e)) → (came : Bool)
          → came ≡ nat_lt (length (rest s.source)) (length (rest m))
          → FilterAsks rules s (Err (if came then IoBehind e else Io e)) (asked s.held)
      asked_fault e next =
          let shown = next.looked.shows next.answers.1 in
          pieces.asked_fault remaining f ready (asked s.held) lacks (kept s.held) ready.also going lacks e next
          (omega (arith, shown.few, shown.most))

  -- the stream had ended
  pub asked_ended : s.held ≡ None → s.source.ended ≡ true → FilterAsks rules s (Ok false) s
  asked_ended = pieces.asked_ended remaining f ready

  -- all had been sent
  pub unflushed : s.sent ≡ true → FilterFlushes rules s (Ok tt) s
  unflushed sent = record {
    told = refl;
    ready = ready;
    closed = λ closed. closed;
    wrote = record {
      writes = WritesOn-none s.target.log.writes;
      flushes = inl refl;
      few = omega arith;
      ended = MetInterrupts-none s.target.log.writes;
      capacity = refl;
    };
    steps = inl (record { answered = refl; buffer = refl; told = refl });
    quiet = λ drops sent. refl;
    moves = record {
      hands = (answering_lawful grammar Answers remaining).hands_none s;
      takes = takes_none remaining f s;
    };
    lacks = λ lacks. lacks;
    sent = (sent, ready.also sent);
  }

  -- the writer was flushed, or that failed
  module _ (tells : W → StreamLog) (trace : W → W → Type 0) (unsent : s.sent ≡ false) (v : Buffered W StdPolicy) where
    not_sent : f.drops → ¬ (f.sent s)
    not_sent _ sent = true≢false (sym sent.0 ∙ unsent)

    pub flushed : WasFlushed tells trace s.target (Ok tt) v → FilterFlushes rules s (Ok tt) (record s { target = v; sent = true })
    flushed w =
        let t : Answering R D W A X N = record s { target = v; sent = true } in
        pieces.flushed remaining f ready t refl (λ sent. record { empty = w.ok.empty; flushed = w.ok.flushed }) refl refl
        tells trace not_sent (Ok tt) w (λ all. (refl, all))

    pub not_flushed : (e : Error) → WasFlushed tells trace s.target (Err e) v
        → FilterFlushes rules s (Err e) (record s { target = v })
    not_flushed e w =
        let t : Answering R D W A X N = record s { target = v } in
        pieces.flushed remaining f ready t refl (λ sent. absurd (true≢false (sym sent ∙ unsent))) refl refl tells trace
        not_sent (Err e) w (λ none. none)
