-- What any calls come to, whatever they answer.
use Rattle.std.specs.Prelude.{◌≡◌, ℕ, ◌+◌, ◌≤◌, List, [], ◌∷◌, ◌++◌, length, Bool, true, false, Option, None, Some, Ok, Err}
use Rattle.std.proofs.Common.{sym, ap, subst, ◌∙◌, arith, refl, inl, inr}
use Rattle.std.proofs.lemmas.List.Concat.{flat_map-append}
use Rattle.std.proofs.lemmas.List.Sums.{sum_by-append, sum_by-cons}
use Rattle.std.specs.List.{flat_map, sum_by}
use Rattle.std.specs.declared.io.Error.{Error}
use Rattle.piece_reader.specs.PiecesWentLaws.{PiecesWent-none}
use Rattle.piece_reader.specs.PieceReader.{rest}
use Rattle.piece_reader.specs.Runs.{AnswerRuns}
use Rattle.line_reader.specs.declared.error.LineError.TheVariants.{Io}
use Rattle.line_reader.specs.Calls.{Nexts, NextsBuffered, NextsTrimmed, Skips, Call, CallGoes, CallsWent, LinesAlong, call_asks, call_lines, event_lines, event_skips, events_of, shown_lines, pending}
use Rattle.line_reader.specs.CallsLaws.{CutsInto-after, LinesAlong-joins, LinesAlong-still, NextBufferedLine-along, NextBufferedLine-stays, NextLine-along, Trims-along, skip_along, skip_fails}
use Rattle.line_reader.specs.Lines.{IsLine}
use Rattle.line_reader.specs.LineReader.{LineState, IsLineReader}
use Rattle.line_reader.specs.NextLine.{LineAnswer, NextLine, Trims}
use Rattle.line_reader.specs.NextLineLaws.{NextBufferedLine-whole, NextLine-whole, NextOpen, SkipsLine-whole, by_skipping}
use Rattle.line_reader.specs.SkipLine.{SkipsLine}

lines_shown : (trims : Bool) (answer : LineAnswer) → (flat_map event_lines (events_of trims answer) ≡ shown_lines trims answer)
    × (sum_by event_skips (events_of trims answer) ≡ 0)
lines_shown trims (Ok (Some shown)) = (refl, refl)
lines_shown trims (Ok None) = (refl, refl)
lines_shown trims (Err e) = (refl, refl)

-- where the stream has ended nothing is left, and no line is being skipped
pub ended_empty : {S : Type 0} (s : LineState S) → IsLineReader s → s.pieces.ended ≡ true
    → (rest s.pieces ≡ []) × (s.skipping ≡ false)
ended_empty s whole ended = (
  whole.whole.ended ended,
  elim s.skipping as (λ b. b ≡ s.skipping → b ≡ false) [
    | true ↦ λ is. (let odd : true ≡ false = sym ended ∙ whole.goes_on (sym is) in cc)
    | false ↦ λ is. refl
  ] refl,
)

module _ {S : Type 0} (remaining : S → Option (List ℕ)) where
  CallsWent-none : (s : LineState S) (before : List ℕ) → IsLine before → (s.skipping ≡ false → before ≡ [])
      → CallsWent remaining before s [] 0 s
  CallsWent-none s before plain closed = record {
    events = [];
    after = before;
    along = LinesAlong-still remaining s s before plain closed
        (PiecesWent-none remaining (1 + s.pieces.decoder.max) s.pieces) refl;
    handed = refl;
    few = omega arith;
  }

  CallsWent-joins : (s m t : LineState S) (before : List ℕ) (lines later : List (Bool × List ℕ)) (asks more : ℕ)
      (c : CallsWent remaining before s lines asks m) → CallsWent remaining c.after m later more t
      → CallsWent remaining before s (lines ++ later) (asks + more) t
  CallsWent-joins s m t before lines later asks more c d = record {
    events = c.events ++ d.events;
    after = d.after;
    along = LinesAlong-joins remaining s m t before c.after d.after c.events d.events c.along d.along;
    handed =
        flat_map-append event_lines c.events d.events ∙ ap (λ l. l ++ flat_map event_lines d.events) c.handed
        ∙ ap (λ l. lines ++ l) d.handed;
    few = omega (arith, c.few, d.few, sum_by-append event_skips c.events d.events);
  }

  -- one call of `next`, or of `next_trimmed`, where no line is being skipped
  goes_plain : (trims : Bool) (s t : LineState S) (answer : LineAnswer) → t.skipping ≡ false
      → LinesAlong remaining [] s (events_of trims answer) [] t → CallsWent remaining [] s (shown_lines trims answer) 0 t
  goes_plain trims s t answer open' along = record {
    events = events_of trims answer;
    after = [];
    along = along;
    handed = (lines_shown trims answer).0;
    few = omega (arith, (lines_shown trims answer).1, ap pending open');
  }

  module _ (s t : LineState S) (before : List ℕ) (plain : IsLine before) (closed : s.skipping ≡ false → before ≡ [])
      (whole : IsLineReader s) where
    -- a skip that ends, and one that fails
    skip_ends : (count : ℕ) (k : SkipsLine remaining s (Ok count) t) (asks : ℕ) → 1 ≤ asks + pending s.skipping
        → CallsWent remaining before s [] asks t
    skip_ends count k asks enough =
        let skip = skip_along remaining s t before plain closed (ended_empty s whole) count k in
        let one : (flat_map event_lines skip.0 ≡ []) × (sum_by event_skips skip.0 ≤ 1) = elim skip.1 [
          | inl (line, is) ↦ (ap (λ l. flat_map event_lines l) is, omega (arith, ap (λ l. sum_by event_skips l) is))
          | inr is ↦ (ap (λ l. flat_map event_lines l) is, omega (arith, ap (λ l. sum_by event_skips l) is))
        ] in
        record {
          events = skip.0;
          after = [];
          along = skip.2;
          handed = one.0;
          few = omega (arith, enough, one.1, ap pending k.skipping);
        }

    skip_failed : (e : Error) (k : SkipsLine remaining s (Err e) t) (asks : ℕ) → 1 ≤ asks + pending s.skipping
        → CallsWent remaining before s [] asks t
    skip_failed e k asks enough = record {
      events = [];
      after = before ++ k.drops.bytes;
      along = skip_fails remaining s t before plain closed (ended_empty s whole) e k;
      handed = refl;
      few = omega (arith, enough, ap pending k.skipping);
    }

  -- a call that goes on skipping first
  skips_first : (s t : LineState S) (before : List ℕ) → IsLine before → (s.skipping ≡ false → before ≡ []) → IsLineReader s
      → (answer : LineAnswer) (lines : List (Bool × List ℕ))
      → ((m : LineState S) → NextOpen remaining m answer t → CallsWent remaining [] m lines 0 t)
      → ((e : Error) → answer ≡ Err (Io e) → lines ≡ []) → NextLine remaining s answer t
      → CallsWent remaining before s lines 0 t
  skips_first s t before plain closed whole answer lines then still =
      by_skipping remaining s t answer (CallsWent remaining before s lines 0 t)
      (λ open' next. subst (λ l. CallsWent remaining l s lines 0 t) (sym (closed open')) (then s next))
      (λ m count is skips next.
      let first = skip_ends s m before plain closed whole count skips 0 (omega (arith, ap pending is)) in
      CallsWent-joins s m t before [] lines 0 0 first
      (subst (λ l. CallsWent remaining l m lines 0 t) (sym (first.along.closed skips.skipping)) (then m next)))
      (λ e is skips fails. subst (λ l. CallsWent remaining before s l 0 t) (sym (still e fails))
      (skip_failed s t before plain closed whole e skips 0 (omega (arith, ap pending is))))

  -- one call
  pub CallGoes-went : (s : LineState S) (call : Call) (t : LineState S) → CallGoes remaining s call t → (before : List ℕ)
      → IsLine before → (s.skipping ≡ false → before ≡ []) → IsLineReader s
      → CallsWent remaining before s (call_lines call) (call_asks call) t
  CallGoes-went s (Nexts answer) t goes before plain closed whole =
      skips_first s t before plain closed whole answer (shown_lines false answer)
      (λ m n. goes_plain false m t answer n.1 (NextLine-along remaining m t answer n))
      (λ e is. ap (shown_lines false) is) goes
  CallGoes-went s (NextsTrimmed answer) t n before plain closed whole =
      skips_first s t before plain closed whole n.whole (shown_lines true answer)
      (λ m line. goes_plain true m t answer line.1 (Trims-along remaining m t n.whole answer line n.trims))
      (λ e is. ap (shown_lines true) (subst (λ w. Trims w answer t.pieces.ended) is n.trims)) n.next
  CallGoes-went s (NextsBuffered (Some line)) t n before plain closed whole =
      subst (λ l. CallsWent remaining l s ((false, line) ∷ []) 0 t) (sym (closed n.open'))
      (goes_plain false s t (Ok (Some line)) (n.skipping ∙ n.open') (NextBufferedLine-along remaining s t line n))
  CallGoes-went s (NextsBuffered None) t n before plain closed whole = record {
    events = [];
    after = before;
    along = NextBufferedLine-stays remaining s t before plain closed n;
    handed = refl;
    few = omega (arith, ap pending n.skipping);
  }
  CallGoes-went s (Skips (Ok count)) t k before plain closed whole =
      skip_ends s t before plain closed whole count k 1 (omega arith)
  CallGoes-went s (Skips (Err e)) t k before plain closed whole =
      skip_failed s t before plain closed whole e k 1 (omega arith)

  call_whole : (s : LineState S) (call : Call) (t : LineState S) → CallGoes remaining s call t → IsLineReader s
      → IsLineReader t
  call_whole s (Nexts answer) t goes whole = NextLine-whole remaining s t answer goes
  call_whole s (NextsTrimmed answer) t n whole = NextLine-whole remaining s t n.whole n.next
  call_whole s (NextsBuffered found) t n whole = NextBufferedLine-whole remaining s t found whole n
  call_whole s (Skips answer) t k whole = SkipsLine-whole remaining s t answer k

  -- what any come to
  pub Calls-went : (s : LineState S) (calls : List Call) (t : LineState S) → AnswerRuns (CallGoes remaining) s calls t
      → (before : List ℕ) → IsLine before → (s.skipping ≡ false → before ≡ []) → IsLineReader s
      → CallsWent remaining before s (flat_map call_lines calls) (sum_by call_asks calls) t
  Calls-went s [] t same before plain closed whole =
      subst (CallsWent remaining before s [] 0) same (CallsWent-none s before plain closed)
  Calls-went s (call ∷ calls) t (m, goes, run) before plain closed whole =
      let first = CallGoes-went s call m goes before plain closed whole in
      subst (λ n. CallsWent remaining before s (call_lines call ++ flat_map call_lines calls) n t)
      (sym (sum_by-cons call_asks call calls))
      (CallsWent-joins s m t before (call_lines call) (flat_map call_lines calls) (call_asks call) (sum_by call_asks calls) first
      (Calls-went m calls t run first.after
      (CutsInto-after m.pieces.ended first.events first.after (before ++ first.along.bytes) first.along.cut) first.along.closed
      (call_whole s call m goes whole)))
