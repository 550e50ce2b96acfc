-- Any calls over a stream that is known take the first of its lines.
use Rattle.std.specs.Prelude.{◌≡◌, ℕ, ◌+◌, ◌<◌, ◌⊎◌, List, [], ◌∷◌, ◌++◌, length, true, false, MatchBool, Bool, Option, None, Some, Ok, Err}
use Rattle.std.proofs.Common.{sym, ap, subst, ◌∙◌, refl, arith, inl, inr, append-nil, append_assoc}
use Rattle.std.proofs.lemmas.List.Concat.{flat_map-append}
use Rattle.std.specs.List.{flat_map}
use Rattle.std.proofs.lemmas.List.Elements.{All-append}
use Rattle.std.proofs.lemmas.Bool.{true≢false}
use Rattle.std.specs.Io.KnownBytes.{prepend_known}
use Rattle.std.specs.declared.io.Error.{Error}
use Rattle.buffer_redux.specs.StreamLog.{StreamLog}
use Rattle.piece_reader.specs.DelimitedLaws.{isnt_end}
use Rattle.piece_reader.specs.KnownPieces.{HasLeft, ahead_of}
use Rattle.piece_reader.specs.KnownPiecesLaws.{PiecesWent-dry, PiecesWent-front}
use Rattle.piece_reader.specs.NextPiece.{MetEnd, PiecesWent}
use Rattle.piece_reader.specs.PiecesWentLaws.{drop_none}
use Rattle.piece_reader.specs.PieceReader.{IsFresh, rest}
use Rattle.piece_reader.specs.Runs.{AnswerRuns}
use Rattle.piece_reader.specs.Trimming.{IsTrimmed}
use Rattle.line_reader.specs.declared.error.LineError.TheVariants.{TooLong, Io}
use Rattle.line_reader.specs.Calls.{Handed, Skipped, Ended, Nexts, NextsBuffered, NextsTrimmed, Skips, Call, CallGoes, Event, call_lines, event_lines, shown_lines}
use Rattle.line_reader.specs.CallsLaws.{no_line}
use Rattle.line_reader.specs.KnownCalls.{LeavesBehind, TakesLines, TookFirstLines}
use Rattle.line_reader.specs.Lines.{HasLines, IsLine, newline, with_newline}
use Rattle.line_reader.specs.LineReader.{LineState, lined}
use Rattle.line_reader.specs.NextLine.{LineAnswer, NextLine, Trims}
use Rattle.line_reader.specs.NextLineLaws.{IsHanded-fits, NextOpen, by_skipping}
use Rattle.line_reader.specs.SkipLine.{SkipsLine}
use Rattle.line_reader.specs.TextLaws.{Lines-first, Lines-last, Lines-none, Lines-same, lines-last, lines-none, lines_of}

-- parts join
TakesLines-joins : (first : List Event) (lines mid : List (List ℕ)) (then : List Event) (later : List (List ℕ))
    → TakesLines lines first mid → TakesLines mid then later → TakesLines lines (first ++ then) later
TakesLines-joins [] lines mid then later is takes = subst (λ l. TakesLines l then later) (sym is) takes
TakesLines-joins (Handed trims shown ∷ first) lines mid then later (line, more, is, shows, more_takes) takes =
    (line, more, is, shows, TakesLines-joins first more mid then later more_takes takes)
TakesLines-joins (Skipped line ∷ first) lines mid then later (more, is, more_takes) takes =
    (more, is, TakesLines-joins first more mid then later more_takes takes)
TakesLines-joins (Ended ∷ first) lines mid then later (is, more_takes) takes =
    (is, TakesLines-joins first [] mid then later more_takes takes)

module _ {S : Type 0} (remaining : S → Option (List ℕ)) where
  -- a fresh reader leaves what its stream has
  pub LeavesBehind-fresh : (tells : S → StreamLog) (least most : ℕ) (stream : S) (f : LineState S) (text : List ℕ)
      (lines : List (List ℕ)) → IsFresh tells least most stream f.pieces.decoder f.pieces → remaining stream ≡ Some text
      → HasLines text lines → LeavesBehind remaining [] f lines
  LeavesBehind-fresh tells least most stream f text lines fresh known has = record {
    text = text;
    known =
        ap (λ l. prepend_known l (remaining f.pieces.reader.inner))
        (drop_none f.pieces.handed f.pieces.reader.block.bytes fresh.empty)
        ∙ ap (λ s. prepend_known [] (remaining s)) fresh.inner ∙ ap (prepend_known []) known;
    plain = no_line;
    closed = λ _. refl;
    has = has;
    none = λ ended. (let odd : true ≡ false = sym ended ∙ fresh.ended in cc);
  }

  -- a reader that has just these lines left, which fit, leaves them
  pub LeavesBehind-of : (f : LineState S) (lines : List (List ℕ)) → HasLeft remaining (lined f.pieces.decoder.max) f.pieces lines
      → LeavesBehind remaining [] f lines
  LeavesBehind-of f lines left = record {
    text = left.text;
    known = left.known;
    plain = no_line;
    closed = λ _. refl;
    has = lines_of f.pieces.decoder.max left.text lines left.has;
    none = left.none;
  }

  -- nothing went of a line, where none is being skipped
  none_before : (f : LineState S) (before : List ℕ) (lines : List (List ℕ)) → f.skipping ≡ false
      → LeavesBehind remaining before f lines → LeavesBehind remaining [] f lines
  none_before f before lines open' b = subst (λ l. LeavesBehind remaining l f lines) (b.closed open') b

  -- the front of the lines went by these events
  front : (lines : List (List ℕ)) (t : LineState S) (events : List Event) (later : List (List ℕ)) (after : List ℕ)
      → TakesLines lines events later → LeavesBehind remaining after t later
      → TookFirstLines remaining lines (flat_map event_lines events) t
  front lines t events later after takes left =
      record { events = events; later = later; takes = takes; same = refl; before = after; left = left }

  TookFirstLines-joins : (m t : LineState S) (lines : List (List ℕ)) (handed then : List (Bool × List ℕ))
      (f : TookFirstLines remaining lines handed m)
      → TookFirstLines remaining f.later then t → TookFirstLines remaining lines (handed ++ then) t
  TookFirstLines-joins m t lines handed then f g = record {
    events = f.events ++ g.events;
    later = g.later;
    takes = TakesLines-joins f.events lines f.later g.events g.later f.takes g.takes;
    same =
        flat_map-append event_lines f.events g.events ∙ ap (λ l. l ++ flat_map event_lines g.events) f.same
        ∙ ap (λ l. handed ++ l) g.same;
    before = g.before;
    left = g.left;
  }

-- the end of the stream is behind these bytes, where it was met
abbrev Quiet : {S : Type 0} → LineState S → List ℕ → LineState S → Type 0
Quiet s after t = t.pieces.ended ≡ true → (after ≡ []) × (rest t.pieces ≡ []) × MetEnd s.pieces t.pieces

-- what is left of a known text behind some bytes that went, the last of which are the beginning of a line
module _ {S : Type 0} (remaining : S → Option (List ℕ)) (s t : LineState S) (before : List ℕ) (lines : List (List ℕ))
    (b : LeavesBehind remaining before s lines) (bytes : List ℕ)
    (went : PiecesWent remaining (1 + s.pieces.decoder.max) s.pieces bytes t.pieces) (after : List ℕ) (plain : IsLine after)
    (closed : t.skipping ≡ false → after ≡ []) (quiet : Quiet s after t) where
  abbrev all : List ℕ
  all = before ++ bytes

  abbrev behind : (more : List ℕ) × (ahead_of remaining t.pieces ≡ Some more) × (b.text ≡ bytes ++ more)
  behind = PiecesWent-front remaining _ s.pieces t.pieces b.text bytes b.known went

  has : HasLines (all ++ behind.0) lines
  has = subst (λ l. HasLines l lines) (ap (λ l. before ++ l) behind.2 ∙ sym (append_assoc before bytes behind.0)) b.has

  -- nothing is, once the end of the stream was met
  dry : rest t.pieces ≡ [] → MetEnd s.pieces t.pieces → behind.0 ≡ []
  dry none met = elim s.pieces.ended as (λ e. e ≡ s.pieces.ended → behind.0 ≡ []) [
    | true ↦ λ is. nil_behind all behind.0
        (Lines-none (all ++ behind.0) (subst (HasLines (all ++ behind.0)) (b.none (sym is)) has))
    | false ↦ λ is. PiecesWent-dry remaining _ s.pieces t.pieces b.text bytes b.known went (sym is) met ∙ none
  ] refl
    where
      nil_behind : (front more : List ℕ) → front ++ more ≡ [] → more ≡ []
      nil_behind [] more is = is
      nil_behind (byte ∷ front) more is = cc

  nothing : t.pieces.ended ≡ true → after ++ behind.0 ≡ []
  nothing ended = (let q = quiet ended in ap (λ l. l ++ behind.0) q.0 ∙ dry q.1 q.2)

  leaves : (later : List (List ℕ)) → HasLines (after ++ behind.0) later → LeavesBehind remaining after t later
  leaves later has' = record {
    text = behind.0;
    known = behind.1;
    plain = plain;
    closed = closed;
    has = has';
    none = λ ended. Lines-last [] later no_line (subst (λ l. HasLines l later) (nothing ended) has');
  }

  -- a line went, with its end or as the last one
  took_line : (line : List ℕ) → IsLine line
      → (all ≡ with_newline line ++ after) ⊎ ((all ≡ line ++ after) × (0 < length line) × (t.pieces.ended ≡ true))
      → (later : List (List ℕ)) × (lines ≡ line ∷ later) × LeavesBehind remaining after t later
  took_line line is_line (inl is) =
      let front : all ++ behind.0 ≡ line ++ newline ∷ (after ++ behind.0) =
      ap (λ l. l ++ behind.0) is ∙ append_assoc (with_newline line) after behind.0
      ∙ append_assoc line (newline ∷ []) (after ++ behind.0) in
      let first = Lines-first line (after ++ behind.0) (all ++ behind.0) lines is_line front has in
      (first.0, first.1, leaves first.0 first.2)
  took_line line is_line (inr (is, some, ended)) =
      let text : all ++ behind.0 ≡ line =
      ap (λ l. l ++ behind.0) is ∙ append_assoc line after behind.0 ∙ ap (λ l. line ++ l) (nothing ended)
      ∙ append-nil line in (
        [],
        Lines-same line lines (line ∷ []) (subst (λ l. HasLines l lines) text has) (lines-last line is_line some),
        leaves [] (subst (λ l. HasLines l []) (sym (nothing ended)) lines-none),
      )

  -- none did
  took_none : all ≡ after → LeavesBehind remaining after t lines
  took_none is = leaves lines (subst (λ l. HasLines (l ++ behind.0) lines) is has)

  -- none did, and the end was told
  took_end : all ≡ [] → after ≡ [] → rest t.pieces ≡ [] → MetEnd s.pieces t.pieces
      → (lines ≡ []) × LeavesBehind remaining after t []
  took_end is no_after none met =
      let over = dry none met in (
        Lines-last [] lines no_line (subst (λ l. HasLines l lines) (ap (λ l. l ++ behind.0) is ∙ over) has),
        leaves [] (subst (λ l. HasLines l []) (sym (ap (λ l. l ++ behind.0) no_after ∙ over)) lines-none),
      )

-- one call of `next` where no line is being skipped
module _ {S : Type 0} (remaining : S → Option (List ℕ)) (s t : LineState S) (lines : List (List ℕ))
    (b : LeavesBehind remaining [] s lines) where
  next_quiet : (answer : LineAnswer) → NextOpen remaining s answer t → Quiet s [] t
  next_quiet (Ok (Some line)) (next, open') ended = elim next.answers.1 [
    | inl (is, going, none) ↦ absurd (true≢false (sym ended ∙ going))
    | inr (is, part, some, none, told, met) ↦ (refl, none, met)
  ]
  next_quiet (Ok None) (next, open') ended = absurd (true≢false (sym ended ∙ next.answers.3))
  next_quiet (Err (TooLong most)) (next, open') ended = absurd (true≢false (sym ended ∙ next.answers.2))
  next_quiet (Err (Io e)) (next, open') ended = absurd (true≢false (sym ended ∙ next.answers.3))

  takes_one : (line : List ℕ) → NextOpen remaining s (Ok (Some line)) t
      → (later : List (List ℕ)) × (lines ≡ line ∷ later) × LeavesBehind remaining [] t later
  takes_one line n =
      let next = n.0 in
      let fits = IsHanded-fits s.pieces.decoder.max s.pieces t.pieces line next.bytes next.answers.1 in
      took_line remaining s t [] lines b next.bytes next.went [] no_line (λ _. refl) (next_quiet (Ok (Some line)) n) line
      fits.plain (elim next.answers.1 [
        | inl (is, going, none) ↦ inl (is.2 ∙ sym (append-nil (with_newline line)))
        | inr (is, part, some, none, ended, met) ↦
            inr (sym is ∙ sym (append-nil line), omega (arith, some, ap length is), ended)
      ])

  stays : (answer : LineAnswer) (n : NextOpen remaining s answer t) → n.0.bytes ≡ [] → TookFirstLines remaining lines [] t
  stays answer n none =
      front remaining lines t [] lines [] refl
      (took_none remaining s t [] lines b n.0.bytes n.0.went [] no_line (λ _. refl) (next_quiet answer n) none)

  next_takes : (answer : LineAnswer) → NextOpen remaining s answer t → TookFirstLines remaining lines (shown_lines false answer) t
  next_takes (Ok (Some line)) n =
      let one = takes_one line n in
      front remaining lines t (Handed false line ∷ []) one.0 [] (line, one.0, one.1, inr refl, refl) one.2
  next_takes (Ok None) n =
      let a = n.0.answers in
      let end = took_end remaining s t [] lines b n.0.bytes n.0.went [] no_line (λ _. refl) (next_quiet (Ok None) n) a.0 refl
      a.1 a.4 in
      front remaining lines t (Ended ∷ []) [] [] (end.0, refl) end.1
  next_takes (Err (TooLong most)) n = stays (Err (TooLong most)) n n.0.answers.0
  next_takes (Err (Io e)) n = stays (Err (Io e)) n n.0.answers.0

  either_shown : (ended : Bool) (line shown : List ℕ) → MatchBool ended (shown ≡ line) (IsTrimmed line shown)
      → IsTrimmed line shown ⊎ (shown ≡ line)
  either_shown true line shown same = inr same
  either_shown false line shown trims = inl trims

  trimmed_takes : (whole answer : LineAnswer) → NextOpen remaining s whole t → Trims whole answer t.pieces.ended
      → TookFirstLines remaining lines (shown_lines true answer) t
  trimmed_takes (Ok (Some line)) (Ok (Some shown)) n trims =
      let one = takes_one line n in
      front remaining lines t (Handed true shown ∷ []) one.0 []
      (line, one.0, one.1, either_shown t.pieces.ended line shown trims, refl) one.2
  trimmed_takes (Ok (Some line)) (Ok None) n trims = absurd trims
  trimmed_takes (Ok (Some line)) (Err e) n trims = absurd trims
  trimmed_takes (Ok None) answer n trims =
      subst (λ a. TookFirstLines remaining lines (shown_lines true a) t) (sym trims) (next_takes (Ok None) n)
  trimmed_takes (Err e) answer n trims =
      subst (λ a. TookFirstLines remaining lines (shown_lines true a) t) (sym trims) (next_takes (Err e) n)

-- a skip, or the part of a call that goes on skipping
module _ {S : Type 0} (remaining : S → Option (List ℕ)) (s t : LineState S) (before : List ℕ) (lines : List (List ℕ))
    (b : LeavesBehind remaining before s lines) where
  skip_takes : (count : ℕ) → SkipsLine remaining s (Ok count) t → TookFirstLines remaining lines [] t
  skip_takes count k =
      let bytes = k.drops.bytes in
      elim k.drops.answers.2 [
        | inl (w, going, met) ↦
            (let line = before ++ w.line in
            let is : before ++ bytes ≡ with_newline line ++ [] =
            ap (λ l. before ++ l) w.equal ∙ sym (append_assoc before w.line (newline ∷ []))
            ∙ sym (append-nil (with_newline line)) in
            let quiet : Quiet s [] t = λ ended. absurd (true≢false (sym ended ∙ going)) in
            let one = took_line remaining s t before lines b bytes k.drops.went [] no_line (λ _. refl) quiet line
            (All-append (isnt_end newline) before w.line b.plain w.plain) (inl is) in
            front remaining lines t (Skipped line ∷ []) one.0 [] (one.0, one.1, refl) one.2)
        | inr (plain, none, ended, met) ↦
            through (before ++ bytes) refl (All-append (isnt_end newline) before bytes b.plain plain) none ended met
      ]
    where
      -- to the end of the stream
      through : (all : List ℕ) → all ≡ before ++ k.drops.bytes → IsLine all → rest t.pieces ≡ [] → t.pieces.ended ≡ true
          → MetEnd s.pieces t.pieces → TookFirstLines remaining lines [] t
      through [] is plain none ended met =
          front remaining lines t [] lines [] refl
          (took_none remaining s t before lines b k.drops.bytes k.drops.went [] no_line (λ _. refl) (λ _. (refl, none, met))
          (sym is))
      through (byte ∷ more) is plain none ended met =
          let line = byte ∷ more in
          let one = took_line remaining s t before lines b k.drops.bytes k.drops.went [] no_line (λ _. refl)
          (λ _. (refl, none, met)) line plain (inr (sym is ∙ sym (append-nil line), omega arith, ended)) in
          front remaining lines t (Skipped line ∷ []) one.0 [] (one.0, one.1, refl) one.2

  skip_failed_takes : (e : Error) → SkipsLine remaining s (Err e) t → TookFirstLines remaining lines [] t
  skip_failed_takes e k =
      let bytes = k.drops.bytes in
      let plain = All-append (isnt_end newline) before bytes b.plain k.drops.answers.0 in
      front remaining lines t [] lines (before ++ bytes) refl
      (took_none remaining s t before lines b bytes k.drops.went (before ++ bytes) plain
      (λ open'. absurd (true≢false (sym k.skipping ∙ open'))) (λ ended. absurd (true≢false (sym ended ∙ k.drops.answers.2))) refl)

module _ {S : Type 0} (remaining : S → Option (List ℕ)) where
  -- a call that goes on skipping first
  goes_takes : (s t : LineState S) (before : List ℕ) (lines : List (List ℕ)) (handed : List (Bool × List ℕ))
      → LeavesBehind remaining before s lines → (answer : LineAnswer)
      → ((m : LineState S) (some : List (List ℕ)) → LeavesBehind remaining [] m some → NextOpen remaining m answer t
      → TookFirstLines remaining some handed t)
      → ((e : Error) → answer ≡ Err (Io e) → handed ≡ []) → NextLine remaining s answer t
      → TookFirstLines remaining lines handed t
  goes_takes s t before lines handed b answer then still =
      by_skipping remaining s t answer (TookFirstLines remaining lines handed t)
      (λ open' next. then s lines (none_before remaining s before lines open' b) next)
      (λ m count is skips next.
      let first = skip_takes remaining s m before lines b count skips in
      TookFirstLines-joins remaining m t lines [] handed first
      (then m first.later (none_before remaining m first.before first.later skips.skipping first.left) next))
      (λ e is skips fails. subst (λ l. TookFirstLines remaining lines l t) (sym (still e fails))
      (skip_failed_takes remaining s t before lines b e skips))

  call_takes : (s : LineState S) (call : Call) (t : LineState S) → CallGoes remaining s call t → (before : List ℕ)
      (lines : List (List ℕ)) → LeavesBehind remaining before s lines → TookFirstLines remaining lines (call_lines call) t
  call_takes s (Nexts answer) t goes before lines b =
      goes_takes s t before lines (shown_lines false answer) b answer (λ m some has n. next_takes remaining m t some has answer n)
      (λ e is. ap (shown_lines false) is) goes
  call_takes s (NextsTrimmed answer) t n before lines b =
      goes_takes s t before lines (shown_lines true answer) b n.whole
      (λ m some has line. trimmed_takes remaining m t some has n.whole answer line n.trims)
      (λ e is. ap (shown_lines true) (subst (λ w. Trims w answer t.pieces.ended) is n.trims)) n.next
  call_takes s (NextsBuffered (Some line)) t n before lines b =
      next_takes remaining s t lines (none_before remaining s before lines n.open' b) (Ok (Some line))
      (n.piece.0, n.skipping ∙ n.open')
  call_takes s (NextsBuffered None) t n before lines b =
      let stays = n.piece.0 in
      front remaining lines t [] lines before refl (record {
        text = b.text;
        known = ap (λ x. ahead_of remaining x) stays.same ∙ b.known;
        plain = b.plain;
        closed = λ open'. b.closed (sym n.skipping ∙ open');
        has = b.has;
        none = λ ended. b.none (sym (ap (λ x. x.ended) stays.same) ∙ ended);
      })
  call_takes s (Skips (Ok count)) t k before lines b = skip_takes remaining s t before lines b count k
  call_takes s (Skips (Err e)) t k before lines b = skip_failed_takes remaining s t before lines b e k

  -- any calls, one after another
  pub Calls-takes : (s : LineState S) (calls : List Call) (t : LineState S) → AnswerRuns (CallGoes remaining) s calls t
      → (before : List ℕ) (lines : List (List ℕ)) → LeavesBehind remaining before s lines
      → TookFirstLines remaining lines (flat_map call_lines calls) t
  Calls-takes s [] t same before lines b = record {
    events = [];
    later = lines;
    takes = refl;
    same = refl;
    before = before;
    left = subst (λ x. LeavesBehind remaining before x lines) same b;
  }
  Calls-takes s (call ∷ calls) t (m, goes, run) before lines b =
      let first = call_takes s call m goes before lines b in
      TookFirstLines-joins remaining m t lines (call_lines call) (flat_map call_lines calls) first
      (Calls-takes m calls t run first.before first.later first.left)
