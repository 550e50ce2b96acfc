-- What a call of a reader of pieces comes to in a reader of lines.
use Rattle.std.proofs.Common.{[], ◌≡◌, ℕ, ◌+◌, ◌<◌, ◌≤◌, List, ◌∷◌, ◌++◌, length, length-append, length-drop, take, true, false, Option, Ok, Err, Some, None, inl, inr, refl, sym, ap, subst, ◌∙◌, arith, append_assoc}
use Rattle.piece_reader.specs.declared.decoder.Span.{Span}
use Rattle.piece_reader.specs.DelimitedLaws.{delimited_lawful}
use Rattle.piece_reader.specs.Grammar.{Begins}
use Rattle.piece_reader.specs.NextPiece.{NextPiece, StaysLeft, load_answer}
use Rattle.piece_reader.specs.NextPieceLaws.{NextPiece-ready, NextPiece-refused, NextPiece-wrong}
use Rattle.piece_reader.specs.PieceReader.{IsPieceReader, IsSettled, ReaderState, rest}
use Rattle.piece_reader.specs.StaysLeftLaws.{StaysLeft-next}
use Rattle.line_reader.specs.declared.error.LineError.TheVariants.{TooLong, Io}
use Rattle.line_reader.specs.declared.line.Lines.{Lines}
use Rattle.line_reader.specs.Lines.{BeginsTooLong, IsLine, newline, with_newline}
use Rattle.line_reader.specs.LinesLaws.{line_or_end, line_or_long, take_plain}
use Rattle.line_reader.specs.LineReader.{IsLineReader, LineState, lined}
use Rattle.line_reader.specs.NextLine.{LineAnswer, NextBufferedLine, NextLine, piece_answer}
use Rattle.line_reader.specs.NextLineLaws.{IsHanded-fits, NextLine-of, NextLine-open, NextOpen, by_skipping, same_long, same_none, same_some}

-- where no line that fits stands there, the bytes are a part of one, or too long
module _ (max : ℕ) (bytes : List ℕ) (none : ¬ (Begins (lined max) bytes)) where
  long_plain : max < length bytes → IsLine (take (1 + max) bytes)
  long_plain above = elim (line_or_end bytes) [
    | inl plain ↦ take_plain (1 + max) bytes plain
    | inr (line, more, plain, equal) ↦ elim (line_or_long max bytes line more plain equal) [
      | inl begins ↦ absurd (none begins)
      | inr long ↦ long.plain
    ]
  ]

module _ {S : Type 0} (f : LineState S) (whole : IsLineReader f) where
  -- no line is being skipped where something is left, or an end that no call has told
  open_where : (f.skipping ≡ true → ⊥) → f.skipping ≡ false
  open_where never = elim f.skipping as (λ b. b ≡ f.skipping → b ≡ false) [
    | true ↦ λ is. absurd (never (sym is))
    | false ↦ λ _. refl
  ] refl

  pub open_left : 0 < length (rest f.pieces) → f.skipping ≡ false
  open_left some = open_where (λ is. omega (arith, some, ap length (whole.skipped is)))

  pub settled_open : IsSettled (lined f.pieces.decoder.max) f.pieces → f.skipping ≡ false
  settled_open (inl ended) = open_where (λ is. let odd : true ≡ false = sym ended ∙ whole.goes_on is in cc)
  settled_open (inr (inl b)) = open_left (omega (
    arith,
    ap length b.equal,
    length-append b.piece b.more,
    (delimited_lawful newline f.pieces.decoder.max).some b.piece b.payload b.is,
  ))
  settled_open (inr (inr (e, wrong))) = open_left (omega (arith, wrong.0))

module _ {S : Type 0} (remaining : S → Option (List ℕ)) where
  -- a line that is too long is refused as it stands
  pub NextLine-long : (s : LineState S) → IsLineReader s → s.skipping ≡ false → s.pieces.decoder.max < length (rest s.pieces)
      → ¬ (Begins (lined s.pieces.decoder.max) (rest s.pieces))
      → NextLine remaining s (Err (TooLong s.pieces.decoder.max)) s
  NextLine-long s whole open' above none =
      let max = s.pieces.decoder.max in
      NextLine-of remaining s s (Err (TooLong max)) open' (
        NextPiece-refused remaining (lined max) s.pieces whole.whole (omega (arith, above)) (record { 0 = max })
            (above, long_plain max (rest s.pieces) none above, refl),
        open',
      )

  -- an `Ok` of a reader of lines is one of a reader of pieces
  pub piece_loaded : (s t : ReaderState S Lines) (found : Option Span)
      → NextPiece remaining (lined s.decoder.max) s (load_answer (Ok found) t) t
      → NextPiece remaining (lined s.decoder.max) s (piece_answer (load_answer (Ok found) t)) t
  piece_loaded s t (Some span) next = next
  piece_loaded s t None next = next

  -- a line that was buffered was handed out
  pub NextLine-found : (s t : LineState S) (line : List ℕ) → NextBufferedLine remaining s (Some line) t
      → NextLine remaining s (Ok (Some line)) t
  NextLine-found s t line found =
      NextLine-of remaining s t (Ok (Some line)) found.open' (found.piece.0, found.skipping ∙ found.open')

  -- where nothing is left a look finds nothing
  looked_none : (s m : ReaderState S Lines) → IsPieceReader (lined s.decoder.max) s → rest s ≡ []
      → StaysLeft (lined s.decoder.max) s m → m ≡ s
  looked_none s m whole none stays =
      let left = length-drop s.handed s.reader.block.bytes in
      let same : m.seen ≡ s.seen = omega (
        arith,
        whole.handed,
        left,
        ap length none,
        stays.whole.handed,
        ap (λ x. x.handed) stays.same,
        ap (λ x. length x.reader.block.bytes) stays.same,
      ) in
      stays.same ∙ ap (λ n. record s { seen = n }) same

  -- behind a look that found no line a call is what it would have been before
  pub NextLine-looked : (s m t : LineState S) (answer : LineAnswer) → IsLineReader s → NextBufferedLine remaining s None m
      → NextLine remaining m answer t → NextLine remaining s answer t
  NextLine-looked s m t answer whole looked next = elim s.skipping as (λ b. b ≡ s.skipping → NextLine remaining s answer t) [
    | true ↦ λ is.
        let same = looked_none s.pieces m.pieces whole.whole (whole.skipped (sym is)) looked.piece.0 in
        let all : m ≡ s =
        ap (λ p. record m { pieces = p }) same ∙ ap (λ b. record s { skipping = b }) looked.skipping in
        subst (λ x. NextLine remaining x answer t) all next
    | false ↦ λ is.
        let step = NextLine-open remaining m t answer (looked.skipping ∙ sym is) next in
        let grammar = ap (λ x. x.decoder) looked.piece.0.same in
        NextLine-of remaining s t answer (sym is) (
          StaysLeft-next remaining (lined s.pieces.decoder.max) s.pieces m.pieces looked.piece.0 t.pieces (piece_answer answer)
              (subst (λ d. NextPiece remaining (lined d.max) m.pieces (piece_answer answer) t.pieces) grammar step.0),
          step.1,
        )
  ] refl

  -- what each answer of `next` says
  module _ (s t : LineState S) (answer : LineAnswer) (whole : IsLineReader s) (next : NextLine remaining s answer t) where
    abbrev max : ℕ
    max = s.pieces.decoder.max

    -- where no line is being skipped
    by_open : (P : Type 0) → (NextOpen remaining s answer t → P) → s.skipping ≡ false → P
    by_open P then open' = then (NextLine-open remaining s t answer open' next)

    NextLine-ready : (line more : List ℕ) → IsLine line → length line ≤ max → rest s.pieces ≡ line ++ newline ∷ more
        → answer ≡ Ok (Some line)
    NextLine-ready line more plain fits front =
        by_open (answer ≡ Ok (Some line))
        (λ step. same_some answer line
        (NextPiece-ready remaining (lined max) (delimited_lawful newline max) s.pieces (piece_answer answer) t.pieces step.0
        (with_newline line) line more (plain, fits, refl)
        (front ∙ sym (append_assoc line (newline ∷ []) more))).0)
        (open_left s whole (omega (arith, ap length front, length-append line (newline ∷ more))))

    NextLine-too_long : BeginsTooLong max (rest s.pieces) → answer ≡ Err (TooLong max)
    NextLine-too_long long =
        by_open (answer ≡ Err (TooLong max))
        (λ step. same_long answer (record { 0 = max })
        (NextPiece-wrong remaining (lined max) (delimited_lawful newline max) s.pieces (piece_answer answer) t.pieces step.0
        (record { 0 = max }) (long.above, long.plain, refl)).0)
        (open_left s whole (omega (arith, long.above)))

    NextLine-told : s.pieces.ended ≡ true → answer ≡ Ok None
    NextLine-told ended =
        by_open (answer ≡ Ok None) (λ step. same_none answer (step.0.told ended)) (settled_open s whole (inl ended))

    -- all of that, how it begins, and that it fits
    pub NextLine-says : (Starts Fits : Type 0) → Starts → Fits → record {
      begins : Starts;
      fits : Fits;
      ready : (line more : List ℕ) → IsLine line → length line ≤ max → rest s.pieces ≡ line ++ newline ∷ more
          → answer ≡ Ok (Some line);
      too_long : BeginsTooLong max (rest s.pieces) → answer ≡ Err (TooLong max);
      ended : s.pieces.ended ≡ true → answer ≡ Ok None;
      after_borrow : Unit {0};
    }
    NextLine-says Starts Fits starts fits = record {
      begins = starts;
      fits = fits;
      ready = NextLine-ready;
      too_long = NextLine-too_long;
      ended = NextLine-told;
      after_borrow = tt;
    }

  -- a line that is lent fits
  pub NextLine-fits : (s t : LineState S) (line : List ℕ) → NextLine remaining s (Ok (Some line)) t
      → length line ≤ s.pieces.decoder.max
  NextLine-fits s t line = by_skipping remaining s t (Ok (Some line)) (length line ≤ s.pieces.decoder.max)
      (λ open' next. fits s next)
      (λ m count is skips next. omega (arith, fits m next, ap (λ d. d.max) skips.drops.went.decoder))
      (λ e is skips fails. let odd : Ok (Some line) ≡ Err (Io e) = fails in cc)
    where
      fits : (m : LineState S) → NextOpen remaining m (Ok (Some line)) t → length line ≤ m.pieces.decoder.max
      fits m next = (IsHanded-fits m.pieces.decoder.max m.pieces t.pieces line next.0.bytes next.0.answers.1).fits
