-- What one call of a reader of lines did, for the proofs of those who call it.
use Rattle.std.specs.Prelude.{◌≡◌, ℕ, ◌+◌, ◌<◌, ◌⊎◌, List, [], ◌∷◌, ◌++◌, length, take, true, false, Option, None, Some, Result, Ok, Err, option_copied}
use Rattle.std.proofs.Common.{sym, ap, subst, ◌∙◌, arith, refl, inl, inr, append_assoc, length-append}
use Rattle.std.proofs.lemmas.Bool.{cases_lt}
use Rattle.std.specs.Borrow.{Bor}
use Rattle.std.specs.IoError.{error_kind}
use Rattle.std.specs.declared.io.Error.{Error}
use Rattle.std.specs.declared.io.ErrorKind.TheVariants.{Other}
use Rattle.piece_reader.specs.DelimitedLaws.{delimited_lawful}
use Rattle.piece_reader.specs.Grammar.{Begins}
use Rattle.piece_reader.specs.NextPiece.{Faulted, NoFault, StaysLeft, answer_of}
use Rattle.piece_reader.specs.NextPieceLaws.{AsksNone-settled}
use Rattle.piece_reader.specs.PiecesWentLaws.{PiecesWent-unasked}
use Rattle.piece_reader.specs.PieceReader.{rest}
use Rattle.line_reader.specs.declared.error.LineError.{LineError}
use Rattle.line_reader.specs.declared.error.LineError.TheVariants.{TooLong, Io}
use Rattle.line_reader.specs.Calls.{Event, LinesAlong, Skipped, events_of}
use Rattle.line_reader.specs.CallsLaws.{IsSkip, LinesAlong-joins, NextLine-along, Trims-along, no_line, skip_along, skip_last, skip_whole}
use Rattle.line_reader.specs.CallsWentLaws.{ended_empty}
use Rattle.line_reader.specs.Lines.{BeginsTooLong, IsLine, newline, with_newline}
use Rattle.line_reader.specs.LinesLaws.{front_plain, line_or_end, line_or_long, no-end-within, too_long-append}
use Rattle.line_reader.specs.LineReader.{HasLine, IsLineReader, LineState, lined}
use Rattle.line_reader.specs.NextLine.{LineAnswer, NextBufferedLine, NextLine, NextTrimmed, Trims, piece_answer}
use Rattle.line_reader.specs.NextLineLaws.{NextLine-open, NextOpen, NextPiece-long, by_skipping}
use Rattle.line_reader.specs.SkipLine.{SkipsLine}

-- why a call failed: this error is the one fault that the stream met; or more than 2^63 bytes of a line were dropped
abbrev LineFails : {S : Type 0} → LineState S → Error → LineState S → Type 0
LineFails s e t = Faulted s.pieces e t.pieces ⊎ (NoFault s.pieces t.pieces × (error_kind e ≡ Other))

module _ {S : Type 0} (remaining : S → Option (List ℕ)) (s t : LineState S) where
  -- the arms of `match reader.next()`
  pub NextLine-some : (r : Result (Option (Bor (List ℕ))) LineError) (found : Option (Bor (List ℕ))) (line : Bor (List ℕ))
      → r ≡ Ok found → found ≡ Some line → NextLine remaining s (answer_of r) t
      → NextLine remaining s (Ok (Some line.now)) t
  NextLine-some r found line is found_is = subst (λ r. NextLine remaining s (answer_of r) t) (is ∙ ap (λ x. Ok x) found_is)

  pub NextLine-none : (r : Result (Option (Bor (List ℕ))) LineError) (found : Option (Bor (List ℕ)))
      → r ≡ Ok found → found ≡ None → NextLine remaining s (answer_of r) t → NextLine remaining s (Ok None) t
  NextLine-none r found is found_is = subst (λ r. NextLine remaining s (answer_of r) t) (is ∙ ap (λ x. Ok x) found_is)

  pub NextLine-err : (r : Result (Option (Bor (List ℕ))) LineError) (error e : LineError)
      → r ≡ Err error → error ≡ e → NextLine remaining s (answer_of r) t → NextLine remaining s (Err e) t
  NextLine-err r error e is error_is = subst (λ r. NextLine remaining s (answer_of r) t) (is ∙ ap (λ x. Err x) error_is)

  -- the arms of `match reader.next_trimmed()`
  pub NextTrimmed-some : (r : Result (Option (Bor (List ℕ))) LineError) (found : Option (Bor (List ℕ)))
      (line : Bor (List ℕ)) → r ≡ Ok found → found ≡ Some line → NextTrimmed remaining s (answer_of r) t
      → NextTrimmed remaining s (Ok (Some line.now)) t
  NextTrimmed-some r found line is found_is =
      subst (λ r. NextTrimmed remaining s (answer_of r) t) (is ∙ ap (λ x. Ok x) found_is)

  pub NextTrimmed-none : (r : Result (Option (Bor (List ℕ))) LineError) (found : Option (Bor (List ℕ)))
      → r ≡ Ok found → found ≡ None → NextTrimmed remaining s (answer_of r) t → NextTrimmed remaining s (Ok None) t
  NextTrimmed-none r found is found_is =
      subst (λ r. NextTrimmed remaining s (answer_of r) t) (is ∙ ap (λ x. Ok x) found_is)

  pub NextTrimmed-err : (r : Result (Option (Bor (List ℕ))) LineError) (error e : LineError)
      → r ≡ Err error → error ≡ e → NextTrimmed remaining s (answer_of r) t → NextTrimmed remaining s (Err e) t
  NextTrimmed-err r error e is error_is =
      subst (λ r. NextTrimmed remaining s (answer_of r) t) (is ∙ ap (λ x. Err x) error_is)

  -- the arms of `match reader.next_buffered()`
  pub NextBufferedLine-some : (r : Option (Bor (List ℕ))) (line : Bor (List ℕ)) → r ≡ Some line
      → NextBufferedLine remaining s (option_copied r) t
      → NextOpen remaining s (Ok (Some line.now)) t × (t.pieces.reader ≡ s.pieces.reader)
  NextBufferedLine-some r line is n =
      let found = subst (λ r. NextBufferedLine remaining s (option_copied r) t) is n in
      ((found.piece.0, found.skipping ∙ found.open'), found.piece.1)

  pub NextBufferedLine-none : (r : Option (Bor (List ℕ))) → r ≡ None → NextBufferedLine remaining s (option_copied r) t
      → StaysLeft (lined s.pieces.decoder.max) s.pieces t.pieces × ¬ (Begins (lined s.pieces.decoder.max) (rest s.pieces))
      × (t.skipping ≡ s.skipping)
  NextBufferedLine-none r is n =
      let none = subst (λ r. NextBufferedLine remaining s (option_copied r) t) is n in
      (none.piece.0, none.piece.1, none.skipping)

  -- an `Err` of `next_trimmed` is one of `next`
  trimmed_err : (whole : LineAnswer) (e : LineError) → NextLine remaining s whole t → Trims whole (Err e) t.pieces.ended
      → NextLine remaining s (Err e) t
  trimmed_err (Ok (Some line)) e next trims = absurd trims
  trimmed_err (Ok None) e next trims = (let odd : Err e ≡ Ok None = trims in cc)
  trimmed_err (Err x) e next trims = subst (λ a. NextLine remaining s a t) (sym trims) next

  pub NextTrimmed-fails : (e : LineError) → NextTrimmed remaining s (Err e) t → NextLine remaining s (Err e) t
  NextTrimmed-fails e n = trimmed_err n.whole e n.next n.trims

  -- where no line is being skipped none is then
  pub NextTrimmed-open : (answer : LineAnswer) → s.skipping ≡ false → NextTrimmed remaining s answer t
      → t.skipping ≡ false
  NextTrimmed-open answer open' n = (NextLine-open remaining s t n.whole open' n.next).1

  -- what was taken by one call
  pub NextTrimmed-along : (answer : LineAnswer) → s.skipping ≡ false → NextTrimmed remaining s answer t
      → LinesAlong remaining [] s (events_of true answer) [] t
  NextTrimmed-along answer open' n =
      Trims-along remaining s t n.whole answer (NextLine-open remaining s t n.whole open' n.next) n.trims

  -- why it failed
  pub SkipsLine-failed : (e : Error) → SkipsLine remaining s (Err e) t → LineFails s e t
  SkipsLine-failed e k = elim k.drops.answers.4 [
    | inl fault ↦ inl fault
    | inr (none, other, above) ↦ inr (none, other)
  ]

  pub NextLine-failed : (e : Error) → NextLine remaining s (Err (Io e)) t → LineFails s e t
  NextLine-failed e = by_skipping remaining s t (Err (Io e)) (LineFails s e t) (λ open' next. inl next.0.answers.2)
      (λ m count is skips next. inl (next.0.answers.2 ∙ ap (λ l. l ++ e ∷ []) skips.drops.answers.1))
      (λ x is skips fails.
      let same : e ≡ x = (let odd : Err (Io e) ≡ Err (Io x) = fails in cc) in
      subst (λ x. LineFails s x t) (sym same) (SkipsLine-failed x skips))

  pub NextTrimmed-failed : (e : Error) → NextTrimmed remaining s (Err (Io e)) t → LineFails s e t
  NextTrimmed-failed e n = NextLine-failed e (NextTrimmed-fails (Io e) n)

-- an end of a line settles what the next call answers
pub HasLine-end : {S : Type 0} (s : LineState S) → s.skipping ≡ false → ¬ (IsLine (rest s.pieces)) → HasLine s
HasLine-end s open' isnt =
    let max = s.pieces.decoder.max in
    elim (line_or_end (rest s.pieces)) [
      | inl plain ↦ absurd (isnt plain)
      | inr (line, more, plain, equal) ↦ record {
        open' = open';
        settled = inr (elim (line_or_long max (rest s.pieces) line more plain equal) [
          | inl begins ↦ inl begins
          | inr long ↦ inr (record { 0 = max }, (long.above, long.plain, refl))
        ]);
      }
    ]

module _ {S : Type 0} (remaining : S → Option (List ℕ)) (s t : LineState S) where
  -- where the next call answers without the stream, it does
  pub NextLine-quiet : (answer : LineAnswer) → HasLine s → NextLine remaining s answer t
      → t.pieces.reader.log ≡ s.pieces.reader.log
  NextLine-quiet answer has line =
      let max = s.pieces.decoder.max in
      AsksNone-settled remaining (lined max) (delimited_lawful newline max) s.pieces has.settled (piece_answer answer) t.pieces
      (NextLine-open remaining s t answer has.open' line).0

  pub NextTrimmed-quiet : (answer : LineAnswer) → HasLine s → NextTrimmed remaining s answer t
      → t.pieces.reader.log ≡ s.pieces.reader.log
  NextTrimmed-quiet answer has n = NextLine-quiet n.whole has n.next

  -- `skip_line` asks nobody where an end of a line is buffered, or the stream has ended
  pub SkipsLine-quiet : (answer : Result ℕ Error) → (s.pieces.ended ≡ true) ⊎ (¬ (IsLine (rest s.pieces)))
      → SkipsLine remaining s answer t → t.pieces.reader.log ≡ s.pieces.reader.log
  SkipsLine-quiet answer why k = elim k.drops.asked [
    | inl same ↦ same
    | inr over ↦ elim why [
      | inl ended ↦ (let odd : true ≡ false = sym ended ∙ over.0 in cc)
      | inr isnt ↦ absurd (isnt (front_plain (rest s.pieces) over.1.came over.1.such))
    ]
  ]

module _ {S : Type 0} (remaining : S → Option (List ℕ)) (s t : LineState S) (whole : IsLineReader s) (count : ℕ)
    (k : SkipsLine remaining s (Ok count) t) where
  -- what one call of `skip_line` took
  pub SkipsLine-along : (events : List Event) × IsSkip events × LinesAlong remaining [] s events [] t
  SkipsLine-along = skip_along remaining s t [] no_line (λ _. refl) (ended_empty s whole) count k

-- a line that is too long, and then skipped
module _ {S : Type 0} (remaining : S → Option (List ℕ)) (s m t : LineState S) (max : ℕ) (open' : s.skipping ≡ false)
    (met : NextLine remaining s (Err (TooLong max)) m) where
  refused : NextOpen remaining s (Err (TooLong max)) m
  refused = NextLine-open remaining s m (Err (TooLong max)) open' met

  module _ (count : ℕ) (k : SkipsLine remaining m (Ok count) t) where
    not_ended : m.pieces.ended ≡ true → (rest m.pieces ≡ []) × (m.skipping ≡ false)
    not_ended ended = (let odd : true ≡ false = sym ended ∙ refused.0.answers.2 in cc)

    abbrev most : ℕ
    most = s.pieces.decoder.max

    still_long : BeginsTooLong most (k.drops.bytes ++ rest t.pieces)
    still_long =
        let hands = k.drops.went.hands in
        let long = (NextPiece-long remaining most s.pieces m.pieces (record { 0 = max }) refused.0).0 in
        subst (BeginsTooLong most) (sym hands.equal) (too_long-append most (rest m.pieces) hands.got long)

    whole_long : (line : List ℕ) → k.drops.bytes ≡ with_newline line → most < length line
    whole_long line equal = elim (cases_lt most (length line)) [
      | inl long ↦ long
      | inr fits ↦ absurd (no-end-within line (rest t.pieces) most fits (subst (λ l. IsLine (take (1 + most) l))
          (ap (λ l. l ++ rest t.pieces) equal ∙ append_assoc line (newline ∷ []) (rest t.pieces)) still_long.plain))
    ]

    last_long : rest t.pieces ≡ [] → most < length k.drops.bytes
    last_long none = omega (arith, still_long.above, length-append k.drops.bytes (rest t.pieces), ap length none)

    -- that line was skipped
    pub TooLong-along : (line : List ℕ) × (s.pieces.decoder.max < length line)
        × LinesAlong remaining [] s (Skipped line ∷ []) [] t
    TooLong-along =
        let first = NextLine-along remaining s m (Err (TooLong max)) refused in
        elim k.drops.answers.2 [
          | inl (w, going, end) ↦ (
            w.line,
            whole_long w.line w.equal,
            LinesAlong-joins remaining s m t [] [] [] [] (Skipped w.line ∷ []) first
                (skip_whole remaining m t [] no_line (λ _. refl) not_ended count k going w.line w.plain w.equal),
          )
          | inr (plain, none, ended, end) ↦ (
            k.drops.bytes,
            last_long none,
            LinesAlong-joins remaining s m t [] [] [] [] (Skipped k.drops.bytes ∷ []) first
                (skip_last remaining m t [] no_line (λ _. refl) not_ended count k plain ended end
                (omega (arith, last_long none))),
          )
        ]

    pub TooLong-taken : (events : List Event) × IsSkip events × LinesAlong remaining [] s events [] t
    TooLong-taken = (Skipped TooLong-along.0 ∷ [], inl (TooLong-along.0, refl), TooLong-along.2)

  -- the stream isn't asked where the end of the line is buffered
  pub TooLong-quiet : (answer : Result ℕ Error) → SkipsLine remaining m answer t → ¬ (IsLine (rest s.pieces))
      → t.pieces.reader.log ≡ s.pieces.reader.log
  TooLong-quiet answer k isnt =
      let first = NextLine-quiet remaining s m (Err (TooLong max)) (HasLine-end s open' isnt) met in
      let same : rest m.pieces ≡ rest s.pieces =
      ap (λ l. l ++ rest m.pieces) (sym refused.0.answers.0)
      ∙ PiecesWent-unasked remaining _ s.pieces m.pieces refused.0.bytes refused.0.went first in
      SkipsLine-quiet remaining m t answer (inr (λ plain. isnt (subst IsLine same plain))) k ∙ first
