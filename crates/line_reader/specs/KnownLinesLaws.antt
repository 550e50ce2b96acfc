-- What a call of `next` answers where it is known which lines are left.
use Rattle.std.specs.Prelude.{◌≡◌, ℕ, List, [], ◌∷◌, false, Option, None, Some, Ok, Err}
use Rattle.std.proofs.Common.{ap, refl}
use Rattle.piece_reader.specs.declared.error.NextError.TheVariants as why
use Rattle.piece_reader.specs.DelimitedLaws.{delimited_lawful}
use Rattle.piece_reader.specs.KnownPayloads.{AnswersKnown}
use Rattle.piece_reader.specs.KnownPieces.{HasLeft}
use Rattle.piece_reader.specs.KnownPiecesLaws.{NextPiece-answers}
use Rattle.line_reader.specs.declared.error.LineError.TheVariants.{TooLong, Io}
use Rattle.line_reader.specs.declared.line.Lines.{Lines}
use Rattle.line_reader.specs.Lines.{newline}
use Rattle.line_reader.specs.LineReader.{LineState, lined}
use Rattle.line_reader.specs.NextLine.{LineAnswer, NextLine, piece_answer}
use Rattle.line_reader.specs.NextLineLaws.{NextLine-open}

module _ {S : Type 0} (remaining : S → Option (List ℕ)) (s : LineState S) where
  -- just these lines are left, and each of them fits; no line is being skipped
  abbrev LinesLeft : LineState S → List (List ℕ) → Type 0
  LinesLeft f lines = HasLeft remaining (lined f.pieces.decoder.max) f.pieces lines × (f.skipping ≡ false)

  abbrev KnownAs : (answer : LineAnswer) → List (List ℕ) → LineState S → Type 0
  KnownAs answer lines t =
      AnswersKnown (λ f. HasLeft remaining (lined f.decoder.max) f) (λ f. f.reader.log.reads.faults) why.Io s.pieces
      (piece_answer answer) lines t.pieces

  lines_known : (answer : LineAnswer) (lines : List (List ℕ)) (t : LineState S) → KnownAs answer lines t → t.skipping ≡ false
      → AnswersKnown LinesLeft (λ f. f.pieces.reader.log.reads.faults) Io s answer lines t
  lines_known (Ok (Some found)) [] t a open' = a
  lines_known (Ok (Some found)) (line ∷ later) t a open' = (a.0, (a.1, open'), a.2)
  lines_known (Ok None) [] t a open' = (a, open')
  lines_known (Ok None) (line ∷ later) t a open' = a
  lines_known (Err (TooLong n)) lines t a open' = (let odd = a.0.1 in cc)
  lines_known (Err (Io e)) lines t a open' = (
    (e, refl),
    (a.1, open'),
    λ x is. a.2 x (let same : e ≡ x = cc in ap (λ y. why.Io y) same),
  )

  pub NextLine-answers : (answer : LineAnswer) (lines : List (List ℕ)) (t : LineState S) → LinesLeft s lines
      → NextLine remaining s answer t
      → AnswersKnown LinesLeft (λ f. f.pieces.reader.log.reads.faults) Io s answer lines t
  NextLine-answers answer lines t left line =
      let next = NextLine-open remaining s t answer left.1 line in
      let grammar = λ (d : Lines). lined d.max in
      lines_known answer lines t
      (NextPiece-answers remaining grammar (λ d. delimited_lawful newline d.max) s.pieces t.pieces (piece_answer answer) lines
      left.0 next.0) next.1
