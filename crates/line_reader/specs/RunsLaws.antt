-- Laws of runs: they go on by one call, what their calls do joins, and their lines are those of the text.
use Rattle.std.specs.Prelude.{◌≡◌, ℕ, List, [], ◌∷◌, ◌++◌, map, false, Option, None, Some, Ok, Err}
use Rattle.std.proofs.Common.{ap, subst, refl}
use Rattle.std.proofs.lemmas.List.{map-append}
use Rattle.piece_reader.specs.Runs as pieces
use Rattle.piece_reader.specs.Runs.{Cuts, NoneTold, all_handed}
use Rattle.piece_reader.specs.RunsLaws as pieces_laws
use Rattle.piece_reader.specs.RunsLaws.{AnswerRuns-more}
use Rattle.piece_reader.specs.Texts.{HasPieces}
use Rattle.line_reader.specs.declared.error.LineError.TheVariants.{TooLong, Io}
use Rattle.line_reader.specs.Lines.{HasLines}
use Rattle.line_reader.specs.LineReader.{LineState, lined}
use Rattle.line_reader.specs.NextLine.{LineAnswer, NextLine, piece_answer}
use Rattle.line_reader.specs.NextLineLaws.{NextLine-open}
use Rattle.line_reader.specs.TextLaws.{lines_of}
use Rattle.line_reader.specs.Runs.{LineRunWent, LineRuns}

-- the answers of a reader of pieces hand out the same, and tell an end where these do
handed_same : (answers : List LineAnswer) → all_handed (map piece_answer answers) ≡ all_handed answers
handed_same [] = refl
handed_same (Ok (Some line) ∷ answers) = ap (λ l. line ∷ l) (handed_same answers)
handed_same (Ok None ∷ answers) = handed_same answers
handed_same (Err (TooLong n) ∷ answers) = handed_same answers
handed_same (Err (Io e) ∷ answers) = handed_same answers

none_told : (answers : List LineAnswer) → NoneTold answers → NoneTold (map piece_answer answers)
none_told [] none = tt
none_told (Ok (Some line) ∷ answers) none = none_told answers none
none_told (Ok None ∷ answers) none = absurd none
none_told (Err (TooLong n) ∷ answers) none = none_told answers none
none_told (Err (Io e) ∷ answers) none = none_told answers none

-- what was handed out up to the first end of the stream is a text of just these lines
pub Cuts-text : (max : ℕ) (answers : List LineAnswer) (bytes : List ℕ) → NoneTold answers
    → Cuts (lined max) (map piece_answer (answers ++ Ok None ∷ [])) bytes → HasLines bytes (all_handed answers)
Cuts-text max answers bytes none cut =
    let has : HasPieces (lined max) bytes (all_handed (map piece_answer answers)) =
    pieces_laws.Cuts-text (lined max) (map piece_answer answers) bytes (none_told answers none)
    (subst (λ l. Cuts (lined max) l bytes) (map-append piece_answer answers (Ok None ∷ [])) cut) in
    subst (HasLines bytes) (handed_same answers) (lines_of max bytes (all_handed (map piece_answer answers)) has)

module _ {S : Type 0} (remaining : S → Option (List ℕ)) where
  pub LineRuns-more : (s : LineState S) (answers : List LineAnswer) (m : LineState S) (answer : LineAnswer) (t : LineState S)
      → LineRuns remaining s answers m → NextLine remaining m answer t → LineRuns remaining s (answers ++ answer ∷ []) t
  LineRuns-more = AnswerRuns-more (NextLine remaining)

  -- where no line is being skipped they are calls of a reader of pieces
  runs_of : (s : LineState S) (answers : List LineAnswer) (t : LineState S) → s.skipping ≡ false
      → LineRuns remaining s answers t
      → pieces.NextRuns remaining (lined s.pieces.decoder.max) s.pieces (map piece_answer answers) t.pieces
  runs_of s [] t open' run = ap (λ x. x.pieces) run
  runs_of s (answer ∷ answers) t open' run =
      let next = NextLine-open remaining s run.0 answer open' run.1 in (
        run.0.pieces,
        next.0,
        subst (λ d. pieces.NextRuns remaining (lined d.max) run.0.pieces (map piece_answer answers) t.pieces)
            next.0.went.decoder (runs_of run.0 answers t next.1 run.2),
      )

  pub LineRuns-went : (s : LineState S) (answers : List LineAnswer) (t : LineState S) → LineRuns remaining s answers t
      → LineRunWent remaining s answers t
  LineRuns-went s answers t run open' = pieces_laws.NextRuns-went remaining (lined s.pieces.decoder.max) s.pieces
      (map piece_answer answers) t.pieces (runs_of s answers t open' run)
