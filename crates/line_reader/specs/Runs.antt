-- Runs of calls of `next`, and what they come to.
use Rattle.std.specs.Prelude.{◌≡◌, ℕ, List, map, false, Option}
use Rattle.piece_reader.specs.KnownPayloads as known
use Rattle.piece_reader.specs.Runs as pieces
use Rattle.piece_reader.specs.Runs.{AnswerRuns}
use Rattle.line_reader.specs.LineReader.{LineState, lined}
use Rattle.line_reader.specs.NextLine.{LineAnswer, NextLine, piece_answer}

-- calls of `next`, one after another, with these answers
abbrev pub LineRuns : {S : Type 0} → (S → Option (List ℕ)) → LineState S → List LineAnswer → LineState S → Type 0
LineRuns remaining = AnswerRuns (NextLine remaining)

-- each of these lines was handed out by a call, and one more call told the end
abbrev pub AllLinesRead : {S : Type 0} → (S → Option (List ℕ)) → LineState S → List (List ℕ) → LineState S → Type 0
AllLinesRead remaining = known.AllRead (LineRuns remaining)

-- what they come to: where no line was being skipped, what such calls of a reader of pieces do
abbrev pub LineRunWent : {S : Type 0} → (S → Option (List ℕ)) → LineState S → List LineAnswer → LineState S → Type 0
LineRunWent remaining s answers t = s.skipping ≡ false
    → pieces.RunWent remaining (lined s.pieces.decoder.max) s.pieces (map piece_answer answers) t.pieces
