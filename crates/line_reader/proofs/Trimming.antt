-- How a line is shown without the carriage return before its end.
use Rattle.std.proofs.Common.{◌≡◌, ℕ, List, Bool, true, false, Option, Ok, Some}
use Rattle.std.specs.Bool.{OnFalse, OnTrue}
use Rattle.std.specs.Prelude.{MatchBool}
use Rattle.piece_reader.specs.Trimming.{IsTrimmed}
use Rattle.line_reader.specs.LineReader.{LineState}
use Rattle.line_reader.specs.NextLine.{NextLine, NextTrimmed}

either : (ended : Bool) (line shown : List ℕ) → OnTrue ended (shown ≡ line) → OnFalse ended (IsTrimmed line shown)
    → MatchBool ended (shown ≡ line) (IsTrimmed line shown)
either true line shown last trims = last
either false line shown last trims = trims

pub trims_line : {S : Type 0} (remaining : S → Option (List ℕ)) (s t : LineState S) (line shown : List ℕ)
    → NextLine remaining s (Ok (Some line)) t → OnTrue t.pieces.ended (shown ≡ line)
    → OnFalse t.pieces.ended (IsTrimmed line shown) → NextTrimmed remaining s (Ok (Some shown)) t
trims_line remaining s t line shown next last trims =
    record { whole = Ok (Some line); next = next; trims = either t.pieces.ended line shown last trims }
