-- What `next`, `next_buffered` and `next_trimmed` promise.
use Rattle.std.specs.Prelude.{◌≡◌, ℕ, ◌⊎◌, List, Bool, true, false, MatchBool, Option, None, Some, IfSome, Result, Ok, Err}
use Rattle.std.specs.declared.io.Error.{Error}
use Rattle.piece_reader.specs.declared.delimited.TooLong as piece
use Rattle.piece_reader.specs.declared.error.NextError.TheVariants as why
use Rattle.piece_reader.specs.NextPiece as pieces
use Rattle.piece_reader.specs.NextPiece.{NextPiece}
use Rattle.piece_reader.specs.Trimming.{IsTrimmed}
use Rattle.line_reader.specs.declared.error.LineError.{LineError}
use Rattle.line_reader.specs.declared.error.LineError.TheVariants.{TooLong, Io}
use Rattle.line_reader.specs.LineReader.{LineState, lined}
use Rattle.line_reader.specs.SkipLine.{SkipsLine}

-- what a call of `next` answers: a line, `None` at the end, or why there is no line
abbrev pub LineAnswer : Type 0
LineAnswer = Result (Option (List ℕ)) LineError

-- the same answer of a reader of pieces
abbrev pub piece_answer : LineAnswer → pieces.NextAnswer piece.TooLong
piece_answer (Ok found) = Ok found
piece_answer (Err (TooLong n)) = Err (why.Wrong (record { 0 = n }))
piece_answer (Err (Io e)) = Err (why.Io e)

-- what one call of `next` does. A line that is being skipped is skipped first: then it is a call of a reader of pieces; or the
-- skip failed, and so did the call
abbrev pub NextLine : {S : Type 0} → (S → Option (List ℕ)) → LineState S → LineAnswer → LineState S → Type 0
NextLine {S} remaining s answer t =
    ((m : LineState S)
    × (((s.skipping ≡ false) × (m ≡ s)) ⊎ ((s.skipping ≡ true) × (count : ℕ) × SkipsLine remaining s (Ok count) m))
    × NextPiece remaining (lined m.pieces.decoder.max) m.pieces (piece_answer answer) t.pieces × (t.skipping ≡ false))
    ⊎ ((s.skipping ≡ true) × (e : Error) × SkipsLine remaining s (Err e) t × (answer ≡ Err (Io e)))

-- what `next_buffered` does: what a reader of pieces does, which finds none while a line is being skipped
pub record NextBufferedLine {S : Type 0} (remaining : S → Option (List ℕ)) (s : LineState S) (found : Option (List ℕ))
    (t : LineState S)
    : Type 0 where
  pub piece : pieces.NextBuffered remaining (lined s.pieces.decoder.max) s.pieces found t.pieces
  pub open' : IfSome found (λ _. s.skipping ≡ false)
  pub skipping : t.skipping ≡ s.skipping

-- a line is shown without the carriage return before its end, and the last one, which has none, as it is
abbrev pub Trims : LineAnswer → LineAnswer → Bool → Type 0
Trims (Ok (Some line)) (Ok (Some shown)) ended = MatchBool ended (shown ≡ line) (IsTrimmed line shown)
Trims (Ok (Some line)) (Ok None) ended = ⊥
Trims (Ok (Some line)) (Err e) ended = ⊥
Trims (Ok None) answer ended = answer ≡ Ok None
Trims (Err e) answer ended = answer ≡ Err e

-- what one call of `next_trimmed` does: what `next` does, and its line is trimmed
pub record NextTrimmed {S : Type 0} (remaining : S → Option (List ℕ)) (s : LineState S) (answer : LineAnswer) (t : LineState S)
    : Type 0 where
  pub whole : LineAnswer
  pub next : NextLine remaining s whole t
  pub trims : Trims whole answer t.pieces.ended
