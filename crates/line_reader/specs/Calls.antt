-- Calls of `next`, `next_trimmed`, `next_buffered` and `skip_line` in any order, with any answers, and the lines that they hand
-- out and skip.
use Rattle.std.specs.Prelude.{◌≡◌, ℕ, ◌+◌, ◌<◌, ◌≤◌, ◌⊎◌, List, [], ◌∷◌, ◌++◌, length, map, Bool, true, false, MatchBool, Option, None, Some, Result, Ok, Err}
use Rattle.std.specs.List.{flat_map, sum_by}
use Rattle.std.specs.declared.io.Error.{Error}
use Rattle.piece_reader.specs.NextPiece.{PiecesWent, empty_reads}
use Rattle.piece_reader.specs.Runs.{handed_payload}
use Rattle.piece_reader.specs.Trimming.{IsTrimmed}
use Rattle.line_reader.specs.Lines.{IsLine, with_newline}
use Rattle.line_reader.specs.LineReader.{LineState}
use Rattle.line_reader.specs.NextLine.{LineAnswer, NextBufferedLine, NextLine, NextTrimmed}
use Rattle.line_reader.specs.SkipLine.{SkipsLine}

-- what calls come to: a line was handed out, trimmed or not, of which this was shown; a line was skipped; or the end of the
-- stream was told
pub data Event : Type 0 where
  Handed : Bool → List ℕ → Event
  Skipped : List ℕ → Event
  Ended : Event

-- the next event, if there is one, is the end of the stream; else the stream has ended, which no call has told yet
abbrev pub EndNext : Bool → List Event → Type 0
EndNext ended [] = ended ≡ true
EndNext ended (Handed trims shown ∷ events) = ⊥
EndNext ended (Skipped line ∷ events) = ⊥
EndNext ended (Ended ∷ events) = Unit {0}

-- these bytes begin with a line without an end, before an end of the stream
abbrev pub WithoutEnd : Bool → List Event → List ℕ → List ℕ → List ℕ → Type 0
WithoutEnd ended events line bytes more = (bytes ≡ line ++ more) × (0 < length line) × EndNext ended events

-- this is shown of a line with its end, which is trimmed or not
abbrev pub Shows : Bool → List ℕ → List ℕ → Type 0
Shows trims line shown = MatchBool trims (IsTrimmed line shown) (shown ≡ line)

-- these bytes, cut at the ends of lines, are the lines of the events, in order, and then the beginning of a line, of which
-- the end hasn't come
abbrev pub CutsInto : Bool → List Event → List ℕ → List ℕ → Type 0
CutsInto ended [] after bytes = IsLine bytes × (bytes ≡ after)
CutsInto ended (Handed trims shown ∷ events) after bytes =
    (line : List ℕ) × (more : List ℕ) × IsLine line
    × (((bytes ≡ with_newline line ++ more) × Shows trims line shown)
    ⊎ (WithoutEnd ended events line bytes more × (shown ≡ line)))
    × CutsInto ended events after more
CutsInto ended (Skipped line ∷ events) after bytes =
    (more : List ℕ) × IsLine line × ((bytes ≡ with_newline line ++ more) ⊎ WithoutEnd ended events line bytes more)
    × CutsInto ended events after more
CutsInto ended (Ended ∷ events) after bytes = CutsInto ended events after bytes

-- how many lines were skipped, and how many ends told
abbrev pub event_skips : Event → ℕ
event_skips (Handed trims shown) = 0
event_skips (Skipped line) = 1
event_skips Ended = 0

abbrev pub event_ends : Event → ℕ
event_ends (Handed trims shown) = 0
event_ends (Skipped line) = 0
event_ends Ended = 1

-- a line that is being skipped, or an end that is to be told, counts for one
abbrev pub pending : Bool → ℕ
pending true = 1
pending false = 0

-- what any calls do, one after another: what went of a line that was being skipped before them, and the bytes that they took,
-- are the lines of these events, in order, and then what went of a line that is being skipped. An end of the stream that no
-- call has told comes first, and no more ends are told than the stream had
pub record LinesAlong {S : Type 0} (remaining : S → Option (List ℕ)) (before : List ℕ) (s : LineState S)
    (events : List Event) (after : List ℕ) (t : LineState S) : Type 0 where
  pub bytes : List ℕ
  pub went : PiecesWent remaining (1 + s.pieces.decoder.max) s.pieces bytes t.pieces
  pub cut : CutsInto t.pieces.ended events after (before ++ bytes)
  pub closed : t.skipping ≡ false → after ≡ []
  pub told : s.pieces.ended ≡ true → EndNext t.pieces.ended events
  pub ends : sum_by event_ends events + pending t.pieces.ended + empty_reads s.pieces.reader
      ≤ empty_reads t.pieces.reader + pending s.pieces.ended

-- what an answer that shows lines, trimmed or not, comes to where no line is being skipped
abbrev pub events_of : Bool → LineAnswer → List Event
events_of trims (Ok (Some shown)) = Handed trims shown ∷ []
events_of trims (Ok None) = Ended ∷ []
events_of trims (Err e) = []

-- a call, with its answer
pub data Call : Type 0 where
  Nexts : LineAnswer → Call
  NextsTrimmed : LineAnswer → Call
  NextsBuffered : Option (List ℕ) → Call
  Skips : Result ℕ Error → Call

-- what it does
abbrev pub CallGoes : {S : Type 0} → (S → Option (List ℕ)) → LineState S → Call → LineState S → Type 0
CallGoes remaining s (Nexts answer) t = NextLine remaining s answer t
CallGoes remaining s (NextsTrimmed answer) t = NextTrimmed remaining s answer t
CallGoes remaining s (NextsBuffered found) t = NextBufferedLine remaining s found t
CallGoes remaining s (Skips answer) t = SkipsLine remaining s answer t

-- the lines that they hand out, and whether each is trimmed
abbrev pub shown_lines : Bool → LineAnswer → List (Bool × List ℕ)
shown_lines trims answer = map (λ shown. (trims, shown)) (handed_payload answer)

abbrev pub call_lines : Call → List (Bool × List ℕ)
call_lines (Nexts answer) = shown_lines false answer
call_lines (NextsTrimmed answer) = shown_lines true answer
call_lines (NextsBuffered found) = shown_lines false (Ok found)
call_lines (Skips answer) = []

abbrev pub event_lines : Event → List (Bool × List ℕ)
event_lines (Handed trims shown) = (trims, shown) ∷ []
event_lines (Skipped line) = []
event_lines Ended = []

-- whether a call asks for a skip
abbrev pub call_asks : Call → ℕ
call_asks (Nexts answer) = 0
call_asks (NextsTrimmed answer) = 0
call_asks (NextsBuffered found) = 0
call_asks (Skips answer) = 1

-- what calls come to that hand out these lines and ask so often for a skip, behind so many bytes of a line that was being
-- skipped. No more lines are skipped than it was asked for
pub record CallsWent {S : Type 0} (remaining : S → Option (List ℕ)) (before : List ℕ) (s : LineState S)
    (lines : List (Bool × List ℕ)) (asks : ℕ) (t : LineState S) : Type 0 where
  pub events : List Event
  pub after : List ℕ
  pub along : LinesAlong remaining before s events after t
  pub handed : flat_map event_lines events ≡ lines
  pub few : sum_by event_skips events + pending t.skipping ≤ asks + pending s.skipping
