-- Calls of a reader of lines as they were asked for, and what was recorded of them.
use Rattle.std.specs.Prelude.{◌≡◌, ℕ, ◌<◌, ◌≤◌, ◌⊎◌, List, [], ◌∷◌, ◌++◌, length, map, Option, option_map}
use Rattle.line_reader.specs.Calls.{Call, CallGoes, Nexts, NextsBuffered, NextsTrimmed, Skips, call_lines}
use Rattle.line_reader.specs.LineReader.{LineState}
use Rattle.piece_reader.specs.Runs.{AnswerRuns, kept_answer}
use Rattle.line_play.specs.declared.calls.Ask.{Ask}
use Rattle.line_play.specs.declared.calls.Ask.TheVariants as ask
use Rattle.line_play.specs.declared.calls.Played.{Played}
use Rattle.line_play.specs.declared.calls.Played.TheVariants as played

-- a call that was recorded, by the bytes of its line
abbrev pub kept_call : Played → Call
kept_call (played.Next answer) = Nexts (kept_answer answer)
kept_call (played.NextTrimmed answer) = NextsTrimmed (kept_answer answer)
kept_call (played.NextBuffered found) = NextsBuffered (option_map (λ line. line.items) found)
kept_call (played.SkipLine answer) = Skips answer

-- what was asked for
abbrev pub asked : Call → Ask
asked (Nexts answer) = ask.Next
asked (NextsTrimmed answer) = ask.NextTrimmed
asked (NextsBuffered found) = ask.NextBuffered
asked (Skips answer) = ask.SkipLine

-- this call was made as it was asked for
pub record CallMade {S : Type 0} (remaining : S → Option (List ℕ)) (s : LineState S) (wanted : Ask) (call : Call)
    (t : LineState S) : Type 0 where
  pub asked : asked call ≡ wanted
  pub goes : CallGoes remaining s call t

-- just these calls were made, and the record gained them
pub record AsksPlayed {S : Type 0} (remaining : S → Option (List ℕ)) (s : LineState S) (asks : List Ask)
    (old new : List Call) (t : LineState S) : Type 0 where
  pub calls : List Call
  pub gained : new ≡ old ++ calls
  pub all : map asked calls ≡ asks
  pub run : AnswerRuns (CallGoes remaining) s calls t

-- the first of these calls were made, and the record gained them. It had room for so many, and was full, so no further call was
-- begun; or one more was made, and the line that it handed out is lost
pub record AsksStopped {S : Type 0} (remaining : S → Option (List ℕ)) (s : LineState S) (asks : List Ask) (room : ℕ)
    (old new : List Call) (t : LineState S) : Type 0 where
  pub calls : List Call
  pub gained : new ≡ old ++ calls
  pub next : Ask
  pub more : List Ask
  pub front : asks ≡ map asked calls ++ next ∷ more
  pub wanted : (AnswerRuns (CallGoes remaining) s calls t × (room ≤ length new))
      ⊎ ((lost : Call) × (asked lost ≡ next) × (0 < length (call_lines lost))
      × AnswerRuns (CallGoes remaining) s (calls ++ lost ∷ []) t)
