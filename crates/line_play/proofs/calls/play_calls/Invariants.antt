use Rattle.std.proofs.Common.{◌≡◌, ◌≤◌, List, ◌++◌, map, take, vec_capacity}
use Rattle.piece_reader.specs.Runs.{AnswerRuns}
use Rattle.line_reader.specs.Calls.{Call, CallGoes}
use Rattle.line_play.specs.Played.{asked, kept_call}
use Rattle.line_play.proofs.calls.play_calls.Given as goal

-- the first of the calls were made, and were recorded
abbrev pub invariant-loop-ask : goal.invariant-loop-ask
invariant-loop-ask g l = record {
  calls : List Call;
  gained : map kept_call l.played.items ≡ map kept_call l.fn.played.items ++ calls;
  asked : map asked calls ≡ take l.ask-index l.fn.asks;
  capacity : vec_capacity l.fn.played ≤ vec_capacity l.played;
  run : AnswerRuns (CallGoes g.R.TellRead.remaining) l.fn.reader calls l.reader;
}
