use Rattle.std.proofs.Common.{◌≡◌, ◌≤◌, List, ◌++◌, length, take, vec_capacity}
use Rattle.redux_buffer.specs.Block.{IsBlock}
use Rattle.redux_play.specs.declared.play.ReaderAnswer.{ReaderAnswer}
use Rattle.redux_play.specs.PlayReader.{with_handed, ReaderStep}
use Rattle.redux_play.proofs.play.play_reader.Given as goal
use Rattle.redux_play.specs.PlayRoom.{Runs}

-- the answers so far are a run of the calls so far
abbrev pub invariant-loop-call : goal.invariant-loop-call
invariant-loop-call g l = record {
  answers : List ReaderAnswer;
  gained : l.run.answers.items ≡ l.initial.run.answers.items ++ answers;
  count : length answers ≡ l.call-index;
  run : Runs (ReaderStep g.R.TellRead.remaining g.P.ReaderPolicy.rules) (with_handed l.initial.reader l.initial.run.handed.items)
      (take l.call-index l.calls) answers (with_handed l.reader l.run.handed.items);
  answers_room : vec_capacity l.initial.run.answers ≤ vec_capacity l.run.answers;
  handed_room : vec_capacity l.initial.run.handed ≤ vec_capacity l.run.handed;
  whole : IsBlock l.reader.block;
}
