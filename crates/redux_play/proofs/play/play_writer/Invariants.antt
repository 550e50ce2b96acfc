use Rattle.std.proofs.Common.{◌≡◌, ◌≤◌, List, ◌++◌, length, take, vec_capacity}
use Rattle.redux_buffer.specs.Block.{IsBlock}
use Rattle.redux_play.specs.declared.play.WriterAnswer.{WriterAnswer}
use Rattle.redux_play.proofs.play.play_writer.Given as goal
use Rattle.redux_play.specs.PlayRoom.{Runs}
use Rattle.redux_play.specs.PlayWriter.{WriterStep}

-- the answers so far are a run of the calls so far
abbrev pub invariant-loop-call : goal.invariant-loop-call
invariant-loop-call g l = record {
  answers : List WriterAnswer;
  gained : l.run.answers.items ≡ l.initial.run.answers.items ++ answers;
  count : length answers ≡ l.call-index;
  run : Runs (WriterStep g.W.Tell.log g.W.TellWrite.trace g.P.WriterPolicy.rules) l.initial.writer
      (take l.call-index l.calls) answers l.writer;
  room : vec_capacity l.initial.run.answers ≤ vec_capacity l.run.answers;
  whole : IsBlock l.writer.block;
}
