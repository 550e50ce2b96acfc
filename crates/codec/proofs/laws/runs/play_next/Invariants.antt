use Rattle.std.proofs.Common.{vec_capacity}
use Rattle.codec.proofs.Playing.{PlaysSo}
use Rattle.codec.proofs.laws.runs.play_next.Given as goal

-- the answers so far are those of so many calls
abbrev pub invariant-loop : goal.invariant-loop
invariant-loop g l = PlaysSo g.P.PayloadReader.plays l.fn.answers.items l.answers.items (vec_capacity l.fn.answers)
    (vec_capacity l.answers) l.fn.reader l.counter l.reader
