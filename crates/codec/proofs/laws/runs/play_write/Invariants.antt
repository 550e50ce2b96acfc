use Rattle.std.proofs.Common.{vec_capacity}
use Rattle.codec.proofs.Playing.{WritesSo}
use Rattle.codec.proofs.laws.runs.play_write.Given as goal

-- the answers so far are those of the payloads so far
abbrev pub invariant-loop-payload : goal.invariant-loop-payload
invariant-loop-payload g l = WritesSo g.P.PayloadWriter.plays l.fn.answers.items l.answers.items
    (vec_capacity l.fn.answers) (vec_capacity l.answers) l.fn.writer l.payloads l.payload-index l.writer
