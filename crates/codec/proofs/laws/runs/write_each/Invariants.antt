use Rattle.std.proofs.Common.{◌≡◌}
use Rattle.codec.specs.WriteEachLaws.{WroteSo}
use Rattle.codec.proofs.laws.runs.write_each.Given as goal

-- the payloads so far were written
abbrev pub invariant-loop-payload : goal.invariant-loop-payload
invariant-loop-payload g l =
    WroteSo g.P.PayloadWriter.plays g.P.PayloadWriter.takes l.fn.writer l.payloads l.payload-index l.writer
    × (l.taken ≡ l.payload-index)
