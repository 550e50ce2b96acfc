-- A chunk that the capacity has no room for is begun, and its payload goes on in it, unless the line didn't go in.
use Rattle.std.proofs.Common.{◌≡◌, ◌+◌, ◌<◌, length, ap, subst, arith}
use Rattle.chunked.specs.ChunkedWriter.{IsChunkedWriter, around}
use Rattle.chunked.proofs.Going.{not_begun, wrote_begun}
use Rattle.chunked.proofs.writer.ChunkedWriter.write_cold.Goals as goal
use Rattle.chunked.proofs.writer.ChunkedWriter.write_cold.Goals.{After-begin}

between : (g : _) (c : After-begin g) → c.args.self.now.due ≡ 0
between g c = omega (arith, c.if-self-gt0.false, ap (λ x. x.due) c.self.view_is)

large : (g : _) (c : After-begin g) → c.args.self.now.writer.block.capacity < around + length c.args.payload.now
large g c = grind arith

pub returns-in-Ok-clause-writes : goal.returns-in-Ok-clause-writes
returns-in-Ok-clause-writes g c =
    let at = (goal.at.returns-in-Ok-clause-writes g c).After-begin in
    let s = c.args.self.now in
    wrote_begun g.W.Tell.log g.W.TellWrite.trace g.met.W.TellWrite.trace_none g.met.W.TellWrite.trace_joins s
    c.args.payload.now c.requires.some (subst IsChunkedWriter c.self.view_is c.self.invariant) (between g at) (large g at)
    c.begin.new.self (rw c.min.ensures at c.in-Ok.ensures.begins) c.go_on-in-Ok.result c.go_on-in-Ok.new.self
    c.go_on-in-Ok.ensures.went

pub returns-in-Err-clause-writes : goal.returns-in-Err-clause-writes
returns-in-Err-clause-writes g c =
    let at = (goal.at.returns-in-Err-clause-writes g c).After-begin in
    let s = c.args.self.now in
    not_begun g.W.Tell.log g.W.TellWrite.trace g.met.W.TellWrite.trace_none g.met.W.TellWrite.trace_joins s
    c.args.payload.now c.requires.some (subst IsChunkedWriter c.self.view_is c.self.invariant) (between g at) (large g at)
    c.in-Err.e c.begin.new.self (rw c.min.ensures at c.in-Err.ensures.begins) c.in-Err.ensures.whole
