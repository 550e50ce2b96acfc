-- Where none was held, what is read of the buffer is the piece; where one was, it still is.
use Rattle.std.proofs.Common.{◌<◌, arith, rules}
use Rattle.bodies.specs.DecodingLaws.{hands_none}
use Rattle.bodies.proofs.decoding.hold.Goals as goal

pub returns-else-filter-eq0 : goal.returns-else-filter-eq0
returns-else-filter-eq0 g c =
    let some : 0 < c.args.filter.now.held = omega (arith, c.if-filter-eq0.false) in
    search (rules, hands_none)
