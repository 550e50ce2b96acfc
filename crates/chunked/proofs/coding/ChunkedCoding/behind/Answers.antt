-- The payload is at most what is left of the chunk, so it leads to where so much less is left.
use Rattle.std.proofs.Common.{arith, length-append}
use Rattle.chunked.specs.CodingLaws.{data_leads, data_open}
use Rattle.chunked.proofs.coding.ChunkedCoding.behind.Goals as goal

pub returns-clause-leads : goal.returns-clause-leads
returns-clause-leads c follow carried =
    rw c.in-Data.is (data_leads c.args.self.now.0 c.args.payload.now c.in-Data.left (rw c.in-Data.is at carried))

pub returns-clause-still : goal.returns-clause-still
returns-clause-still c more follow carried = grind (arith, length-append, data_open)
