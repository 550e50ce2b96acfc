-- The flush of the writer of chunks answers, and takes in no payload.
use Rattle.std.proofs.Common.{rules}
use Rattle.bodies.specs.Words.{WasFlushed-sent, WasFlushed-writes}
use Rattle.bodies.specs.EncodingLaws.{HandsReads-none}
use Rattle.bodies.proofs.encoding.EncodingFilter.flush.Goals as goal

pub returns : goal.returns
returns g c = search (rules, WasFlushed-writes, WasFlushed-sent, HandsReads-none)
