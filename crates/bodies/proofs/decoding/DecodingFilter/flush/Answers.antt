-- The writer's flush answers, and nothing is handed out or taken in.
use Rattle.std.proofs.Common.{rules}
use Rattle.bodies.specs.Words.{WasFlushed-sent, WasFlushed-writes}
use Rattle.bodies.specs.DecodingLaws.{hands_none}
use Rattle.bodies.proofs.decoding.DecodingFilter.flush.Goals as goal

pub returns : goal.returns
returns g c = search (rules, WasFlushed-writes, WasFlushed-sent, hands_none)
