-- What a slice holds is bytes, so the first two are written again of the length that was read of them.
use Rattle.std.proofs.Common.{arith}
use Rattle.frame_reader.proofs.Lengths.{BeginsWith-first}
use Rattle.frame_reader.proofs.frame.length_of.Goals as goal

pub returns : goal.returns
returns c = BeginsWith-first c.args.bytes.now c.from_be_bytes.result c.requires
    (λ i. omega (arith, c.type_inv.bytes i)) c.from_be_bytes.ensures
