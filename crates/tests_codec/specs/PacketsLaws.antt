-- A packet is small.
use Rattle.std.proofs.Common.{arith}
use Rattle.codec.specs.Scanning.{IsSmall}
use Rattle.tests_codec.specs.Packets.{packets}

pub packets_small : IsSmall packets
packets_small = record { some = omega arith; small = omega arith }
