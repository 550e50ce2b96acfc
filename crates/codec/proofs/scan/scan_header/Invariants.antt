use Rattle.std.proofs.Common.{◌≡◌, ◌+◌}
use Rattle.codec.proofs.Scanning.{ScansOn}
use Rattle.codec.proofs.scan.scan_header.Given as goal

-- the bytes that were read so far lead to where the header stands
abbrev pub invariant-loop-byte : goal.invariant-loop-byte
invariant-loop-byte g l =
    ScansOn (g.S.Scan.scanning l.protocol).turn (g.S.Scan.scanning l.protocol).most_header (g.S.Scan.scanning l.protocol).start
    l.bytes l.state l.used × (l.used ≡ l.seen + l.byte-index)
