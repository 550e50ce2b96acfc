-- Packets of at most one byte, as they are written.
use Rattle.std.specs.Prelude.{ℕ, ◌==◌, List, codes, if◌then◌else◌}
use Rattle.codec.specs.HeadersOut.{HeadersOut}

abbrev pub short_header : ℕ → List ℕ
short_header len = if len == 0 then codes "0004" else codes "0005"

abbrev pub packets_out : HeadersOut
packets_out = record { header = short_header; max = 1 }
