-- Lengths in bytes, as they are written.
use Rattle.std.specs.Prelude.{ℕ, List}
use Rattle.std.specs.Int.{w8, w16, w32, w64, to_be_bytes, to_le_bytes}
use Rattle.decoders.specs.declared.lengths.Order.{Order}
use Rattle.decoders.specs.declared.lengths.Order.TheVariants.{BigEndian, LittleEndian}
use Rattle.decoders.specs.declared.lengths.Width.{Width}
use Rattle.decoders.specs.declared.lengths.Width.TheVariants.{One, Two, Four, Eight}

-- the bytes of a length
abbrev pub length_in_bytes : Width → Order → ℕ → List ℕ
length_in_bytes One BigEndian len = to_be_bytes w8 len
length_in_bytes Two BigEndian len = to_be_bytes w16 len
length_in_bytes Four BigEndian len = to_be_bytes w32 len
length_in_bytes Eight BigEndian len = to_be_bytes w64 len
length_in_bytes One LittleEndian len = to_le_bytes w8 len
length_in_bytes Two LittleEndian len = to_le_bytes w16 len
length_in_bytes Four LittleEndian len = to_le_bytes w32 len
length_in_bytes Eight LittleEndian len = to_le_bytes w64 len

-- the greatest length that so many bytes say
abbrev pub most_of : Width → ℕ
most_of One = 255
most_of Two = 65535
most_of Four = 4294967295
most_of Eight = 18446744073709551615
