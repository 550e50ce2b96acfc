-- Lengths in bytes.
use Rattle.std.specs.Prelude.{ℕ, List, [], length, take, nat_lt, if◌then◌else◌}
use Rattle.std.specs.Int.{w8, w16, w32, w64, from_be_bytes, from_le_bytes}
use Rattle.codec.specs.HeaderFormat.{HeaderFormat}
use Rattle.codec.specs.declared.Header.TheVariants.{Short, Sized}
use Rattle.decoders.specs.declared.lengths.Order.{Order}
use Rattle.decoders.specs.declared.lengths.Order.TheVariants.{BigEndian, LittleEndian}
use Rattle.decoders.specs.declared.lengths.Width.{Width}
use Rattle.decoders.specs.declared.lengths.Width.TheVariants.{One, Two, Four, Eight}

-- how many bytes
abbrev pub size_of : Width → ℕ
size_of One = 1
size_of Two = 2
size_of Four = 4
size_of Eight = 8

-- the number that these bytes are
abbrev pub number_in_bytes : Width → Order → List ℕ → ℕ
number_in_bytes One BigEndian bytes = from_be_bytes w8 bytes
number_in_bytes Two BigEndian bytes = from_be_bytes w16 bytes
number_in_bytes Four BigEndian bytes = from_be_bytes w32 bytes
number_in_bytes Eight BigEndian bytes = from_be_bytes w64 bytes
number_in_bytes One LittleEndian bytes = from_le_bytes w8 bytes
number_in_bytes Two LittleEndian bytes = from_le_bytes w16 bytes
number_in_bytes Four LittleEndian bytes = from_le_bytes w32 bytes
number_in_bytes Eight LittleEndian bytes = from_le_bytes w64 bytes

-- a header is so many bytes, and the number that they are
abbrev pub lengths : Width → Order → ℕ → HeaderFormat
lengths width order max = record {
  header = λ bytes. if nat_lt (length bytes) (size_of width) then Short
      else Sized (number_in_bytes width order (take (size_of width) bytes)) (size_of width);
  most_header = size_of width;
  max = max;
  tail = [];
}
