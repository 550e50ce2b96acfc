-- A length in bytes is read as it was written.
use Rattle.std.specs.Prelude.{◌≡◌, ℕ, ◌≤◌, length, min}
use Rattle.std.proofs.Common.{ap, ◌∙◌, arith, refl, sym}
use Rattle.std.proofs.lemmas.List.{take_all}
use Rattle.std.proofs.lemmas.Nat.{from_be_bytes-to_be_bytes_2, from_be_bytes-to_be_bytes_4, from_be_bytes-to_be_bytes_8, from_le_bytes-to_le_bytes_2, from_le_bytes-to_le_bytes_4, from_le_bytes-to_le_bytes_8}
use Rattle.codec.specs.HeadersOut.{IsReadBack}
use Rattle.codec.specs.declared.Header.TheVariants.{Sized}
use Rattle.decoders.specs.Lengths.{lengths, number_in_bytes, size_of}
use Rattle.decoders.specs.LengthsLaws.{enough}
use Rattle.decoders.specs.LengthsOut.{length_in_bytes, most_of}
use Rattle.decoders.specs.declared.lengths.Order.{Order}
use Rattle.decoders.specs.declared.lengths.Order.TheVariants.{BigEndian, LittleEndian}
use Rattle.decoders.specs.declared.lengths.Width.{Width}
use Rattle.decoders.specs.declared.lengths.Width.TheVariants.{One, Two, Four, Eight}

pub bytes_size : (width : Width) (order : Order) (len : ℕ) → length (length_in_bytes width order len) ≡ size_of width
bytes_size One BigEndian len = refl
bytes_size Two BigEndian len = refl
bytes_size Four BigEndian len = refl
bytes_size Eight BigEndian len = refl
bytes_size One LittleEndian len = refl
bytes_size Two LittleEndian len = refl
bytes_size Four LittleEndian len = refl
bytes_size Eight LittleEndian len = refl

said : (width : Width) (order : Order) (len : ℕ) → len ≤ most_of width
    → number_in_bytes width order (length_in_bytes width order len) ≡ len
said One BigEndian len fits = omega (arith, fits)
said Two BigEndian len fits = from_be_bytes-to_be_bytes_2 len (omega (arith, fits))
said Four BigEndian len fits = from_be_bytes-to_be_bytes_4 len (omega (arith, fits))
said Eight BigEndian len fits = from_be_bytes-to_be_bytes_8 len (omega (arith, fits))
said One LittleEndian len fits = omega (arith, fits)
said Two LittleEndian len fits = from_le_bytes-to_le_bytes_2 len (omega (arith, fits))
said Four LittleEndian len fits = from_le_bytes-to_le_bytes_4 len (omega (arith, fits))
said Eight LittleEndian len fits = from_le_bytes-to_le_bytes_8 len (omega (arith, fits))

pub lengths_read_back : (width : Width) (order : Order) (max : ℕ)
    → IsReadBack (lengths width order max) (record { header = length_in_bytes width order; max = min max (most_of width) })
lengths_read_back width order max = record {
  within = omega arith;
  again = λ len fits.
      let size = size_of width in
      let number = number_in_bytes width order in
      let bytes = length_in_bytes width order len in
      let long = bytes_size width order len in
      enough size number bytes (omega (arith, long))
      ∙ ap (λ l. Sized (number l) size) (take_all size bytes (omega (arith, long)))
      ∙ ap (λ n. Sized n size) (said width order len (omega (arith, fits)))
      ∙ ap (Sized len) (sym long);
}
