-- The header of a short packet is read as it was written.
use Rattle.std.specs.Prelude.{◌≡◌, ℕ, ◌≤◌, zero, suc, length}
use Rattle.std.proofs.Common.{arith, refl}
use Rattle.codec.specs.HeadersOut.{IsReadBack}
use Rattle.codec.specs.Scanning.{scanned}
use Rattle.codec.specs.declared.Header.TheVariants.{Sized}
use Rattle.tests_codec.specs.Packets.{packets}
use Rattle.tests_codec.specs.PacketsOut.{packets_out, short_header}

again : (len : ℕ) → len ≤ 1 → (scanned packets).header (short_header len) ≡ Sized len (length (short_header len))
again zero fits = refl
again (suc zero) fits = refl
again (suc (suc more)) fits = absurd (omega (arith, fits))

pub packets_read_back : IsReadBack (scanned packets) packets_out
packets_read_back = record { within = omega arith; again = again }
