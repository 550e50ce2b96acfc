-- Laws of pieces that a byte ends, as they are written.
use Rattle.std.specs.Prelude.{ℕ, List, [], ◌∷◌}
use Rattle.std.proofs.Common.{arith, inl, inr, refl, length-append}
use Rattle.piece_reader.specs.Delimited.{delimited}
use Rattle.codec.specs.DelimitedOut.{delimited_out}
use Rattle.codec.specs.Encoding.{IsWritable, coded}
use Rattle.codec.specs.declared.delimited_writer.NotPlain.{NotPlain}

apart : (end max : ℕ) (payload : List ℕ) (w : NotPlain) → (delimited_out end max).takes payload
    → ¬ ((delimited_out end max).refuses payload w)
apart end max payload w takes (inl long) = omega (arith, takes.1, long.1)
apart end max payload w takes (inr has) = has.1 takes.0

pub delimited_writable : (end max : ℕ) → IsWritable (delimited_out end max)
delimited_writable end max = record {
  some = λ payload. omega (arith, length-append payload (end ∷ []));
  most = λ payload takes. omega (arith, length-append payload (end ∷ []), takes.1);
  apart = apart end max;
}

pub delimited_back : (end max : ℕ) (payload : List ℕ) → (delimited_out end max).takes payload
    → (delimited end max).piece (coded (delimited_out end max) payload) payload
delimited_back end max payload takes = (takes.0, takes.1, refl)
