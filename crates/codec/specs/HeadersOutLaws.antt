-- Laws of headers as they are written.
use Rattle.std.specs.Prelude.{◌≡◌, ℕ, ◌+◌, ◌<◌, ◌≤◌, List, ◌++◌, length}
use Rattle.std.proofs.Common.{arith, inl, inr, length-append}
use Rattle.std.proofs.Math.Seq.{drop-append_seam}
use Rattle.std.proofs.lemmas.Bool.{cases_lt}
use Rattle.codec.specs.Encoding.{IsWritable, coded}
use Rattle.piece_reader.specs.HeaderFormat.{HeaderFormat, IsHeaderFormat, length_prefixed}
use Rattle.codec.specs.HeadersOut.{HeadersOut, IsReadBack, length_prefixed_out}

module _ (h : HeaderFormat) (o : HeadersOut) (law : IsHeaderFormat h) (back : IsReadBack h o) where
  -- a header that is written has a byte, and at most so many
  few : (len : ℕ) → len ≤ o.max → (0 < length (o.header len)) × (length (o.header len) ≤ h.most_header)
  few len fits = let s = law.some (o.header len) len (length (o.header len)) (back.again len fits) in (s.0, s.2)

  size : (payload : List ℕ) → length (coded (length_prefixed_out h o) payload)
      ≡ length (o.header (length payload)) + (length payload + length h.tail)
  size payload = omega (arith, length-append (o.header (length payload)) (payload ++ h.tail), length-append payload h.tail)

  pub length_prefixed_writable : IsWritable (length_prefixed_out h o)
  length_prefixed_writable = record {
    some = λ payload. elim (cases_lt o.max (length payload)) [
      | inl above ↦ omega (arith, size payload, above)
      | inr fits ↦ omega (arith, size payload, (few (length payload) fits).0)
    ];
    most = λ payload takes. omega (arith, size payload, (few (length payload) takes).1, back.within, takes);
    apart = λ payload e takes refused. omega (arith, takes, refused.0);
  }

  pub length_prefixed_back : (payload : List ℕ) → length payload ≤ o.max → (length_prefixed h).piece
      (coded (length_prefixed_out h o) payload) payload
  length_prefixed_back payload fits = (
    length (o.header (length payload)),
    law.sized (o.header (length payload)) (payload ++ h.tail) (length payload) (length (o.header (length payload)))
        (back.again (length payload) fits),
    omega (arith, fits, back.within),
    drop-append_seam (o.header (length payload)) (payload ++ h.tail),
  )
