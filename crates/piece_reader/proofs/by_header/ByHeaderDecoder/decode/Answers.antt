-- What a header says stays so whatever comes behind, so it settles how many bytes the piece takes.
use Rattle.std.proofs.Common.{◌≡◌, ◌+◌, ◌-◌, ◌<◌, ◌≤◌, ap, arith, drop, length, max, min, subst, sym, take, ◌∙◌}
use Rattle.piece_reader.specs.Decoding.{IsPiece}
use Rattle.piece_reader.specs.Grammar.{IsOpenBelow}
use Rattle.piece_reader.specs.HeaderFormat.{NeverFollows, length_prefixed}
use Rattle.piece_reader.specs.HeaderFormatLaws.{length_prefixed_open, length_prefixed_piece}
use Rattle.piece_reader.proofs.by_header.ByHeaderDecoder.decode.Goals as goal

pub returns-else-not-is_tail-clause-finds : goal.returns-else-not-is_tail-clause-finds
returns-else-not-is_tail-clause-finds g c =
    let h = g.H.LengthPrefixed.header_format c.args.self.now.0 in
    let law = g.met.H.LengthPrefixed.headers c.args.self.now.0 in
    let bytes = c.args.bytes.now in
    let len = c.in-Sized.len in
    let used = c.in-Sized.used in
    let is = sym c.header.ensures.says ∙ c.in-Sized.is in
    let fits : len ≤ h.max = omega (arith, c.if-len-max.false, c.max.ensures) in
    let tail = ap length c.tail-tail.ensures in
    let count : used + len + length c.tail-tail.result.now - (used + len) ≡ length h.tail = omega (arith, tail) in
    let found : take (length h.tail) (drop (used + len) bytes) ≡ h.tail =
    ap (λ n. take n (drop (used + len) bytes)) (sym count) ∙ c.is_tail.ensures.0 c.if-not-is_tail.false ∙ c.tail-tail.ensures in
    subst (λ n. IsPiece (length_prefixed h) bytes (record { from = used; len = len }) (used + len + n)) (sym tail)
    (length_prefixed_piece h law bytes len used is fits (omega (arith, c.if-bytes-whole.false, tail)) found)

pub returns-then-bytes-whole-clause-finds : goal.returns-then-bytes-whole-clause-finds
returns-then-bytes-whole-clause-finds g c =
    let h = g.H.LengthPrefixed.header_format c.args.self.now.0 in
    let law = g.met.H.LengthPrefixed.headers c.args.self.now.0 in
    let bytes = c.args.bytes.now in
    let len = c.in-Sized.len in
    let used = c.in-Sized.used in
    let is = sym c.header.ensures.says ∙ c.in-Sized.is in
    let fits : len ≤ h.max = omega (arith, c.if-len-max.false, c.max.ensures) in
    let tail = ap length c.tail-tail.ensures in
    let short : length bytes < used + len + length h.tail = omega (arith, c.if-bytes-whole.true, tail) in
    let size : c.max-then-bytes-whole.result ≡ max (1 + length bytes) (used + len + min (length h.tail) 1) =
    omega (arith, c.max-then-bytes-whole.ensures, c.min.ensures, tail) in
    let may : ¬ (NeverFollows h.tail (used + len) bytes) =
    λ never. c.may_follow.ensures.may c.if-not-may_follow.false
    (subst (λ l. NeverFollows l (used + len) bytes) (sym c.tail-tail.ensures) never) in (
      omega (arith, size),
      omega (arith, size, short, (law.some bytes len used is).2, fits),
      subst (λ n. IsOpenBelow (length_prefixed h) n bytes) (sym size)
          (length_prefixed_open h law bytes len used is fits short may),
    )
