-- What a look says is payload is so as far as it is buffered; any other answer says that none is shown.
use Rattle.std.proofs.Common.{arith}
use Rattle.body_reader.proofs.Showing.{none_found, payload_found}
use Rattle.body_reader.proofs.steps.find_known.Goals as goal

pub returns-else-held-eq0 : goal.returns-else-held-eq0
returns-else-held-eq0 g c =
    payload_found _ _ _ _ _ _ (omega (arith, c.if-known-gt0.false)) _ _ _ c.pass-look.ensures.passes c.pass-look.ensures.next
    _ c.in-Payload.is (omega (arith, c.if-held-eq0.false, c.buf_len-held.ensures.value)) _
    (omega (arith, c.min.ensures, c.buf_len-held.ensures.value))

pub returns-in_default : goal.returns-in_default
returns-in_default g c = none_found _ _ _ _ _ _ (omega (arith, c.if-known-gt0.false)) _ _ _ c.pass-look.ensures.passes
    c.pass-look.ensures.next (g.met.C.Coding.lawful _)
    (λ n is. absurd (c.in_default.not-Payload n is)) _ (omega (arith, c.if-known-gt0.false))
