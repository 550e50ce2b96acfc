-- Where a buffer is refused neither stream was called yet; else what `encode_all` says holds.
use Rattle.bodies.proofs.EncodeRuns.{encode_says, refused}
use Rattle.bodies.proofs.encode.encode.Goals as goal

pub returns-in-Err-clause-encodes : goal.returns-in-Err-clause-encodes
returns-in-Err-clause-encodes g c = refused _ _ _ _ _ c.in-Err.ensures.refused

pub returns : goal.returns
returns g c =
    let did = c.encode_all-answer.ensures.encodes in
    rw (
      c.into_inner.ensures.log,
      c.into_inner_with_buffer-writer.ensures.log,
      ← c.in-Ok.ensures.read,
      ← c.in-Ok.ensures.written,
    )
    (record { encoded = encode_says _ did; encodes = did })
