-- Where a buffer is refused neither stream was called yet; else what `decode_all` says holds.
use Rattle.std.proofs.Common.{refl}
use Rattle.bodies.proofs.DecodeRuns.{decode_says, refused}
use Rattle.bodies.proofs.decode.decode.Goals as goal

pub returns-in-Err-clause-decodes : goal.returns-in-Err-clause-decodes
returns-in-Err-clause-decodes g c =
    refused c.args.limits _ _ _ _ _ (record { memory = c.into.ensures; read_same = refl; written_same = refl })

pub returns-in-Err-buffered-clause-decodes : goal.returns-in-Err-buffered-clause-decodes
returns-in-Err-buffered-clause-decodes g c = refused c.args.limits _ _ _ _ _ c.in-Err-buffered.ensures.refused

pub returns : goal.returns
returns g c =
    let did = c.decode_all-answer.ensures.decodes in
    rw (
      c.into_inner.ensures.log,
      c.into_inner_with_buffer-writer.ensures.log,
      ← c.in-Ok-buffered.ensures.read,
      ← c.in-Ok-buffered.ensures.written,
    )
    (record { decoded = decode_says _ did; decodes = did })
