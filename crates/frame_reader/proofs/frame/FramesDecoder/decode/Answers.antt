-- Bytes that begin with a length above `max` are wrong, and that length is why.
use Rattle.std.proofs.Common.{refl}
use Rattle.frame_reader.proofs.frame.FramesDecoder.decode.Goals as goal

pub returns-then-len-self-clause-finds : goal.returns-then-len-self-clause-finds
returns-then-len-self-clause-finds c =
    (record { len = c.length_of-len.result; above = c.if-len-self.true; begins = c.length_of-len.ensures }, refl)
