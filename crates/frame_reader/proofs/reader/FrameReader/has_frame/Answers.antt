-- What its pieces say is said of what it holds of them.
use Rattle.std.proofs.Common.{subst}
use Rattle.std.specs.Prelude.{◌↔◌, IsTrue}
use Rattle.codec.specs.PieceReader.{IsSettled}
use Rattle.frame_reader.specs.Framed.{framed}
use Rattle.frame_reader.proofs.reader.FrameReader.has_frame.Goals as goal

pub returns-clause-settled : goal.returns-clause-settled
returns-clause-settled g c = subst (λ s. IsTrue c.is_settled.result ↔ IsSettled (framed s.decoder.max) s) c.self.view_is
    c.is_settled.ensures.settled
