-- The first two bytes settle the length, and this settles the payload.
use Rattle.frame_reader.specs.FramesLaws.{frame-same}
use Rattle.frame_reader.proofs.laws.one_frame.Goals as goal

pub returns : goal.returns
returns c = frame-same
