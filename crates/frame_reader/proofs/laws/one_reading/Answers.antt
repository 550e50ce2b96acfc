-- No frame begins another, so a stream is cut into frames in one way.
use Rattle.std.proofs.Common.{arith}
use Rattle.frame_reader.specs.FramedLaws.{SplitsIntoFrames-same}
use Rattle.frame_reader.proofs.laws.one_reading.Goals as goal

pub returns : goal.returns
returns c = SplitsIntoFrames-same c.args.max (omega arith)
