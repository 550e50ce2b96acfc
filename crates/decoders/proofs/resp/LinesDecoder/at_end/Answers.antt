-- How a piece is shown doesn't change which bytes are one, and so not which settle nothing.
use Rattle.codec.specs.Delimited.{delimited}
use Rattle.codec.specs.ShowingLaws.{open_showing}
use Rattle.codec.specs.Trimming.{trimming}
use Rattle.decoders.specs.Resp.{behind_kind}
use Rattle.decoders.proofs.resp.LinesDecoder.at_end.Goals as goal

pub at_end-requires-clause-open : goal.at_end-requires-clause-open
at_end-requires-clause-open c =
    open_showing behind_kind (trimming (delimited 10 c.args.self.now.max)) c.args.bytes.now c.requires.open
