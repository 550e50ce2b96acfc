-- How a piece is shown doesn't change which bytes are one, and so not which settle nothing.
use Rattle.std.proofs.Common.{take}
use Rattle.codec.specs.Delimited.{delimited}
use Rattle.codec.specs.ShowingLaws.{open_showing}
use Rattle.codec.specs.Trimming.{trimming}
use Rattle.decoders.specs.Resp.{behind_kind}
use Rattle.decoders.proofs.resp.LinesDecoder.decode.Goals as goal

pub decode-requires-clause-open : goal.decode-requires-clause-open
decode-requires-clause-open c =
    open_showing behind_kind (trimming (delimited 10 c.args.self.now.max)) (take c.args.seen c.args.bytes.now) c.requires.open

pub returns-in-More-clause-finds : goal.returns-in-More-clause-finds
returns-in-More-clause-finds c =
    let wants = c.in-More.ensures.finds in (
      wants.0,
      wants.1,
      λ more short.
          let open' = wants.2 more short in record {
            no_piece = λ b. open'.no_piece (record {
              piece = b.piece;
              payload = b.is.0;
              more = b.more;
              is = b.is.1;
              equal = b.equal;
            });
            not_wrong = open'.not_wrong;
          },
    )
