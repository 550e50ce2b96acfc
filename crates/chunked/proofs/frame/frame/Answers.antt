-- The digits of a size that isn't 0 lead to it, and the end of the line behind them to its payload.
use Rattle.std.proofs.Common.{◌<◌, arith, rules}
use Rattle.chunked.proofs.Framing.{frames}
use Rattle.chunked.proofs.frame.frame.Goals as goal

pub returns : goal.returns
returns c =
    let ends = c.ends_line.ensures (search rules) in
    let some : 0 < c.read_size-at.result.1 = omega (arith, c.if-size-eq0.false) in (
      ends.0,
      omega arith,
      frames c.args.limits.now c.args.start c.args.shown.now c.read_size-at.result.0 c.read_size-at.result.1 _ some
          (c.read_size-at.ensures.comes some) ends.0 ends.1 ends.2,
    )
