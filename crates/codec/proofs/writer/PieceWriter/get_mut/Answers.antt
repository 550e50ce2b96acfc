-- What the buffered writer says of its stream, clause by clause: a goal of what is lent is not split.
use Rattle.std.proofs.Common.{rules}
use Rattle.codec.proofs.writer.PieceWriter.get_mut.Goals as goal

pub returns : goal.returns
returns g c = (search rules, record { inner = search rules; writes_back = tt; log = search rules })
