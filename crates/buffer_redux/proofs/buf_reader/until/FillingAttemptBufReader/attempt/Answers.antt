-- One attempt is one fill, by the fill's own clauses.
use Rattle.buffer_redux.proofs.Retrying.{one_fill}
use Rattle.buffer_redux.proofs.buf_reader.until.FillingAttemptBufReader.attempt.Goals as goal

pub returns : goal.returns
returns g c =
    let f = c.fill.ensures in
    let fill = one_fill _ _ _ _ _ f.filled f.known f.noted f.whole in
    record { in_order = fill.fills.in_order; step = fill }
