-- The status and the connection are the texts.
use Rattle.std.proofs.Common.{sym}
use Rattle.requests.proofs.writing.refuse.Goals as goal

pub returns : goal.returns
returns g c = rw (sym c.status.ensures, sym c.connection.ensures) c.put_refusal.ensures
