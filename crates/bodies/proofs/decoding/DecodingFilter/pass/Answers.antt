-- The piece that is held is taken in whole; where it couldn't be, nothing of it is, and it is held still.
use Rattle.std.proofs.Common.{arith}
use Rattle.std.proofs.lemmas.Result.{err_from_is_err_and}
use Rattle.bodies.proofs.DecodingCalls.{not_written, written}
use Rattle.bodies.proofs.decoding.DecodingFilter.pass.Goals as goal

pub returns-in_err-put_all : goal.returns-in_err-put_all
returns-in_err-put_all g c =
    let p = err_from_is_err_and c.from_residual.result c.from_residual.ensures.1 in
    let put = c.in_err-put_all.ensures in
    rw (p.1, p.2) (not_written g.R.TellRead.remaining c.requires c.hold.ensures _ put.kind put.capacity _
    (rw c.as_slice.ensures.value at put.takes))

pub returns : goal.returns
returns g c =
    let put = c.in_ok-put_all.ensures in
    written g.R.TellRead.remaining c.requires c.hold.ensures _ put.kind put.capacity
    (omega (arith, c.if-self-eq0.false)) (rw c.as_slice.ensures.value at put.takes)
