-- Room for an answer is made before its call, so each call that was begun has its answer in the record.
use Rattle.std.proofs.Common.{false, arith}
use Rattle.std.proofs.lemmas.Result.{err_from_is_err_and}
use Rattle.codec.proofs.Playing.{writes_end}
use Rattle.codec.proofs.laws.runs.play_write.Goals as goal

pub returns-in_err-reserve : goal.returns-in_err-reserve
returns-in_err-reserve g c =
    let p = err_from_is_err_and c.from_residual.result c.from_residual.ensures.1 in
    rw (p.1)
    (writes_end c.loop-payload.invariant c.reserve.new.self.items c.reserve.ensures.items false (
      c.loop-payload-test.true,
      omega (arith, c.in_err-reserve.ensures.full, c.in_err-reserve.ensures.len),
    ))
