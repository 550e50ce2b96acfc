-- Either the room was made at once, or behind one send, which told how it went.
use Rattle.std.proofs.Common.{Ok, arith, refl, subst, sym}
use Rattle.std.proofs.lemmas.Result.{err_from_is_err_and}
use Rattle.buffer_redux.specs.BufWriter.{WasSent}
use Rattle.programs.proofs.buffers.make_room.Goals as goal
use Rattle.programs.proofs.buffers.make_room.Goals.{then-capacity-buf_len+in_ok-send, else-capacity-buf_len}

pub returns-in_err-send-clause-sends : goal.returns-in_err-send-clause-sends
returns-in_err-send-clause-sends g c full =
    let p = err_from_is_err_and c.from_residual.result c.from_residual.ensures.1 in
    rw (p.1, p.2) (c.send.new.self, c.in_err-send.ensures.sent, refl)

pub returns-clause-sends : goal.returns-clause-sends
returns-clause-sends g c full = elim c.if-capacity-buf_len.branch [
  | then-capacity-buf_len+in_ok-send w ↦ (
    c.if-capacity-buf_len.target,
    subst (WasSent g.W.Tell.log g.W.TellWrite.trace c.args.target.now (Ok tt)) (sym w.target-is) w.in_ok-send.ensures.sent,
    (c.make_room.ensures.room, c.make_room.ensures.others),
  )
  | else-capacity-buf_len w ↦ absurd (omega (
    arith,
    full,
    w.if-capacity-buf_len.false,
    c.capacity.ensures.value,
    c.buf_len.ensures.value,
    c.capacity.ensures.whole.fits,
  ))
]
