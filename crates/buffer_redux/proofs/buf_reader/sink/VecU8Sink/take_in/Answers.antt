-- Where memory was refused, there was no room.
use Rattle.std.proofs.Common.{sym, arith, append-nil, refl, ◌∙◌}
use Rattle.std.proofs.lemmas.Result.{err_from_is_err_and}
use Rattle.buffer_redux.proofs.buf_reader.sink.VecU8Sink.take_in.Goals as goal

pub returns-in_err-extend_from_slice-clause-refused : goal.returns-in_err-extend_from_slice-clause-refused
returns-in_err-extend_from_slice-clause-refused g c =
    let p = err_from_is_err_and c.from_residual.result c.from_residual.ensures.1 in
    let e = c.in_err-extend_from_slice.ensures in
    rw (p.1, p.2) (
      (e.items ∙ sym (append-nil _), tt, e.capacity),
      ((refl, omega (arith, e.full, c.args.self.now.ok.1)), λ kind. omega (arith, e.full, e.len)),
    )
