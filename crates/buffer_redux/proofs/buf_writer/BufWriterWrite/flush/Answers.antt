-- A failed send ends the flush; behind an Ok one comes the inner writer's flush alone.
use Rattle.std.proofs.Common.{Ok, subst, sym}
use Rattle.std.proofs.lemmas.Result.{err_from_is_err_and}
use Rattle.buffer_redux.specs.BufWriter.{WasSent}
use Rattle.buffer_redux.proofs.WriteSteps.{not_sent, was_flushed}
use Rattle.buffer_redux.proofs.buf_writer.BufWriterWrite.flush.Goals as goal

pub returns-in_err-send-clause-flushed : goal.returns-in_err-send-clause-flushed
returns-in_err-send-clause-flushed g c =
    let p = err_from_is_err_and c.from_residual.result c.from_residual.ensures.1 in
    rw (p.1, p.2) (not_sent _ _ _ _ _ c.in_err-send.ensures.sent)

pub returns-clause-flushed : goal.returns-clause-flushed
returns-clause-flushed g c =
    let tells = g.W.Tell.log in
    let trace = g.W.TellWrite.trace in
    let sent = subst (WasSent tells trace c.args.self.now (Ok c.in_ok-send.field-0)) (sym c.self.view_is)
    c.in_ok-send.ensures.sent in
    was_flushed tells trace _ _ _ _ sent
    (g.met.W.TellWrite.trace_joins _ _ _ sent.went.calls c.flush_told.ensures.trace)
    c.flush_told.result c.flush_told.ensures.told
