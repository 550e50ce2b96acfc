-- Sending was of all that is buffered, so at Ok none of it is left.
use Rattle.std.proofs.Common.{refl}
use Rattle.std.proofs.lemmas.Result.{on_ok_weaker}
use Rattle.buffer_redux.specs.BufWriter.{WasSent}
use Rattle.buffer_redux.proofs.WriteSteps.{was_sent}
use Rattle.buffer_redux.proofs.buf_writer.BufWriter.send.Goals as goal

pub returns : goal.returns
returns g c =
    let w = c.write_all.ensures in
    let sent : WasSent g.W.Tell.log g.W.TellWrite.trace c.args.self.now c.write_all.result _ =
    rw (← c.self.view_is) (was_sent _ _ _ _ _ w.sent w.row refl w.whole
    (record { calls = w.trace; told_before = refl; told_after = refl; noted = refl })) in
    record { all = on_ok_weaker c.write_all.result (λ is. (is.empty, is.received)) sent.ok; sent = sent }
