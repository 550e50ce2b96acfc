-- The first flush, the taking in and the last flush are a write's steps behind the policy's first question.
use Rattle.std.proofs.Common.{Ok, inl, inr}
use Rattle.std.proofs.lemmas.Result.{err_from_is_err_and}
use Rattle.buffer_redux.specs.WriterLaws.{InnerWent-joins}
use Rattle.buffer_redux.proofs.WriteOn.{asked_on}
use Rattle.buffer_redux.proofs.buf_writer.BufWriter.write_slowly.Goals as goal

pub returns-in_err-flush_amount-clause-steps : goal.returns-in_err-flush_amount-clause-steps
returns-in_err-flush_amount-clause-steps g c = λ s first.
    let p = err_from_is_err_and c.from_residual.result c.from_residual.ensures.1 in
    let sent = c.in_err-flush_amount.ensures in
    asked_on _ _ _ c.args.first s c.args.self.now c.args.bytes.now first c.from_residual.result c.flush_amount.new.self
    (rw (p.1, p.2) (inl (sent.flushed, sent.row)))

pub returns-in_err-written-clause-steps : goal.returns-in_err-written-clause-steps
returns-in_err-written-clause-steps g c = λ s first.
    let answer = c.from_residual-in_err-written in
    let p = err_from_is_err_and answer.result answer.ensures.1 in
    asked_on _ _ _ c.args.first s c.args.self.now c.args.bytes.now first answer.result c.append_or_write.new.self (rw (p.1, p.2)
    (inr (c.flush_amount.new.self, c.in_ok-flush_amount.ensures.flushed, c.in_err-written.ensures.took_in)))

pub returns-clause-steps : goal.returns-clause-steps
returns-clause-steps g c = λ s first.
    asked_on _ _ _ c.args.first s c.args.self.now c.args.bytes.now first (Ok c.in_ok-written.written) c.flush_after.new.self (
      c.flush_amount.new.self,
      c.append_or_write.new.self,
      c.in_ok-flush_amount.ensures.flushed,
      c.in_ok-written.ensures.took_in,
      InnerWent-joins _ _ g.met.W.TellWrite.trace_joins c.args.self.now c.flush_amount.new.self c.append_or_write.new.self
          c.in_ok-flush_amount.ensures.trace c.in_ok-written.ensures.trace,
      c.flush_after.ensures.finished,
    )
