-- Noting the call changes nothing that the flush did, and a fault of it is one that the inner writer caused.
use Rattle.std.proofs.Common.{[], rules, ◌≡◌, ◌∙◌, inr, ap, subst, sym, arith}
use Rattle.redux_buffer.specs.Block.{IsBlock}
use Rattle.redux_buffer.specs.Faults.{SendErrorCaused}
use Rattle.redux_buffer.specs.StreamLog.{after_flush}
use Rattle.redux_buffer.specs.LogGrows.{WriteLogGrows, WriteLogGrows-flush}
use Rattle.buffer_redux.specs.WriterTells.{writer_log}
use Rattle.buffer_redux.specs.Buffered.{with_calls}
use Rattle.buffer_redux.specs.BufWriter.{WasFlushed}
use Rattle.buffer_redux.specs.WritesAlongLaws.{Flushes-once}
use Rattle.buffer_redux.proofs.WriteTelling.{call_went, flush_fails, flush_met, flush_fault}
use Rattle.buffer_redux.proofs.buf_writer.tells.BufWriterTellWrite.flush_told.Goals as goal

pub returns-clause-told : goal.returns-clause-told
returns-clause-told g c = search rules

pub returns-clause-trace : goal.returns-clause-trace
returns-clause-trace g c =
    let table = g.P.WriterPolicy.rules in
    let s = c.args.self.now in
    let m = c.flush-answer.new.self in
    let answer = c.flush-answer.result in
    let flush = c.flush-answer.ensures.flushed in
    let noted : c.note.new.self.log ≡ after_flush s.own_calls answer = search rules in
    call_went g.W.TellWrite.trace table s m _ _ (after_flush s.own_calls answer) c.self.view_is noted
    flush.went.calls flush.grows
    (subst (λ l. WriteLogGrows (writer_log s).writes l.writes) (sym (returns-clause-told g c))
    (WriteLogGrows-flush (writer_log s) answer)) [] flush.in_order
    (omega (arith, flush.capacity))
    flush.kind
    (λ leaves. flush.capacity)
    (ap table.claims flush.steps.policy)
    (omega (arith, Flushes-once s m answer flush.steps))
    (λ steady. flush_fails s m answer flush.grows flush.caused)
    (λ tells. flush_met s m answer flush.ok flush.caused)

pub returns-clause-call : goal.returns-clause-call
returns-clause-call g c =
    let s = c.args.self.now in
    let m = c.flush-answer.new.self in
    let answer = c.flush-answer.result in
    let flush = c.flush-answer.ensures.flushed in
    let noted : c.note.new.self.log ≡ after_flush s.own_calls answer = search rules in
    record {
      steps = inr (
        answer,
        subst (λ x. WasFlushed g.W.Tell.log g.W.TellWrite.trace s answer (with_calls x s.own_calls)) (sym c.self.view_is)
            (subst (λ calls. WasFlushed g.W.Tell.log g.W.TellWrite.trace s answer (with_calls m calls)) flush.went.noted flush),
        noted,
      );
      fault = λ steady e is.
          subst (λ l. SendErrorCaused s.log.writes l e) (sym (ap (λ x. x.log.writes) c.self.view_is))
          (flush_fault s m answer e flush.caused (sym (ap (λ l. l.writes.faults) noted) ∙ is));
      nothing = λ steady is. absurd (omega (arith, is, ap (λ l. l.writes.zero_writes) noted));
      whole = subst IsBlock (sym (ap (λ x. x.block) c.self.view_is)) flush.whole;
    }
