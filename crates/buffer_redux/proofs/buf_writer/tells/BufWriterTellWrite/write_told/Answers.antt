-- Noting the call changes nothing that the write did; under a steady policy its fault is the inner writer's.
use Rattle.std.proofs.Common.{rules, ◌≡◌, ◌∙◌, List, inl, ap, subst, sym, arith}
use Rattle.std.specs.declared.io.Error.{Error}
use Rattle.std.specs.declared.io.ErrorKind.TheVariants.{WriteZero}
use Rattle.redux_buffer.specs.Block.{IsBlock}
use Rattle.redux_buffer.specs.Faults.{TookNothing, SendErrorCaused}
use Rattle.redux_buffer.specs.StreamLog.{after_write}
use Rattle.redux_buffer.specs.LogGrows.{WriteLogGrows, WriteLogGrows-write}
use Rattle.buffer_redux.specs.WriterTells.{writer_log}
use Rattle.buffer_redux.specs.Buffered.{with_calls}
use Rattle.buffer_redux.specs.BufWriter.{WriteRows, Writes}
use Rattle.buffer_redux.proofs.WriteTelling.{call_went, write_fails, write_met, write_fault, write_nothing, writes_noted}
use Rattle.buffer_redux.proofs.buf_writer.tells.BufWriterTellWrite.write_told.Goals as goal

pub returns-clause-told : goal.returns-clause-told
returns-clause-told g c = search rules

pub returns-clause-trace : goal.returns-clause-trace
returns-clause-trace g c =
    let s = c.args.self.now in
    let m = c.write-answer.new.self in
    let bs = c.args.buf.now in
    let answer = c.write-answer.result in
    let wrote = c.write-answer.ensures in
    let noted : c.note.new.self.log ≡ after_write s.own_calls bs answer = search rules in
    call_went g.W.TellWrite.trace g.P.WriterPolicy.rules s m _ _ (after_write s.own_calls bs answer)
    c.self.view_is noted wrote.keeps.went.calls wrote.keeps.grows
    (subst (λ l. WriteLogGrows (writer_log s).writes l.writes) (sym (returns-clause-told g c))
    (WriteLogGrows-write (writer_log s) bs answer)) _ wrote.in_order wrote.keeps.capacity wrote.keeps.kind
    wrote.keeps.same_capacity wrote.keeps.claims
    (omega (arith, wrote.keeps.flushes))
    (λ steady. write_fails s m bs answer wrote.keeps.grows (wrote.steadily steady))
    (λ tells. write_met g.P.WriterPolicy.rules s m bs tells answer wrote.steps wrote.caused)

pub returns-clause-steps : goal.returns-clause-steps
returns-clause-steps g c =
    let table = g.P.WriterPolicy.rules in
    let s = c.args.self.now in
    let bs = c.args.buf.now in
    let answer = c.write-answer.result in
    writes_noted _ _ table s bs answer
    (subst (Writes table s bs answer) (sym c.self.view_is) c.write-answer.ensures.steps)

pub returns-clause-call : goal.returns-clause-call
returns-clause-call g c =
    let table = g.P.WriterPolicy.rules in
    let s = c.args.self.now in
    let m = c.write-answer.new.self in
    let bs = c.args.buf.now in
    let answer = c.write-answer.result in
    let wrote = c.write-answer.ensures in
    let noted : c.note.new.self.log ≡ after_write s.own_calls bs answer = search rules in
    let same = ap (λ x. x.log.writes) c.self.view_is in
    record {
      steps = inl (
        bs,
        answer,
        returns-clause-steps g c,
        noted,
        subst (λ x. WriteRows g.W.Tell.log g.W.TellWrite.trace table s bs answer (with_calls x s.own_calls))
            (sym c.self.view_is) (subst (λ calls. WriteRows g.W.Tell.log g.W.TellWrite.trace table s bs answer
            (with_calls m calls)) wrote.keeps.went.noted wrote.rows),
      );
      fault = λ steady e is.
          subst (λ l. SendErrorCaused s.log.writes l e) (sym same)
          (write_fault table s m bs steady answer e wrote.caused
          (sym (ap (λ l. l.writes.faults) noted) ∙ is));
      nothing = λ steady is. subst (λ l. (interrupts : List Error) × TookNothing interrupts s.log.writes l WriteZero) (sym same)
          (write_nothing table s m bs steady answer wrote.steps
          (sym (ap (λ l. l.writes.zero_writes) noted) ∙ is));
      whole = subst IsBlock (sym (ap (λ x. x.block) c.self.view_is)) wrote.keeps.whole;
    }
