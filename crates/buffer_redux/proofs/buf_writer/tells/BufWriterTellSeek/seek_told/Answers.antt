-- No byte is lost before the seek, so what is told as received stays; all of it is flushed, or no more than was.
use Rattle.std.proofs.Common.{◌≡◌, rules, subst, sym}
use Rattle.redux_buffer.specs.StreamLog.{SeekTells, after_seek}
use Rattle.buffer_redux.specs.Buffered.{with_calls}
use Rattle.buffer_redux.specs.WriterTells.{flushes_received, writer_log}
use Rattle.buffer_redux.proofs.SeekTelling.{writer_sought}
use Rattle.buffer_redux.proofs.buf_writer.tells.BufWriterTellSeek.seek_told.Goals as goal

pub returns-clause-told : goal.returns-clause-told
returns-clause-told g c =
    let s = c.args.self.now in
    let m = c.seek-answer.new.self in
    let noted : c.note.new.self.log ≡ after_seek s.own_calls c.args.to c.seek-answer.result = search rules in
    let told : SeekTells flushes_received (writer_log s) c.args.to c.seek-answer.result
    (writer_log (with_calls m (after_seek s.own_calls c.args.to c.seek-answer.result))) =
    writer_sought _ _ _ s m c.args.to c.seek-answer.result c.seek-answer.ensures.sought in
    let goes = SeekTells flushes_received (writer_log s) c.args.to c.seek-answer.result in
    subst (λ x. goes (writer_log (with_calls x c.note.new.self.log))) (sym c.self.view_is)
    (subst (λ l. goes (writer_log (with_calls m l))) (sym noted) told)
