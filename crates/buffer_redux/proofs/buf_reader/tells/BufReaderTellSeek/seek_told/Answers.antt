-- A seek leaves what was buffered or nothing, and nothing at Ok, so what is told as shown stays or is dropped.
use Rattle.std.proofs.Common.{◌≡◌, rules, subst, sym}
use Rattle.redux_buffer.specs.StreamLog.{SeekTells, after_seek, with_shown}
use Rattle.buffer_redux.specs.ReaderTells.{drops_shown, reader_log}
use Rattle.buffer_redux.proofs.SeekTelling.{reader_sought}
use Rattle.buffer_redux.proofs.buf_reader.tells.BufReaderTellSeek.seek_told.Goals as goal

pub returns-clause-told : goal.returns-clause-told
returns-clause-told g c =
    let s = c.args.self.now in
    let m = c.seek-answer.new.self in
    let noted : c.note.new.self.log ≡ after_seek s.own_calls c.args.to c.seek-answer.result = search rules in
    let told : SeekTells drops_shown (reader_log s) c.args.to c.seek-answer.result
    (with_shown (after_seek s.own_calls c.args.to c.seek-answer.result) m.block.bytes) =
    reader_sought s m c.args.to c.seek-answer.result c.seek-answer.ensures.leaves in
    let goes = SeekTells drops_shown (reader_log s) c.args.to c.seek-answer.result in
    subst (λ x. goes (with_shown c.note.new.self.log x.block.bytes)) (sym c.self.view_is)
    (subst (λ l. goes (with_shown l m.block.bytes)) (sym noted) told)
