-- The bytes moved are those that the reader handed out; where none stay buffered, it ran dry, so they are all.
use Rattle.std.proofs.Common.{refl}
use Rattle.redux_buffer.specs.CopyLaws.{CopyBuf-moved}
use Rattle.redux_play.proofs.CopyKnown.{on_ok, moves_known, receives_all}
use Rattle.redux_play.proofs.laws.known.copy_known.Goals as goal

pub returns-clause-moved : goal.returns-clause-moved
returns-clause-moved g c =
    let e = c.copy_buf.ensures in
    let moved = CopyBuf-moved c.copy_buf.result e.copied in
    moves_known g.R.TellRead.remaining g.P.ReaderPolicy.rules _ _ e.reader moved.0 _ _ moved.1

pub returns-clause-all : goal.returns-clause-all
returns-clause-all g c =
    let e = c.copy_buf.ensures in
    let moved = CopyBuf-moved c.copy_buf.result e.copied in
    on_ok _ _ _ (receives_all g.R.TellRead.remaining g.P.ReaderPolicy.rules _ _ e.reader moved.0 _ _ moved.1
    g.W.Tell.log g.W.TellWrite.trace g.W.TellWrite.call _ _ refl refl) e.copied.ended
