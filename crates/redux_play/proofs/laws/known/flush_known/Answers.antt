-- The stream gained what the log says was received, and after an Ok flush that is what was buffered.
use Rattle.redux_play.proofs.FlushKnown.{flush_gained}
use Rattle.redux_play.proofs.laws.known.flush_known.Goals as goal

pub returns-clause-held : goal.returns-clause-held
returns-clause-held g c =
    let e = c.flush.ensures.flushed in
    flush_gained g.S.Write.contents _ _ e.went c.flush.result e.ok
