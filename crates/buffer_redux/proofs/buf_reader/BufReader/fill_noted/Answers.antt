-- Noting the call changes nothing that the fill did.
use Rattle.std.proofs.Common.{rules, subst, sym}
use Rattle.buffer_redux.specs.BufReader.{Fills}
use Rattle.buffer_redux.specs.Fill.{Filled}
use Rattle.buffer_redux.proofs.FillClaims.{fills}
use Rattle.buffer_redux.proofs.FillTelling.{filled_noted, filled_went}
use Rattle.buffer_redux.proofs.buf_reader.BufReader.fill_noted.Goals as goal
use Rattle.buffer_redux.proofs.buf_reader.BufReader.fill_noted.Goals.{After-fill-answer}

filled : (g : _) (c : goal.After-fill-answer g)
    → Fills g.P.ReaderPolicy.rules c.args.self.now c.fill-answer.result c.fill-answer.new.self
filled g c = fills g.P.ReaderPolicy.rules c.args.self.now c.fill-answer.result c.fill-answer.new.self
    c.fill-answer.ensures.whole c.fill-answer.ensures.filled

pub returns-in-Ok-clause-went : goal.returns-in-Ok-clause-went
returns-in-Ok-clause-went g c =
    filled_went g.R.TellRead.remaining g.P.ReaderPolicy.rules c.args.self.now c.fill-answer.new.self _ c.self.view_is _
    c.fill-answer.result (filled g (goal.at.returns-in-Ok-clause-went g c).After-fill-answer) c.fill-answer.ensures.known
    (search rules)

pub returns-in-Err-clause-went : goal.returns-in-Err-clause-went
returns-in-Err-clause-went g c =
    filled_went g.R.TellRead.remaining g.P.ReaderPolicy.rules c.args.self.now c.fill-answer.new.self _ c.self.view_is _
    c.fill-answer.result (filled g (goal.at.returns-in-Err-clause-went g c).After-fill-answer) c.fill-answer.ensures.known
    (search rules)

pub returns-in-Ok-clause-filled : goal.returns-in-Ok-clause-filled
returns-in-Ok-clause-filled g c =
    let table = g.P.ReaderPolicy.rules in
    filled_noted table _ _ c.args.self.now c.fill-answer.result
    (subst (Filled table c.args.self.now c.fill-answer.result) (sym c.self.view_is) c.fill-answer.ensures.filled)

pub returns-in-Err-clause-filled : goal.returns-in-Err-clause-filled
returns-in-Err-clause-filled g c =
    let table = g.P.ReaderPolicy.rules in
    filled_noted table _ _ c.args.self.now c.fill-answer.result
    (subst (Filled table c.args.self.now c.fill-answer.result) (sym c.self.view_is) c.fill-answer.ensures.filled)
