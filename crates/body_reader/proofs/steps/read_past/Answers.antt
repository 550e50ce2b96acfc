-- Nothing is buffered, so what came stands next, which a look said is payload whatever it is.
use Rattle.std.proofs.Common.{arith}
use Rattle.std.proofs.lemmas.Result.{err_from_is_err_and}
use Rattle.body_reader.proofs.Past.{past_carries, past_dry, past_fails, past_given}
use Rattle.body_reader.proofs.steps.read_past.Goals as goal

pub returns-in_err-count : goal.returns-in_err-count
returns-in_err-count g c known none =
    let read = c.in_err-count.ensures in
    let p = err_from_is_err_and c.from_residual.result c.from_residual.ensures.1 in
    rw (p.1, p.2) (past_fails _ _ _ (g.met.C.Coding.lawful _) _ c.args.progress.now c.requires.place _ c.requires.sure
    c.requires.past _
    c.requires.room _ read.keeps _ read.steps.size c.requires.offers known none _ read.steps.direct read.in_order)

pub returns-then-count-eq0 : goal.returns-then-count-eq0
returns-then-count-eq0 g c known none =
    let read = rw c.if-count-eq0.true at c.in_ok-count.ensures in
    past_dry _ _ _ (g.met.C.Coding.lawful _) _ c.args.progress.now c.requires.place _ c.requires.sure c.requires.past _
    c.requires.room _ read.keeps
    _ read.steps.size c.requires.offers known none read.steps.direct read.in_order

pub behind-behind-requires-clause-carries : goal.behind-behind-requires-clause-carries
behind-behind-requires-clause-carries g c =
    let read = c.in_ok-count.ensures in (
      _,
      past_carries _ _ _ (g.met.C.Coding.lawful _) _ c.args.progress.now c.requires.place _ c.requires.sure c.requires.past _
          c.requires.room _
          read.keeps _ read.steps.size _ read.bound.0 read.steps.direct read.in_order,
    )

pub returns : goal.returns
returns g c known none =
    let read = c.in_ok-count.ensures in
    let carries = past_carries _ _ _ (g.met.C.Coding.lawful _) _ c.args.progress.now c.requires.place _ c.requires.sure
    c.requires.past _
    c.requires.room _ read.keeps _ read.steps.size _ read.bound.0 read.steps.direct read.in_order in
    past_given _ _ _ (g.met.C.Coding.lawful _) _ c.args.progress.now c.requires.place _ c.requires.sure c.requires.past _
    c.requires.room _ read.keeps
    _ read.steps.size c.requires.offers known none _ (omega arith) read.bound.0 read.steps.direct read.in_order _ _
    (record { place = c.take.ensures.place; taken = c.take.ensures.taken })
    (c.behind-behind.ensures.leads _ carries) c.behind-behind.ensures.place
