-- A look at one byte shows none only where the stream gave none, and what is known stays so where more is shown.
use Rattle.std.proofs.lemmas.Result.{err_from_is_err_and}
use Rattle.body_reader.proofs.Behind.{looks_failed, looks_told}
use Rattle.body_reader.proofs.reader.BodyReader.is_at_end.Goals as goal

pub returns-in_err-peek-clause-looks : goal.returns-in_err-peek-clause-looks
returns-in_err-peek-clause-looks g c =
    let found = rw c.in_err-peek.was at c.peek.follows.holds-at-none in
    let p = err_from_is_err_and c.from_residual.result c.from_residual.ensures.1 in
    rw (p.1, p.2, ← c.self.view_is)
    (looks_failed _ _ _ (g.met.C.Coding.lawful _) _ _ c.self.inside.progress _ _ c.self.invariant _ _ found.0)

pub returns-clause-looks : goal.returns-clause-looks
returns-clause-looks g c =
    let found = rw c.in_ok-peek.was at c.peek.follows.holds-at-none in
    rw (← c.self.view_is)
    (looks_told _ _ _ (g.met.C.Coding.lawful _) _ _ c.self.inside.progress _ _ c.self.invariant _ _ found.0 _ found.1 _
    c.is_empty.ensures)

pub invariant_of-self-2 : goal.invariant_of-self-2
invariant_of-self-2 g c =
    let found = rw c.in_ok-peek.was at c.peek.follows.holds-at-none in
    (looks_told _ _ _ (g.met.C.Coding.lawful _) _ _ c.self.inside.progress _ _ c.self.invariant _ _ found.0 _ found.1 _
    c.is_empty.ensures).whole
