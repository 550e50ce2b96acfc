-- One fill is answered with nothing once at most, and moves nothing where its minimum is there.
use Rattle.uses.specs.OwnPolicy.{sixteen_rules}
use Rattle.buffer_redux.specs.EmptyReads.{fill_once}
use Rattle.uses.proofs.Filling.{sixteen_still}
use Rattle.uses.proofs.own_policy.sees_header.Goals as goal

pub returns-in_err-fill_buf-clause-once : goal.returns-in_err-fill_buf-clause-once
returns-in_err-fill_buf-clause-once g c = fill_once sixteen_rules _ _ _ c.fill_buf.follows.holds-at-none.fills.filled

pub returns-clause-once : goal.returns-clause-once
returns-clause-once g c = fill_once sixteen_rules _ _ _ c.fill_buf.follows.holds-at-none.fills.filled

pub returns-in_err-fill_buf-clause-still : goal.returns-in_err-fill_buf-clause-still
returns-in_err-fill_buf-clause-still g c = λ many. sixteen_still _ _ _ many c.fill_buf.follows.holds-at-none.fills.filled

pub returns-clause-still : goal.returns-clause-still
returns-clause-still g c = λ many. sixteen_still _ _ _ many c.fill_buf.follows.holds-at-none.fills.filled
