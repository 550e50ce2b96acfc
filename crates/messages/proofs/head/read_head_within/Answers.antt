-- A head of a later version counts as with a 1 in place of that byte, and any other as it stands.
use Rattle.std.proofs.Common.{◌∙◌, ap, sym, Result, Ok, Err, OnErr}
use Rattle.messages.specs.Names.{with_one}
use Rattle.messages.proofs.head.read_head_within.Goals as goal

-- what is so at an error
behind : {A E P Q : Type 0} (r : Result A E) → (P → Q) → OnErr r P → OnErr r Q
behind (Ok x) so h = tt
behind (Err e) so h = so h

pub returns-in-Some-clause-none : goal.returns-in-Some-clause-none
returns-in-Some-clause-none c =
    let same = ap (with_one c.args.head.now) (sym c.later_at.ensures.value ∙ c.in-Some.is) in
    behind c.read_later.result (λ none said is. none said (rw same at is.known))
    c.read_later.ensures.none

pub returns-in-None-clause-none : goal.returns-in-None-clause-none
returns-in-None-clause-none c =
    let same = ap (with_one c.args.head.now) (sym c.later_at.ensures.value ∙ c.in-None.is) in
    behind c.read_known.result (λ none said is. none said (rw same at is.known))
    c.read_known.ensures.none
