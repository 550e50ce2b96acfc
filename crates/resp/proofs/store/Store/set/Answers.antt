-- Keys are the same where their bytes are, so a change at one leaves what each other key finds.
use Rattle.std.proofs.Common.{Some, subst}
use Rattle.resp.specs.Stored.{SetsValue, holding}
use Rattle.resp.proofs.Keys.{count_put, puts}
use Rattle.resp.proofs.store.Store.set.Goals as goal

pub returns-in-Ok-insert-clause-put : goal.returns-in-Ok-insert-clause-put
returns-in-Ok-insert-clause-put c =
    let most = c.args.self.now.most in
    let old = holding c.args.self.now.map most in
    let new = holding c.insert.new.self most in
    subst (λ v. SetsValue c.args.key.now (Some v) old new) c.in-Ok-from_slice.ensures.items
    (subst (λ k. SetsValue k (Some c.in-Ok-from_slice.value.items) old new) c.in-Ok.ensures.items
    (puts c.in-Ok.key.items (Some c.in-Ok-from_slice.value) c.args.self.now.map c.insert.new.self most
    c.in-Ok-insert.ensures.updates (count_put _ _ _ _ c.in-Ok-insert.ensures.old c.in-Ok-insert.ensures.len)))
