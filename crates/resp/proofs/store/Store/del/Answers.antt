-- Keys are the same where their bytes are, so a change at one leaves what each other key finds.
use Rattle.resp.proofs.Keys.{count_taken, puts}
use Rattle.resp.proofs.store.Store.del.Goals as goal

pub returns-clause-put : goal.returns-clause-put
returns-clause-put c = puts c.args.key.now _ c.args.self.now.map c.remove.new.self _ c.remove.ensures.updates
    (count_taken _ _ _ _ c.remove.ensures.value c.remove.ensures.len)
