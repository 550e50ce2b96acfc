-- A body of a length is whole just where no byte is left of it.
use Rattle.messages.proofs.Inside.{sized_ended}
use Rattle.messages.proofs.body.Body.is_done.Goals as goal

pub returns-clause-sized : goal.returns-clause-sized
returns-clause-sized g c =
    let d = c.self.inside.reader in
    let done = c.is_done.ensures in
    rw (← c.self.view_is) (λ n same. (
      λ yes. (sized_ended d c.get_ref.ensures.whole n same).0 (done.0 yes),
      λ none. done.1 ((sized_ended d c.get_ref.ensures.whole n same).1 none),
    ))

pub returns-clause-ended : goal.returns-clause-ended
returns-clause-ended g c = rw (← c.self.view_is) c.is_done.ensures
