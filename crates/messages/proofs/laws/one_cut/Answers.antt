-- The law that a text is cut into so many messages in one way.
use Rattle.messages.specs.MessagesLaws.{one_cut}
use Rattle.messages.proofs.laws.one_cut.Goals as goal

pub returns : goal.returns
returns c = one_cut
