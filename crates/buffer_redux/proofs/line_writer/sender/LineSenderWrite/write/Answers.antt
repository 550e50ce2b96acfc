-- The line writer's clause, read through the line sender's view.
use Rattle.buffer_redux.proofs.line_writer.sender.LineSenderWrite.write.Goals as goal

pub returns-clause-empty : goal.returns-clause-empty
returns-clause-empty g c is some = rw (← c.self.view_is) (c.write.ensures.empty is some)
