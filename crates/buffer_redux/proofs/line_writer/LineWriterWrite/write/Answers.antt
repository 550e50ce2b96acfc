-- The buffered writer's clause, read through the line writer's view.
use Rattle.buffer_redux.proofs.line_writer.LineWriterWrite.write.Goals as goal

pub returns-clause-empty : goal.returns-clause-empty
returns-clause-empty g c is some = rw (← c.self.view_is) (c.write.ensures.empty is some)
