-- The buffered writer's clause, read through the line writer's view.
use Rattle.buffer_redux.proofs.line_writer.LineWriter.finish.Goals as goal

pub returns : goal.returns
returns g c = rw (← c.self.view_is) c.finish.ensures
