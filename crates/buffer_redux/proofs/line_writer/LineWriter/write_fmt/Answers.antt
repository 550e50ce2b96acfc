-- The buffered writer's clause, read through the line writer's view.
use Rattle.buffer_redux.proofs.line_writer.LineWriter.write_fmt.Goals as goal

pub returns-clause-text : goal.returns-clause-text
returns-clause-text g c = rw (← c.self.view_is) c.write_fmt.ensures.text
