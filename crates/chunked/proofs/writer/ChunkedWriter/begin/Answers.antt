-- Behind the space that was made the line goes in, and without it nothing; read through the writer's view.
use Rattle.std.proofs.Common.{refl, ap, ◌∙◌}
use Rattle.chunked.proofs.writer.ChunkedWriter.begin.Goals as goal

pub returns-in-Ok-clause-begins : goal.returns-in-Ok-clause-begins
returns-in-Ok-clause-begins g c =
    rw (← c.self.view_is) (record {
      spaced = c.make_space.new.writer;
      makes_space = c.in-Ok.ensures;
      ended = (c.put_line.ensures.put, c.put_line.ensures.wire, refl);
      calls = refl;
    })

pub returns-in-Err-clause-begins : goal.returns-in-Err-clause-begins
returns-in-Err-clause-begins g c =
    rw (← c.self.view_is) (record {
      spaced = c.make_space.new.writer;
      makes_space = c.in-Err.ensures;
      ended = (refl, refl, ap (λ x. x.due) c.self.view_is ∙ c.requires.between);
      calls = refl;
    })
