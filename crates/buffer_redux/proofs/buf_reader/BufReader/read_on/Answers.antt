-- Reads that are made again, and go on, join the first one.
use Rattle.buffer_redux.specs.ReadAllLaws.{HandedFront-none}
use Rattle.buffer_redux.proofs.buf_reader.BufReader.read_on.Goals as goal

pub returns : goal.returns
returns g c = record { exact = λ s was one. c.fill_on.ensures.fills s was (HandedFront-none _ _ s one.whole) one }
