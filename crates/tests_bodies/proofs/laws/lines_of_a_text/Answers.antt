-- What is read from the beginning of a line on is lines, and lines that are received are read so.
use Rattle.std.proofs.Common.{subst, sym}
use Rattle.body_reader.specs.ByByte.{by_byte}
use Rattle.body_reader.specs.Coding.{IsBody}
use Rattle.tests_bodies.specs.declared.dot_stuffed.Place.TheVariants.{Line}
use Rattle.tests_bodies.specs.DotStuffed.{dot_stuffed}
use Rattle.tests_bodies.specs.Lines.{received}
use Rattle.tests_bodies.proofs.Reading.{read}
use Rattle.tests_bodies.proofs.Received.{lines_text}
use Rattle.tests_bodies.proofs.laws.lines_of_a_text.Goals as goal

pub returns : goal.returns
returns c bytes payload = (
  λ body. read Line bytes payload body,
  λ is. subst (λ l. IsBody (by_byte dot_stuffed) l payload) (sym is.received)
      (subst (λ l. IsBody (by_byte dot_stuffed) (received is.lines) l) (sym is.text) (lines_text is.lines is.all)),
)
