-- The front of what is known to be payload leads on, and the rest is known where it leads.
use Rattle.std.proofs.Common.{◌++◌, ap, arith, drop, take, ◌∙◌}
use Rattle.body_reader.proofs.Handing.{front_carries, front_taken}
use Rattle.body_reader.proofs.steps.take_front.Goals as goal

pub behind-behind-requires-clause-carries : goal.behind-behind-requires-clause-carries
behind-behind-requires-clause-carries g c = (
  drop c.args.count c.args.reader.now.block.bytes,
  rw c.buffer.ensures.value (front_carries _ _ _ _ _
      (c.requires.known.1 (omega (arith, c.requires.some, c.requires.few))) c.requires.few
      (omega (arith, c.requires.few, c.requires.known.0))),
)

pub returns : goal.returns
returns g c =
    let behind = rw c.buffer.ensures.value at c.behind-behind.ensures in
    front_taken _ _ _ _ _ _ _ c.requires.known c.requires.some c.requires.few _ c.consume.ensures.inner
    c.consume.ensures.consumed c.consume.ensures.keeps _ behind.leads behind.still behind.place _ (record {
      place = c.take.ensures.place;
      taken = c.take.ensures.taken
          ∙ ap (λ l. c.args.progress.now.taken.log.fills.consumed ++ take c.args.count l) c.buffer.ensures.value;
    }) _ (omega arith)
