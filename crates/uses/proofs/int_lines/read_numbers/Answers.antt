-- Where no line is left none has a number, so the numbers so far are all.
use Rattle.std.proofs.Common.{ℕ, List, [], Option, None, Some, append-nil, vec_items}
use Rattle.std.specs.Io.KnownBytes.{IsAtEnd}
use Rattle.uses.specs.IntLines.{AreKnownNumbers}
use Rattle.uses.proofs.int_lines.read_numbers.Goals as goal

none_left : (known : Option (List ℕ)) → IsAtEnd known → AreKnownNumbers known []
none_left None ended = tt
none_left (Some text) ended = ended

pub returns-in-None : goal.returns-in-None
returns-in-None g c =
    let none = none_left _ (rw c.in-None.is at c.next.ensures.steps).1 in
    rw (append-nil (vec_items c.loop-turn.numbers)) at (c.loop-turn.invariant [] none)
