-- A run that begins at a byte of payload has some, and each of its bytes is payload, whatever follows.
use Rattle.std.proofs.Common.{◌∙◌, sym, arith}
use Rattle.body_reader.specs.ByByteLaws.{looks_none, looks_passed, looks_payload}
use Rattle.body_reader.proofs.by_byte.ByByteCoding.look.Goals as goal

pub returns-then-is_empty : goal.returns-then-is_empty
returns-then-is_empty g c =
    looks_none _ (g.met.C.ByteCoding.lawful _) c.args.place c.args.shown.now
    (sym c.is_empty.ensures ∙ c.if-is_empty.true) (sym c.is_end.ensures ∙ c.if-is_end.false)

pub returns-in-Payload : goal.returns-in-Payload
returns-in-Payload g c = grind (arith, looks_payload)

pub returns-in-Passed : goal.returns-in-Passed
returns-in-Passed g c =
    looks_passed _ (g.met.C.ByteCoding.lawful _) c.args.place c.in-Passed.next c.args.shown.now
    (sym c.is_empty.ensures ∙ c.if-is_empty.false)
    (sym c.is_end.ensures ∙ c.if-is_end.false) (sym c.turn.ensures ∙ c.in-Passed.is)
