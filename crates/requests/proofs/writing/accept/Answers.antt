-- The parts are the head, and the length in a line of 21 bytes.
use Rattle.std.proofs.Common.{◌≡◌, ◌∙◌, codes, length}
use Rattle.std.proofs.lemmas.List.{take_rest}
use Rattle.std.specs.Fmt.{decimal}
use Rattle.requests.proofs.writing.accept.Goals as goal

pub returns : goal.returns
returns g c =
    let text : c.as_bytes-number.result.now ≡ decimal c.args.len = c.as_bytes-number.ensures.value ∙ c.format.ensures.text in
    rw (← c.success-head.ensures, c.if-said.false, ← text)
    (rw (take_rest (codes "                    ") (length c.as_bytes-number.result.now)) at c.put_line.ensures)
