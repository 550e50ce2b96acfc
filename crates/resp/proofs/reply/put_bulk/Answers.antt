-- The parts are those of a bulk string, its length as `format` writes it.
use Rattle.resp.proofs.reply.put_bulk.Goals as goal

pub returns : goal.returns
returns g c = rw (← c.format.ensures.text, ← c.as_bytes-len.ensures.value) c.write_parts.ensures.parts
