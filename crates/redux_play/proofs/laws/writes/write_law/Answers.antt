-- What a write returned is read off how it took the bytes in, and what it left off its last flush.
use Rattle.redux_play.specs.WroteExactly.{Writes-exactly}
use Rattle.redux_play.proofs.laws.writes.write_law.Goals as goal

pub returns-clause-exactly : goal.returns-clause-exactly
returns-clause-exactly g c =
    Writes-exactly g.P.WriterPolicy.rules c.args.writer.now c.args.bytes.now
    c.write.result c.write.new.self c.write.ensures.steps
