-- Where it is known which payloads are left, an error that a call answers is one of the stream inside.
use Rattle.std.proofs.Common.{Err, subst}
use Rattle.piece_reader.specs.Runs.{kept_answer}
use Rattle.codec.proofs.laws.known.next_of_known.Goals as goal

pub into_io-requires : goal.into_io-requires
into_io-requires g c =
    let s = c.args.reader.now in
    let t = c.next_copied.new.self in
    let left = c.requires.left in
    (g.met.P.KnownReader.answers_known s (Err c.in-Err.e) left.0 t left.1
    (subst (λ r. g.P.PayloadReader.goes s (kept_answer r) t) c.in-Err.is c.in_ok-found.ensures.next)).0
