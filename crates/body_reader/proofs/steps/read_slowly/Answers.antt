-- What was skipped is no payload, so what is handed out behind it is what the whole read hands out.
use Rattle.std.proofs.Common.{◌<◌, arith, length}
use Rattle.std.proofs.lemmas.Result.{err_from_is_err_and}
use Rattle.body_reader.proofs.Filling.{payload_here}
use Rattle.body_reader.proofs.Handing.{hands_after, hands_ended, hands_failed}
use Rattle.body_reader.proofs.steps.read_slowly.Goals as goal

pub returns-in_err-sure-clause-hands : goal.returns-in_err-sure-clause-hands
returns-in_err-sure-clause-hands g c =
    let p = err_from_is_err_and c.from_residual.result c.from_residual.ensures.1 in
    let skips = c.in_err-sure.ensures _ in
    rw (p.1, p.2) (hands_failed _ _ _ _ _ _ _ _ _ _ c.requires.begins.some _ skips.0 skips.1)

pub returns-then-sure-eq0-clause-hands : goal.returns-then-sure-eq0-clause-hands
returns-then-sure-eq0-clause-hands g c =
    let skips = rw c.if-sure-eq0.true at c.in_ok-sure.ensures in
    hands_ended _ _ _ _ _ _ _ _ _ _ c.requires.begins.some c.requires.begins.none (skips _)

pub read_sure-requires : goal.read_sure-requires
read_sure-requires g c =
    let skips = c.in_ok-sure.ensures 0 in
    let begins = c.requires.begins in
    record {
      begins = record {
        place = skips.0.takes.place;
        room = omega (arith, begins.room, skips.0.takes.along.capacity);
        none = begins.none;
        some = begins.some;
      };
      sure = payload_here g.R.TellRead.remaining g.P.ReaderPolicy.rules _ _ _ _ (omega (arith, c.if-sure-eq0.false)) skips.1.1;
    }

pub returns-clause-hands : goal.returns-clause-hands
returns-clause-hands g c =
    let room : 0 < length c.read_sure.new.out = omega (arith, c.requires.begins.some) in
    let skips = c.in_ok-sure.ensures _ in
    hands_after _ _ _ _ _ _ _ _ _ _ room skips.0 skips.1.0 _ _ _ c.read_sure.ensures.hands

pub returns-clause-rest : goal.returns-clause-rest
returns-clause-rest g c small =
    c.read_sure.ensures.rest (omega (arith, small, (c.in_ok-sure.ensures 0).0.takes.along.capacity))
