-- What was passed and skipped is no payload, so what is shown behind it is what the whole fill shows.
use Rattle.std.proofs.Common.{Err, Ok, arith}
use Rattle.std.proofs.lemmas.Result.{err_from_is_err_and}
use Rattle.body_reader.specs.BetweenLaws.{Proceeds-after}
use Rattle.body_reader.proofs.Filling.{fill_after, fill_ended, payload_here}
use Rattle.body_reader.proofs.steps.fill_on.Goals as goal

pub returns-in_err-sure : goal.returns-in_err-sure
returns-in_err-sure g c =
    let p = err_from_is_err_and c.from_residual.result c.from_residual.ensures.1 in
    rw (p.1, p.2) (fill_after _ _ _ c.pass-look.ensures.passes (Err c.in_err-sure.field-0.0) (c.in_err-sure.ensures 0))

pub returns-then-sure-eq0 : goal.returns-then-sure-eq0
returns-then-sure-eq0 g c =
    let skips = rw c.if-sure-eq0.true at c.in_ok-sure.ensures in
    fill_after _ _ _ c.pass-look.ensures.passes (Ok 0) (fill_ended _ _ _ _ _ _ _ _ (skips 0))

pub show-requires : goal.show-requires
show-requires g c =
    let skips = c.in_ok-sure.ensures 0 in record {
      place = skips.0.takes.place;
      room = omega (arith, c.requires.room, c.pass-look.ensures.passes.takes.along.capacity, skips.0.takes.along.capacity);
      sure = payload_here g.R.TellRead.remaining g.P.ReaderPolicy.rules _ _ _ _ (omega (arith, c.if-sure-eq0.false)) skips.1.1;
    }

pub returns : goal.returns
returns g c =
    let skips = c.in_ok-sure.ensures 0 in
    fill_after _ _ _ c.pass-look.ensures.passes _ (Proceeds-after skips.0 skips.1.0 _ _ (c.show.ensures 0 (λ _. omega arith)))
