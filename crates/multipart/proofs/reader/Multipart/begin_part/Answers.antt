-- What a whole head says, read through the view: the codings change places.
use Rattle.std.proofs.Common.{◌≡◌, false, subst, arith}
use Rattle.std.proofs.lemmas.Bool.{lt-leb}
use Rattle.multipart.specs.declared.reader.Stand.TheVariants.{Part}
use Rattle.multipart.specs.Multipart.{BeginsHead, IsForm, is_full, turned}
use Rattle.multipart.proofs.reader.Multipart.begin_part.Goals as goal

pub begin_next-requires-clause-ended : goal.begin_next-requires-clause-ended
begin_next-requires-clause-ended g c = rw (← c.self.view_is) at c.requires.whole

pub overflow_add-self : goal.overflow_add-self
overflow_add-self g c = omega (arith, rw (← c.self.view_is) at (c.is_last.ensures.other c.if-is_last.false))

pub invariant_of-self-2 : goal.invariant_of-self-2
invariant_of-self-2 g c =
    let d = c.args.self.now in
    let form = subst (λ x. IsForm x.stand x) c.self.view_is c.self.invariant in
    let is : BeginsHead d = subst (λ x. IsForm x d) c.requires.head form in
    let free : is_full d ≡ false = lt-leb d.limits.parts d.parts (c.is_last.ensures.other c.if-is_last.false).1 in
    let part : IsForm Part (turned d Part) =
    (rw free at is.codings, (d.body.taken, rw is.all c.requires.whole), rw free at is.few) in
    rw (c.begin_next.ensures.begun, c.begin_next.ensures.before) (rw (← c.self.view_is) at part)
