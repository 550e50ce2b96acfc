-- Where the text was drained the codings change places behind it, and the head is gone on from; else it stands in it still.
use Rattle.std.proofs.Common.{ap, inl, inr, refl, ◌∙◌}
use Rattle.std.proofs.lemmas.Result.{err_from_is_err_and}
use Rattle.multipart.proofs.reader.Multipart.pass_text.Goals as goal

pub returns-in_err-drain : goal.returns-in_err-drain
returns-in_err-drain g c =
    let p = err_from_is_err_and c.from_residual.result c.from_residual.ensures.1 in
    rw (← c.self.view_is, p.1, p.2) (inr (_, refl, refl, c.in_err-drain.ensures.drains))

pub begin_next-requires-clause-ended : goal.begin_next-requires-clause-ended
begin_next-requires-clause-ended g c = rw c.in_ok-drain.ensures.drains.takes.went.coding c.in_ok-drain.ensures.ended

pub returns : goal.returns
returns g c =
    let next = c.begin_next.ensures in
    let goes = rw (next.begun, next.before, c.clear.ensures.items, c.clear.ensures.capacity) at c.go_on.ensures in
    let heads = rw (c.is_full-full.ensures, ← c.self.view_is) at c.turn_last.ensures in
    rw (← c.self.view_is) (inl (c.drain.new.self, c.turn_last.new.heads, c.in_ok-drain.ensures.drains, heads, goes))

pub invariant_of-self : goal.invariant_of-self
invariant_of-self g c =
    let stand = ap (λ x. x.stand) c.self.view_is in
    let still = c.in_err-drain.ensures.drains.takes.went.coding in
    elim c.requires.text [
      | inl first ↦ rw (stand ∙ first, still) (rw (stand ∙ first) at c.self.invariant)
      | inr later ↦ rw (stand ∙ later, still) (rw (stand ∙ later) at c.self.invariant)
    ]
