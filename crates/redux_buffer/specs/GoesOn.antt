-- A list that goes on, as a log does: what was there stays at its front.
use Rattle.std.specs.Prelude.{◌≡◌, List, [], ◌++◌}
use Rattle.std.proofs.Common.{sym, ap, ◌∙◌, append-nil, append_assoc}

pub record GoesOn {A : Type 0} (old new : List A) : Type 0 where
  pub more : List A
  pub equal : new ≡ old ++ more

pub GoesOn-none : {A : Type 0} (xs : List A) → GoesOn xs xs
GoesOn-none xs = record { more = []; equal = sym (append-nil xs) }

pub GoesOn-joins : {A : Type 0} (xs ys zs : List A) → GoesOn xs ys → GoesOn ys zs → GoesOn xs zs
GoesOn-joins xs ys zs p q = record {
  more = p.more ++ q.more;
  equal = q.equal ∙ ap (λ l. l ++ q.more) p.equal ∙ append_assoc xs p.more q.more;
}
