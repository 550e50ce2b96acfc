-- What follows of an Ok.
use Rattle.std.proofs.Common.{Result, Ok, Err, IfOk}

pub on_ok : {A E : Type 0} (P Q : A → Type 0) → ((a : A) → P a → Q a) → (r : Result A E) → IfOk r P → IfOk r Q
on_ok P Q f (Ok a) p = f a p
on_ok P Q f (Err e) p = tt
