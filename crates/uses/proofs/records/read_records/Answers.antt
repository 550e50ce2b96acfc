-- Where nothing is left, what was consumed is all that there was.
use Rattle.std.proofs.Common.{◌≡◌, ℕ, List, Option, None, Some, IfSome, ap, ◌∙◌, ◌++◌, append-nil}
use Rattle.std.specs.Io.KnownBytes.{Consumes, IsAtEnd}
use Rattle.uses.proofs.records.read_records.Goals as goal

-- where nothing is left, what was consumed is all that there was
consumed_all : (a b : Option (List ℕ)) (bs : List ℕ) → Consumes a b bs → IsAtEnd b → IfSome a (λ xs. xs ≡ bs)
consumed_all None b bs went ended = tt
consumed_all (Some xs) None bs went ended = absurd went
consumed_all (Some xs) (Some ys) bs went ended = went ∙ ap (λ l. bs ++ l) ended ∙ append-nil bs

pub returns-in-None-clause-all : goal.returns-in-None-clause-all
returns-in-None-clause-all g c =
    consumed_all _ _ _ c.loop-turn.invariant.read (rw c.in-None.is at c.in_ok-read_record.ensures)
