-- All payload begins with the first byte; none goes on behind a 0; and no bytes lead on from where one leads.
use Rattle.std.proofs.Common.{◌≡◌, ◌≢◌, ℕ, ◌==◌, List, [], ◌∷◌, ◌++◌, Bool, true, false, if◌then◌else◌, inl, inr, refl, subst}
use Rattle.body_reader.specs.ByByte.{CompletesByTurns}
use Rattle.body_reader.specs.declared.by_byte.Turn.{Turn}
use Rattle.body_reader.specs.declared.by_byte.Turn.TheVariants.{Payload, Passed, Wrong}
use Rattle.tests_bodies.specs.Refused.{lost}
use Rattle.tests_bodies.proofs.laws.refused.Goals as goal

-- what a byte is there: wrong, or payload
abbrev turn_there : Bool → Turn ℕ (Unit {0})
turn_there zero = if zero then Wrong tt else Payload 2

kept : (zero : Bool) (q : ℕ) → turn_there zero ≡ Payload q → q ≡ 2
kept true q is = let odd : Wrong tt ≡ Payload q = is in cc
kept false q is = cc

none_passed : (zero : Bool) (q : ℕ) → turn_there zero ≢ Passed q
none_passed true q is = let odd : Wrong tt ≡ Passed q = is in cc
none_passed false q is = let odd : Payload 2 ≡ Passed q = is in cc

never_ends : (rest payload : List ℕ) → ¬ CompletesByTurns lost 2 rest payload
never_ends [] payload c = let odd : false ≡ true = c.0 in cc
never_ends (byte ∷ rest) payload (_, inl c) =
    never_ends rest c.1 (subst (λ q. CompletesByTurns lost q rest c.1) (kept (byte == 0) c.0 c.2) c.4)
never_ends (byte ∷ rest) payload (_, inr c) = none_passed (byte == 0) c.0 c.1

pub returns-clause-withholds : goal.returns-clause-withholds
returns-clause-withholds c n left byte bytes is = is.unknown [] byte bytes (bytes ++ is.behind) refl is.completes.1

pub returns-clause-waits : goal.returns-clause-waits
returns-clause-waits c n left bytes is = is.completes.2.0 refl

pub returns-clause-loses : goal.returns-clause-loses
returns-clause-loses c lawful = let end = lawful.alive 2 in never_ends end.0 end.1 end.2
