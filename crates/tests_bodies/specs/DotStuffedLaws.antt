-- Laws of the coding of texts of mails.
use Rattle.std.proofs.Common.{◌≡◌, ◌≢◌, ℕ, ◌<◌, List, [], ◌∷◌, arith, refl}
use Rattle.body_reader.specs.ByByte.{AreLawful, CompletesByTurns}
use Rattle.body_reader.specs.ByByteLaws.{reaches}
use Rattle.body_reader.specs.declared.by_byte.Turn.TheVariants.{Payload, Passed}
use Rattle.tests_bodies.specs.declared.dot_stuffed.Place.{Place}
use Rattle.tests_bodies.specs.declared.dot_stuffed.Place.TheVariants as at
use Rattle.tests_bodies.specs.DotStuffed.{dot_stuffed, to_go, turn}

-- what is no payload leads on
nearer : (p q : Place) (byte : ℕ) → turn p byte ≡ Passed q → to_go q < to_go p
nearer at.Line q byte is = grind arith
nearer at.Dot q byte is = grind arith
nearer p q byte is = grind arith

-- no byte is payload whatever it is: a line feed is none but behind a CR, and there no other byte is
other : (p : Place) → (byte : ℕ) × ((q : Place) → turn p byte ≢ Payload q)
other at.Return = (0, λ q is. grind arith)
other at.LastReturn = (0, λ q is. grind arith)
other p = (10, λ q is. grind arith)

-- from each place some bytes lead to the end
alive : (p : Place) → (rest payload : List ℕ) × CompletesByTurns dot_stuffed p rest payload
alive at.Line = reaches dot_stuffed at.Line (46 ∷ 13 ∷ 10 ∷ []) refl
alive at.Within = reaches dot_stuffed at.Within (13 ∷ 10 ∷ 46 ∷ 13 ∷ 10 ∷ []) refl
alive at.Return = reaches dot_stuffed at.Return (10 ∷ 46 ∷ 13 ∷ 10 ∷ []) refl
alive at.Dot = reaches dot_stuffed at.Dot (13 ∷ 10 ∷ []) refl
alive at.LastReturn = reaches dot_stuffed at.LastReturn (10 ∷ []) refl
alive at.Done = reaches dot_stuffed at.Done [] refl

pub dot_stuffed_lawful : AreLawful dot_stuffed
dot_stuffed_lawful = record { nearer = nearer; other = other; alive = alive }
