-- A law of places: nothing completes a body only behind it.
use Rattle.std.specs.Prelude.{◌≡◌, ℕ, zero, suc, List, []}
use Rattle.std.proofs.Common.{arith, refl}
use Rattle.chunked.specs.Names.{Completes, Data, Done, Fields, HasFields, Limits, Line, Place}

no_fields : (count room : ℕ) → HasFields count room [] → ⊥
no_fields count room odd = grind arith

pub Completes-nothing : (limits : Limits) (p : Place) (payload : List ℕ) → Completes limits p [] payload → p ≡ Done
Completes-nothing limits Line payload c = absurd c.chunks
Completes-nothing limits (Fields room) payload c = absurd (no_fields c.1.0 room c.1.1)
Completes-nothing limits Done payload c = refl
Completes-nothing limits (Data zero) payload c = absurd c
Completes-nothing limits (Data (suc left)) payload c = absurd c
Completes-nothing limits p payload c = grind arith
