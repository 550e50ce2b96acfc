-- How much a plain block may still have to move, and has moved.
use Rattle.std.specs.Prelude.{◌≡◌, ℕ, ◌+◌, ◌-◌, ◌*◌, ◌≤◌, ◌==◌, List, length}
use Rattle.std.proofs.Common.{arith, subst}
use Rattle.std.proofs.lemmas.Bool.{cond_both}
use Rattle.redux_buffer.specs.Block.{Block, Kind, Plain, OnKind, Extends, MakesRoom, usable}

-- what was moved, and how far the bytes reach beyond the first keep places
abbrev pub potential : ℕ → Block → ℕ
potential keep b = b.moved + (b.capacity - usable b - keep)

-- in a plain block no move was undone, and the potential rose by at most so much, whatever the number
abbrev pub PlainRises : ℕ → Block → Block → Type 0
PlainRises most old new = old.kind ≡ Plain → (old.moved ≤ new.moved)
    × ((keep : ℕ) → potential keep new ≤ potential keep old + most)

-- what is said of a kind holds of a block of that kind
pub of_plain : (k : Kind) (P Q : Type 0) → k ≡ Plain → OnKind k P Q → P
of_plain k P Q plain x = subst (λ o. OnKind o P Q) plain x

-- appending m bytes raises the potential by at most m
pub potential-append : (xs : List ℕ) (old new : Block) → Extends xs old new → PlainRises (length xs) old new
potential-append xs old new adds plain =
    let still = of_plain old.kind (new.moved ≡ old.moved) (old.moved ≤ new.moved) plain adds.moved in
    (omega (arith, still), λ keep. omega (arith, still, adds.usable, adds.capacity))

-- making room doesn't raise it where it pays: the capacity is at least three times the number, and no more than it is there,
-- or fits behind that
pub potential-make_room : (keep : ℕ) (old new : Block) → MakesRoom old new → 3 * keep ≤ old.capacity
    → length old.bytes ≤ keep → usable old ≤ keep → old.kind ≡ Plain → potential keep new ≤ potential keep old
potential-make_room keep old new room three held few plain =
    let all : new.moved ≤ old.moved + length old.bytes =
    rw (room.moved, plain) (cond_both (old.capacity - usable old - length old.bytes == 0) 0 (length old.bytes)
    (λ n. old.moved + n ≤ old.moved + length old.bytes) (λ _. omega arith) (λ _. omega arith)) in
    omega (arith, all, room.usable, room.capacity, three, held, few)
