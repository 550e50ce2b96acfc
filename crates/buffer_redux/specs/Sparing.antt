-- How calls of a reader spare its plain buffer moves, over any trace of them.
use Rattle.std.specs.Prelude.{◌≡◌, ℕ, ◌+◌, ◌*◌, ◌≤◌, [], length}
use Rattle.std.proofs.Common.{◌∙◌, arith, le_refl, le_trans, refl}
use Rattle.redux_buffer.specs.Block.{Plain, IsBlock}
use Rattle.redux_buffer.specs.Potential.{potential}
use Rattle.buffer_redux.specs.Policy.{ReadRules, ClaimsToSpare}
use Rattle.redux_buffer.specs.StreamLog.{StreamLog}
use Rattle.buffer_redux.specs.Buffered.{Buffered, with_calls}

-- no move was undone, and the potential rose by no more than was given
pub record PotentialHeld {S P Q : Type 0} (keep : ℕ) (s : Buffered S P) (t : Buffered S Q) : Type 0 where
  pub moved : s.block.moved ≤ t.block.moved
  pub held :
      potential keep t.block + length s.log.reads.given ≤ potential keep s.block + length t.log.reads.given

-- the calls spared a number: the potential of a plain buffer of at least three times it was held. The kind stayed, and
-- the capacity wasn't lowered, so calls that follow spare it too
pub record Spared {S P Q : Type 0} (keep : ℕ) (s : Buffered S P) (t : Buffered S Q) : Type 0 where
  pub kind : t.block.kind ≡ s.block.kind
  pub capacity : s.block.capacity ≤ t.block.capacity
  pub plain : s.block.kind ≡ Plain → 3 * keep ≤ s.block.capacity → PotentialHeld keep s t

-- the calls spared each number that the policy claims to spare
abbrev pub SparesClaimed : {S P : Type 0} → ReadRules P → Buffered S P → Buffered S P → Type 0
SparesClaimed rules s t = (keep : ℕ) → ClaimsToSpare (rules.claims s.policy).spares keep → Spared keep s t

-- no more bytes were moved than were given
abbrev pub MovedAtMostGiven : {S P Q : Type 0} → Buffered S P → Buffered S Q → Type 0
MovedAtMostGiven s t = t.block.moved + length s.log.reads.given ≤ s.block.moved + length t.log.reads.given

-- an empty plain buffer of at least three times the number
pub record BeginsEmpty {S P : Type 0} (keep : ℕ) (s : Buffered S P) : Type 0 where
  pub whole : IsBlock s.block
  pub plain : s.block.kind ≡ Plain
  pub empty : s.block.bytes ≡ []
  pub capacity : 3 * keep ≤ s.block.capacity

-- no call spares every number, and two traces join, also where the policy is another from the second on
pub Spared-none : {S P : Type 0} (keep : ℕ) (s : Buffered S P) → Spared keep s s
Spared-none keep s =
    record { kind = refl; capacity = le_refl _; plain = λ _ _. record { moved = le_refl _; held = le_refl _ } }

pub Spared-joins : {S P Q T : Type 0} (keep : ℕ) (s : Buffered S P) (m : Buffered S Q) (t : Buffered S T)
    → Spared keep s m → Spared keep m t → Spared keep s t
Spared-joins keep s m t p q = record {
  kind = q.kind ∙ p.kind;
  capacity = le_trans p.capacity q.capacity;
  plain = λ plain three.
      let first = p.plain plain three in
      let second = q.plain (p.kind ∙ plain) (omega (arith, three, p.capacity)) in
      record {
        moved = omega (arith, first.moved, second.moved);
        held = omega (arith, first.held, second.held);
      };
}

-- what is noted of calls moves nothing
pub Spared-noted : {S P Q : Type 0} (keep : ℕ) (s : Buffered S P) (t : Buffered S Q) (calls : StreamLog) → Spared keep s t
    → Spared keep s (with_calls t calls)
Spared-noted keep s t calls p = record {
  kind = p.kind;
  capacity = p.capacity;
  plain = λ plain three. let h = p.plain plain three in record { moved = h.moved; held = h.held };
}
