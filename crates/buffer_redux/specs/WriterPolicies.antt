-- What the policies of writers do that flush by the bytes, or by how many are buffered.
use Rattle.std.specs.Prelude.{◌≡◌, ℕ, ◌-◌, ◌<◌, ◌≤◌, ◌⊎◌, slice_index, length, max, true, Result, Ok, Err, MatchResult, false, IfOk}
use Rattle.std.specs.declared.io.Error.{Error}
use Rattle.redux_buffer.specs.Block.{Block, Reserves, MakesRoom, usable}
use Rattle.redux_buffer.specs.GrowError.{GrowthFailed}
use Rattle.buffer_redux.specs.Policy.{WriteRules, amount_when_full, std_write_rules}
use Rattle.buffer_redux.specs.declared.policy.FlushAmt.{FlushAmt}

-- `FlushOn` flushes after a write through the last such byte, nothing where there is none, and does else what `StdPolicy` does
abbrev pub flush_on_rules : {P : Type 0} → (P → ℕ) → WriteRules P
flush_on_rules byte = record {
  before_write = std_write_rules.before_write;
  after_write = λ p b a p'. (p' ≡ p) × record {
    last : 0 < a.0 → (a.0 ≤ length b.bytes) × (slice_index b.bytes (a.0 - 1) ≡ byte p);
    none_after : (k : ℕ) → a.0 ≤ k → k < length b.bytes → ¬ (slice_index b.bytes k ≡ byte p);
  };
  claims = λ p. record { steady = true };
}

-- what a capacity of n lacks was reserved, and nothing where it lacks nothing; or it was refused, and nothing changed then
abbrev pub EnsuresCapacity : {A : Type 0} → ℕ → Block → Result A Error → Block → Type 0
EnsuresCapacity n old (Ok a) new =
    (n ≤ old.capacity → new ≡ old) × (old.capacity < n → Reserves (n - old.capacity) old new)
EnsuresCapacity n old (Err e) new = (new ≡ old) × GrowthFailed (n - old.capacity) old e

-- `FlushAtLeast` reserves what a capacity of its number lacks, and flushes all where the incoming bytes don't fit then;
-- after a write it flushes all, where that is at least its number
abbrev pub at_least_rules : {P : Type 0} → (P → ℕ) → WriteRules P
at_least_rules least = record {
  before_write = λ p b incoming answer p' b'. (p' ≡ p) × EnsuresCapacity (least p) b answer b'
      × IfOk answer (λ a. a.0 ≡ amount_when_full b' incoming);
  after_write = λ p b a p'. (p' ≡ p) × (a.0 ≡ max (length b.bytes) (least p));
  claims = λ p. record { steady = false };
}

-- `FlushExact` reserves what a capacity of its number lacks, makes room where fewer bytes are there and the incoming ones
-- don't fit behind them, and flushes its number, after a write too
abbrev pub exact_rules : {P : Type 0} → (P → ℕ) → WriteRules P
exact_rules exact = record {
  before_write = λ p b incoming answer p' b'. (p' ≡ p) × MatchResult answer
      (λ a. (a.0 ≡ exact p) × ((m : Block) × EnsuresCapacity (exact p) b (Ok a) m × record {
        tight : usable m < incoming → length m.bytes < exact p → MakesRoom m b';
        roomy : (incoming ≤ usable m) ⊎ (exact p ≤ length m.bytes) → b' ≡ m;
      }))
      (λ e. EnsuresCapacity {A = FlushAmt} (exact p) b (Err e) b');
  after_write = λ p b a p'. (p' ≡ p) × (a.0 ≡ exact p);
  claims = λ p. record { steady = false };
}
