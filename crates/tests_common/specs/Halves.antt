-- What `Halves` does before a read and around a write.
use Rattle.std.specs.Prelude.{◌≡◌, ℕ, ◌*◌, length, nat_le, if◌then◌else◌, Result, Ok, Err, Some, None, true}
use Rattle.std.specs.declared.io.Error.{Error}
use Rattle.buffer_redux.specs.Block.{Block}
use Rattle.buffer_redux.specs.declared.policy.DoRead.{DoRead}
use Rattle.buffer_redux.specs.declared.policy.FlushAmt.{FlushAmt}
use Rattle.buffer_redux.specs.Policy.{ReadRules, WriteRules, amount_when_full}
use Rattle.tests_common.specs.declared.claims.Halves.{Halves}

-- `Halves` reads until more than half of the capacity is buffered
abbrev pub halves_before_read : Halves → Block → Result DoRead Error → Halves → Block → Type 0
halves_before_read p b (Ok d) p' b' = (p' ≡ p) × (b' ≡ b) × (d.0 ≡ nat_le (2 * length b.bytes) b.capacity)
halves_before_read p b (Err e) p' b' = ⊥

-- `Halves` returns no error, reads into an empty buffer, and spares each number
abbrev pub halves_read_rules : ReadRules Halves
halves_read_rules = record {
  before_read = halves_before_read;
  after_consume = λ p b amount p' b'. (p' ≡ p) × (b' ≡ b);
  claims = λ p. record { minimum = None; steady = true; spares = Some 0 };
}

-- before a write it flushes all where the incoming bytes don't fit
abbrev pub halves_before_write : Halves → Block → ℕ → Result FlushAmt Error → Halves → Block → Type 0
halves_before_write p b incoming (Ok a) p' b' = (p' ≡ p) × (b' ≡ b) × (a.0 ≡ amount_when_full b incoming)
halves_before_write p b incoming (Err e) p' b' = ⊥

-- after one it flushes all where that is more than half of the capacity
abbrev pub halves_write_rules : WriteRules Halves
halves_write_rules = record {
  before_write = halves_before_write;
  after_write = λ p b a p'.
      (p' ≡ p) × (a.0 ≡ (if nat_le (2 * length b.bytes) b.capacity then 0 else length b.bytes));
  claims = λ p. record { steady = true };
}
