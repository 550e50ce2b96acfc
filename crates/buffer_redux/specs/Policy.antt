-- What a policy may do, and what it may claim.
use Rattle.std.specs.Prelude.{◌≡◌, ℕ, ◌*◌, ◌<◌, ◌≤◌, ◌==◌, Bool, true, false, length, Result, Ok, IfOk, OnErr, IsOkAnd, MatchBool, MatchResult, ⊤, Option, None, Some, nat_lt, if◌then◌else◌, IfSome}
use Rattle.std.specs.declared.io.Error.{Error}
use Rattle.redux_buffer.specs.Block.{Block, IsBlock, OnKind, usable}
use Rattle.redux_buffer.specs.Potential.{potential}
use Rattle.buffer_redux.specs.declared.policy.DoRead.{DoRead}
use Rattle.buffer_redux.specs.declared.policy.FlushAmt.{FlushAmt}

-- the law of every policy's call, also where it returns `Err`
pub record Lawful (old new : Block) : Type 0 where
  pub bytes : new.bytes ≡ old.bytes
  pub kind : new.kind ≡ old.kind
  pub consumed : new.consumed ≡ old.consumed
  pub capacity : old.capacity ≤ new.capacity
  pub whole : IsBlock old → IsBlock new

-- what a reader's policy may claim beyond its tables
pub record ReadClaims : Type 0 where
  -- the policy has filling go on until this many bytes are there, and no longer
  pub minimum : Option ℕ
  -- the policy returns no error, and reads into an empty buffer
  pub steady : Bool
  -- the policy spares each number from this one on: where the capacity is three times as large, it doesn't raise the potential
  pub spares : Option ℕ

abbrev pub no_read_claims : ReadClaims
no_read_claims = record { minimum = None; steady = false; spares = None }

-- what the calls of a reader's policy may answer and change beside the law, and what it claims. Each table says which calls
-- there may be, by the policy and the buffer before, the answer, and both after; `after_consume` is of an amount
pub record ReadRules (P : Type 0) : Type 1 where
  pub before_read : P → Block → Result DoRead Error → P → Block → Type 0
  pub after_consume : P → Block → ℕ → P → Block → Type 0
  pub claims : P → ReadClaims

-- the same of a writer's policy: `before_write` is of so many incoming bytes, and `after_write` leaves the buffer
pub record WriteRules (P : Type 0) : Type 1 where
  pub before_write : P → Block → ℕ → Result FlushAmt Error → P → Block → Type 0
  pub after_write : P → Block → FlushAmt → P → Type 0
  -- whether it is steady: returns no error, and flushes all where the incoming bytes don't fit
  pub claims : P → record { steady : Bool }

-- no more than the law
abbrev pub any_read_rules : {P : Type 0} → ReadRules P
any_read_rules = record { before_read = λ _ _ _ _ _. ⊤; after_consume = λ _ _ _ _ _. ⊤; claims = λ _. no_read_claims }

abbrev pub any_write_rules : {P : Type 0} → WriteRules P
any_write_rules = record { before_write = λ _ _ _ _ _ _. ⊤; after_write = λ _ _ _ _. ⊤; claims = λ _. record { steady = false } }

-- in a plain buffer of at least three times the number no move is undone, and the potential doesn't rise
abbrev pub Spares : ℕ → Block → Block → Type 0
Spares n old new = OnKind old.kind
    ((old.moved ≤ new.moved) × ((keep : ℕ) → n ≤ keep → 3 * keep ≤ old.capacity → potential keep new ≤ potential keep old))
    ⊤

-- the numbers that such a claim speaks of
abbrev pub ClaimsToSpare : Option ℕ → ℕ → Type 0
ClaimsToSpare None keep = ⊥
ClaimsToSpare (Some n) keep = n ≤ keep

-- one call of `before_read`. What the policy claims doesn't change in a call
pub record BeforeRead {P : Type 0} (rules : ReadRules P)
    (p : P) (b : Block) (answer : Result DoRead Error) (p' : P) (b' : Block) : Type 0 where
  pub law : Lawful b b'
  pub allowed : rules.before_read p b answer p' b'
  pub claims : rules.claims p' ≡ rules.claims p
  -- under a minimum it reads where fewer bytes are there, and leaves room then; it fails only there, doesn't grow a buffer
  -- that can hold so many, and leaves the limit
  pub minimum : IfSome (rules.claims p).minimum (λ n. record {
    ok : IfOk answer (λ d. MatchBool d.0 ((length b.bytes < n) × (0 < usable b')) (n ≤ length b.bytes));
    err : OnErr answer (length b.bytes < n);
    capacity : n ≤ b.capacity → b'.capacity ≡ b.capacity;
    limit : b'.limit ≡ b.limit;
  })
  pub steady : MatchBool (rules.claims p).steady (IsOkAnd answer (λ d. length b.bytes ≡ 0 → d.0 ≡ true)) ⊤
  pub spares : IfSome (rules.claims p).spares (λ n. Spares n b b')

-- one call of `after_consume` of so many bytes
pub record AfterConsume {P : Type 0} (rules : ReadRules P)
    (p : P) (b : Block) (amount : ℕ) (p' : P) (b' : Block) : Type 0 where
  pub law : Lawful b b'
  pub allowed : rules.after_consume p b amount p' b'
  pub claims : rules.claims p' ≡ rules.claims p
  pub spares : IfSome (rules.claims p).spares (λ n. Spares n b b')

-- one call of `before_write` of so many incoming bytes
pub record BeforeWrite {P : Type 0} (rules : WriteRules P)
    (p : P) (b : Block) (incoming : ℕ) (answer : Result FlushAmt Error) (p' : P) (b' : Block) : Type 0 where
  pub law : Lawful b b'
  pub allowed : rules.before_write p b incoming answer p' b'
  pub claims : rules.claims p' ≡ rules.claims p
  pub steady : MatchBool (rules.claims p).steady (IsOkAnd answer (λ a. usable b' < incoming → a.0 ≡ length b'.bytes)) ⊤

-- one call of `after_write`
pub record AfterWrite {P : Type 0} (rules : WriteRules P) (p : P) (b : Block) (amount : FlushAmt)
    (p' : P) : Type 0 where
  pub allowed : rules.after_write p b amount p'
  pub claims : rules.claims p' ≡ rules.claims p

-- the answers `Ok(DoRead(false))` and `Ok(DoRead(true))`
abbrev pub no_read : Result DoRead Error
no_read = Ok (record { 0 = false })

abbrev pub read_now : Result DoRead Error
read_now = Ok (record { 0 = true })

-- how much is flushed before a write by default: all, where the incoming bytes don't fit
abbrev pub amount_when_full : Block → ℕ → ℕ
amount_when_full b incoming = if nat_lt (usable b) incoming then length b.bytes else 0

-- `StdPolicy` reads only where nothing is buffered, and changes nothing
abbrev pub std_read_rules : {P : Type 0} → ReadRules P
std_read_rules = record {
  before_read = λ p b answer p' b'.
      MatchResult answer (λ d. (p' ≡ p) × (b' ≡ b) × (d.0 ≡ (length b.bytes == 0))) (λ _. ⊥);
  after_consume = λ p b n p' b'. (p' ≡ p) × (b' ≡ b);
  claims = λ p. record { minimum = None; steady = true; spares = Some 0 };
}

-- `StdPolicy` flushes all before a write that doesn't fit, nothing after one, and changes nothing
abbrev pub std_write_rules : {P : Type 0} → WriteRules P
std_write_rules = record {
  before_write = λ p b incoming answer p' b'.
      MatchResult answer (λ a. (p' ≡ p) × (b' ≡ b) × (a.0 ≡ amount_when_full b incoming)) (λ _. ⊥);
  after_write = λ p b a p'. (p' ≡ p) × (a.0 ≡ 0);
  claims = λ p. record { steady = true };
}
