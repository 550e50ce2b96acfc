-- What is offered where a read is ordered over an empty buffer alone, which the policy leaves as it is.
use Rattle.std.proofs.Common.{◌≡◌, ◌∙◌, ℕ, zero, suc, ◌+◌, ◌<◌, ◌≤◌, length, take, Result, Ok, Err, inl, inr, sym, ap, subst, arith, length-append, length-take-le}
use Rattle.std.specs.Prelude.{◌⊎◌}
use Rattle.std.specs.declared.io.Error.{Error}
use Rattle.redux_buffer.specs.Block.{IsBlock, Kind, OnKind, Plain, Ring, usable}
use Rattle.redux_buffer.specs.StreamLog.{portion}
use Rattle.buffer_redux.specs.Policy.{ReadRules}
use Rattle.buffer_redux.specs.Buffered.{Buffered}
use Rattle.buffer_redux.specs.EmptyReads.{ReadsWhole}
use Rattle.buffer_redux.specs.Fill.{Ends, Filled, Ordered, Turns}

-- all of an empty buffer can be written
space_of : (k : Kind) (len room cap : ℕ) → OnKind k (len ≡ 0 → room ≡ cap) (len + room ≡ cap) → len ≡ 0 → room ≡ cap
space_of Plain len room cap space none = space none
space_of Ring len room cap space none = omega (arith, space, none)

-- the last ask offered the whole capacity, and gave all that is buffered, or there was none
abbrev pub Offered : {S P : Type 0} → Buffered S P → Buffered S P → Type 0
Offered s t = (t.log ≡ s.log)
    ⊎ ((t.log.reads.offer ≡ s.block.capacity) × (length t.block.bytes ≤ length t.log.reads.latest))

module _ {S P : Type 0} (rules : ReadRules P) (leaves : ReadsWhole rules) where
  asked_all : (answer : Result ℕ Error) (s t : Buffered S P) → IsBlock s.block → Ordered rules answer s t → Offered s t
  asked_all answer s t whole a =
      let same : a.seen ≡ s.block = leaves.before _ _ _ _ _ a.asked.allowed in
      let empty = leaves.orders _ _ _ _ a.asked.allowed in inr (
        ap (λ l. l.reads.offer) a.read.told ∙ a.read.offered ∙ ap usable same
            ∙ space_of s.block.kind (length s.block.bytes) (usable s.block) s.block.capacity whole.space empty,
        omega (
          arith,
          ap length a.read.added.bytes,
          length-append a.seen.bytes (portion a.read.out answer),
          ap (λ b. length b.bytes) same,
          empty,
          ap (λ l. length l.reads.latest) a.read.told,
        ),
      )

  -- behind a turn bytes are buffered, and so there is no other
  gave_some : (k : ℕ) (s m : Buffered S P) → Turns rules (suc k) s m → 0 < length m.block.bytes
  gave_some k s m (v, run, count, some, turn) = omega (
    arith,
    some,
    ap length turn.read.added.bytes,
    length-append turn.seen.bytes (take count turn.read.out),
    length-take-le count turn.read.out turn.read.bound.0,
  )

  never_again : (k : ℕ) (answer : Result ℕ Error) (s m t : Buffered S P) → Turns rules (suc k) s m → Ordered rules answer m t → ⊥
  never_again k answer s m t run a =
      omega (arith, gave_some k s m run, leaves.orders _ _ _ _ a.asked.allowed)

  ends_offered : {A : Type 0} (answer : Result A Error) (s t : Buffered S P) → IsBlock s.block → Ends rules s answer t
      → Offered s t
  ends_offered (Ok a) s t whole (inl declined) = inl declined.told
  ends_offered (Ok a) s t whole (inr (inl full)) = inl full.1.told
  ends_offered (Ok a) s t whole (inr (inr dry)) = asked_all _ s t whole dry
  ends_offered (Err e) s t whole (inl refused) = inl refused.told
  ends_offered (Err e) s t whole (inr fault) = asked_all _ s t whole fault

  -- behind a turn
  ends_silent : {A : Type 0} (k : ℕ) (answer : Result A Error) (s m t : Buffered S P) → Turns rules (suc k) s m
      → Ends rules m answer t → (t.log ≡ m.log) × (t.block ≡ m.block)
  ends_silent k (Ok a) s m t run (inl declined) = (declined.told, leaves.before _ _ _ _ _ declined.asked.allowed)
  ends_silent k (Ok a) s m t run (inr (inl full)) = (full.1.told, leaves.before _ _ _ _ _ full.1.asked.allowed)
  ends_silent k (Ok a) s m t run (inr (inr dry)) = absurd (never_again k _ s m t run dry)
  ends_silent k (Err e) s m t run (inl refused) = (refused.told, leaves.before _ _ _ _ _ refused.asked.allowed)
  ends_silent k (Err e) s m t run (inr fault) = absurd (never_again k _ s m t run fault)

  filled : {A : Type 0} (k : ℕ) (answer : Result A Error) (s m t : Buffered S P) → IsBlock s.block → Turns rules k s m
      → Ends rules m answer t → Offered s t
  filled zero answer s m t whole same ends = ends_offered answer s t whole (subst (λ x. Ends rules x answer t) (sym same) ends)
  filled (suc zero) answer s m t whole (v, same, count, some, turn) ends =
      let one = asked_all (Ok count) s m whole (subst (λ x. Ordered rules (Ok count) x m) (sym same) turn) in
      let silent = ends_silent zero answer s m t (v, same, count, some, turn) ends in
      elim one [
        | inl none ↦ inl (silent.0 ∙ none)
        | inr all ↦ inr (
          ap (λ l. l.reads.offer) silent.0 ∙ all.0,
          omega (arith, all.1, ap (λ l. length l.reads.latest) silent.0, ap (λ b. length b.bytes) silent.1),
        )
      ]
  filled (suc (suc k)) answer s m t whole (v, run, count, some, turn) ends = absurd (never_again k _ s v m run turn)

  pub fill_offered : {A : Type 0} (s : Buffered S P) (answer : Result A Error) (t : Buffered S P) → IsBlock s.block
      → Filled rules s answer t → Offered s t
  fill_offered s answer t whole f = filled f.count answer s f.last t whole f.turns f.ends
