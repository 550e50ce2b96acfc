-- What the filters of both runs say: how many bytes payloads have, and how the reader inside is asked.
use Rattle.std.proofs.Common.{◌≡◌, ◌<◌, ◌≤◌, ◌⊎◌, inl, inr, ℕ, List, [], ◌∷◌, ◌++◌, All, length, length-append, ap, subst, ◌∙◌, arith, append_assoc}
use Rattle.buffer_redux.specs.Asking.{AskedWhere}
use Rattle.bodies.specs.Words.{concat, All-head, All-tail, ReadsInOrder-fresh, AskedLast-after, Error, ReadsInOrder, Buffered, StdPolicy, AskedLast, AsksGiveOrFail, ReadLogGrows, unbuffered}

-- the reader inside was asked only where what was buffered, then what had come, was such; and its log only goes on
pub record Asked {R : Type 0} (Such : List ℕ → Type 0) (s t : Buffered R StdPolicy) : Type 0 where
  pub asked : AskedWhere Such (unbuffered s) (unbuffered t)
  pub grows : ReadLogGrows s.log.reads t.log.reads

-- payloads that aren't empty have a byte each
pub each_some : (payloads : List (List ℕ)) → All (λ p. 0 < length p) payloads → length payloads ≤ length (concat payloads)
each_some [] some = omega arith
each_some (payload ∷ payloads) some =
    let first = All-head (λ p. 0 < length p) payload payloads some in
    let more = each_some payloads (All-tail (λ p. 0 < length p) payload payloads some) in
    grind (arith, length-append)

module _ {R : Type 0} (Such : List ℕ → Type 0) (s t : Buffered R StdPolicy) (asked : Asked Such s t) where
  -- where a read failed, each other ask gave a byte
  pub fault_gives : (e : Error) → t.log.reads.faults ≡ s.log.reads.faults ++ e ∷ [] → AsksGiveOrFail s.log t.log
  fault_gives e fault =
      let more = ap length fault ∙ length-append s.log.reads.faults (e ∷ []) in
      elim asked.asked [
        | inl same ↦ omega (arith, more, ap (λ l. length l.reads.faults) same)
        | inr over ↦ grind (arith, more, over, length-append)
      ]

  -- bytes had been taken, where each ask gave a byte or failed
  pub asked_after : (first : Buffered R StdPolicy) (wire : List ℕ) → first.block.bytes ≡ [] → ReadsInOrder first wire s
      → AsksGiveOrFail first.log s.log
      → (t.log ≡ s.log) ⊎ ((bytes : List ℕ) × Such bytes × AskedLast (wire ++ bytes) first.log t.log)
  asked_after first wire none order gives = elim asked.asked [
    | inl same ↦ inl same
    | inr over ↦ inr (
      s.block.bytes ++ over.came,
      over.such,
      subst (λ l. AskedLast l first.log t.log) (append_assoc wire s.block.bytes over.came)
          (AskedLast-after first.log s.log t.log (wire ++ s.block.bytes) over.came
          (ReadsInOrder-fresh first s wire none order) gives (record {
            given = over.given;
            asks = grind (arith, over.asks, asked.grows.faults, length-append);
          })),
    )
  ]
