-- Reads past the policy, behind what is buffered.
use Rattle.std.proofs.Common.{◌≡◌, ℕ, zero, suc, ◌<◌, ◌≤◌, List, length, Result, Ok, Err}
use Rattle.std.proofs.Common.{Option, sym, ap, ◌∙◌, inl, inr, arith}
use Rattle.std.specs.Prelude.{◌⊎◌}
use Rattle.std.specs.IoError.{error_kind}
use Rattle.std.specs.declared.io.Error.{Error}
use Rattle.std.specs.declared.io.ErrorKind.TheVariants.{InvalidData}
use Rattle.redux_buffer.specs.Faults.{OnlyInterrupts-one, OnlyInterrupts-same}
use Rattle.redux_buffer.specs.Retried.{InterruptedSteps, Retried}
use Rattle.buffer_redux.specs.Policy.{ReadRules}
use Rattle.buffer_redux.specs.Buffered.{Buffered}
use Rattle.buffer_redux.specs.BufReader.{RanDry}
use Rattle.buffer_redux.specs.ReadBehind.{FillsOn, FillsOrReads, ReadsBehind}
use Rattle.buffer_redux.proofs.Retrying.{HandsNothing, refilling, retrying}

-- a call went on, by more bytes behind those that are buffered; or that failed; or the stream ended behind them
abbrev pub FillsMore : {S P A : Type 0} → (S → Option (List ℕ)) → ReadRules P → Buffered S P → Result A Error
    → Buffered S P → Type 0
FillsMore remaining rules s (Ok a) t = FillsOrReads remaining rules s (Ok tt) t
    × (0 < length s.block.bytes → length s.block.bytes < length t.block.bytes)
FillsMore remaining rules s (Err e) t = FillsOrReads remaining rules s (Err e) t
    ⊎ ((error_kind e ≡ InvalidData) × FillsOrReads remaining rules s (Ok tt) t × (0 < length s.block.bytes)
    × (t.block.bytes ≡ s.block.bytes) × RanDry s t)

module _ {S P : Type 0} (remaining : S → Option (List ℕ)) (rules : ReadRules P) where
  reading : HandsNothing remaining rules (ReadsBehind remaining rules)
  reading = record {
    front = λ s answer t b. b.front;
    only = λ s t b. OnlyInterrupts-same s.log.reads.faults t.log.reads.faults b.ended.0;
    interrupt = λ s e t is b. elim b.ended.1 [
      | inl came ↦ OnlyInterrupts-one s.log.reads.faults t.log.reads.faults e is came
      | inr grew ↦ OnlyInterrupts-same s.log.reads.faults t.log.reads.faults (ap (λ x. x.log.reads.faults) grew.2)
    ];
  }

  pub going_on : (leaves : List ℕ → Type 0) → HandsNothing remaining rules (FillsOn leaves remaining rules)
  going_on leaves =
      let again = retrying remaining rules (ReadsBehind remaining rules) reading in
      let fill = refilling remaining rules in record {
        front = λ s answer t f. elim f.1 [ inl a ↦ fill.front s answer t a.1 | inr b ↦ again.front s answer t b.1 ];
        only = λ s t f. elim f.1 [ inl a ↦ fill.only s t a.1 | inr b ↦ again.only s t b.1 ];
        interrupt = λ s e t is f.
            elim f.1 [ inl a ↦ fill.interrupt s e t is a.1 | inr b ↦ again.interrupt s e t is b.1 ];
      }

  interrupted_bytes : (k : ℕ) (s m : Buffered S P) → InterruptedSteps {A = Unit {0}} (ReadsBehind remaining rules) k s m
      → (m.block.bytes ≡ s.block.bytes) × (s.log.reads.zero_reads ≤ m.log.reads.zero_reads)
  interrupted_bytes zero s m same =
      (ap (λ x. x.block.bytes) (sym same), omega (arith, ap (λ x. x.log.reads.zero_reads) same))
  interrupted_bytes (suc k) s m i =
      let before = interrupted_bytes k s i.0 i.1 in (
        i.4.ended.0 ∙ before.0,
        omega (arith, before.1, i.4.front.keeps.grows.zero_reads),
      )

  behind_ended : (s t : Buffered S P) → Retried {A = Unit {0}} (ReadsBehind remaining rules) s (Ok tt) t
      → (length s.block.bytes < length t.block.bytes) ⊎ ((t.block.bytes ≡ s.block.bytes) × RanDry s t)
  behind_ended s t r =
      let before = interrupted_bytes r.count s r.last r.interrupted in
      elim r.went.ended.1 [
        | inl more ↦ inl (omega (arith, more, ap length before.0))
        | inr none ↦ inr (none.0 ∙ before.0, omega (arith, before.1, none.1))
      ]

  pub more_read : (s t : Buffered S P) → 0 < length s.block.bytes
      → Retried {A = Unit {0}} (ReadsBehind remaining rules) s (Ok tt) t
      → ¬ (length t.block.bytes ≡ length s.block.bytes) → FillsMore {A = Unit {0}} remaining rules s (Ok tt) t
  more_read s t some read more = (
    inr (some, read),
    λ _. elim (behind_ended s t read) [
      | inl grew ↦ grew
      | inr none ↦ absurd (more (ap length none.0))
    ],
  )

  pub more_broken : (s : Buffered S P) (e : Error) (t : Buffered S P) → 0 < length s.block.bytes
      → Retried {A = Unit {0}} (ReadsBehind remaining rules) s (Ok tt) t → length t.block.bytes ≡ length s.block.bytes
      → error_kind e ≡ InvalidData → FillsMore {A = Unit {0}} remaining rules s (Err e) t
  more_broken s e t some read same kind = elim (behind_ended s t read) [
    | inl grew ↦ absurd (omega (arith, grew, same))
    | inr none ↦ inr (kind, inr (some, read), some, none.0, none.1)
  ]
