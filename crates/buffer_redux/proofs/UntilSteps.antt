-- The turns and the ends of a call that goes on up to a byte.
use Rattle.std.proofs.Common.{◌≡◌, ℕ, zero, suc, ◌+◌, ◌<◌, ◌≤◌, List, [], ◌++◌, length, take, Result, Ok}
use Rattle.std.proofs.Common.{Err, Option}
use Rattle.std.proofs.Common.{refl, sym, ap, subst, inl, inr, arith, append-nil}
use Rattle.std.proofs.Common.{length-take-le}
use Rattle.std.proofs.lemmas.Bool.{cases_lt}
use Rattle.std.proofs.lemmas.List.{nil_from_length}
use Rattle.std.specs.declared.io.Error.{Error}
use Rattle.redux_buffer.specs.Block.{IsBlock}
use Rattle.redux_buffer.specs.Faults.{OnlyInterrupts, OnlyInterrupts-none, OnlyInterrupts-joins}
use Rattle.redux_buffer.specs.Retried.{Step}
use Rattle.redux_buffer.specs.StreamLog.{StreamLog}
use Rattle.buffer_redux.specs.Policy.{ReadRules}
use Rattle.buffer_redux.specs.Buffered.{Buffered}
use Rattle.buffer_redux.specs.BufReader.{RanDry, ReaderConsumes}
use Rattle.buffer_redux.specs.ReadAll.{HandedFront}
use Rattle.buffer_redux.specs.ReadBehind.{FillsOn}
use Rattle.buffer_redux.specs.ReaderLaws.{ReaderKeeps-along, WantsBytes}
use Rattle.buffer_redux.specs.ReadUntil.{DropsFirst, DropsSome, EndsIn, EndsUntil, FirstAt, Lacks, Passes, PassesAndFills, PassesToEnd, Steps, Stops}
use Rattle.buffer_redux.specs.ReadAllLaws.{HandedFront-none, HandedFront-joins}
use Rattle.buffer_redux.proofs.Retrying.{HandsNothing}
use Rattle.buffer_redux.proofs.Searching.{ends_in, first_through, lacks_none, lacks_both}

-- where the log is the same, no fault came
told_only : (old log log' : StreamLog) → log' ≡ log → OnlyInterrupts old.reads.faults log.reads.faults
    → OnlyInterrupts old.reads.faults log'.reads.faults
told_only old log log' same = subst (λ l. OnlyInterrupts old.reads.faults l.reads.faults) (sym same)

-- to drop bytes asks nobody
drops_told : {S P : Type 0} (rules : ReadRules P) (s t : Buffered S P) (n : ℕ) → DropsFirst rules n s t → t.log ≡ s.log
drops_told rules s t n gone = elim (cases_lt 0 n) [
  | inl some ↦ (gone.some some).told
  | inr none ↦ ap (λ x. x.log) (gone.none (omega (arith, none)))
]

-- some bytes were dropped by a consume of just these
pub drops_some : {S P : Type 0} (rules : ReadRules P) (s t : Buffered S P) (n : ℕ) → 0 < n → ReaderConsumes rules n s t
    → DropsFirst rules n s t
drops_some rules s t n some gone = record { none = λ none. absurd (omega (arith, some, none)); some = λ _. gone }

-- to drop none is to do nothing
drops_none : {S P : Type 0} (rules : ReadRules P) (s : Buffered S P) → DropsSome rules s s
drops_none rules s = (0, omega arith, record { none = λ _. refl; some = λ some. absurd (omega (arith, some)) })

-- so many fills, the last of which showed more, and nothing was dropped behind it; or none, and nothing was dropped
abbrev pub FillsLast : {S P : Type 0} → ReadRules P → Step (Buffered S P) (Unit {0}) → ℕ → Buffered S P → Buffered S P → Type 0
FillsLast rules step zero s t = s ≡ t
FillsLast {S} {P} rules step (suc count) s t = (m : Buffered S P) × Steps rules step count s m
    × step m (Ok tt) t × (length m.block.bytes < length t.block.bytes)

-- and then there was a drop
then_drops : {S P : Type 0} (rules : ReadRules P) (step : Step (Buffered S P) (Unit {0})) (count : ℕ) (s m t : Buffered S P)
    → FillsLast rules step count s m → DropsSome rules m t → Steps rules step count s t
then_drops rules step zero s m t same drops = subst (λ x. DropsSome rules x t) (sym same) drops
then_drops rules step (suc count) s m t (before, steps, filled, more) drops = (before, m, steps, filled, more, drops)

-- these bytes were handed out, which lack the byte, and no fault came but interrupted reads. None was dropped behind the last
-- fill
pub record Shows {S P : Type 0} (remaining : S → Option (List ℕ)) (rules : ReadRules P) (step : Step (Buffered S P) (Unit {0}))
    (byte : ℕ) (s : Buffered S P) (handed : List ℕ) (t : Buffered S P) : Type 0 where
  pub front : HandedFront remaining rules s handed t
  pub plain : Lacks byte handed
  pub faults : OnlyInterrupts s.log.reads.faults t.log.reads.faults
  pub steps : (count : ℕ) × FillsLast rules step count s t

module _ {S P : Type 0} {step : Step (Buffered S P) (Unit {0})} (remaining : S → Option (List ℕ)) (rules : ReadRules P)
    (byte : ℕ) where
  pub shows_none : (s : Buffered S P) → IsBlock s.block → Shows remaining rules step byte s [] s
  shows_none s whole = record {
    front = HandedFront-none remaining rules s whole;
    plain = lacks_none byte;
    faults = OnlyInterrupts-none s.log.reads.faults;
    steps = (0, refl);
  }

  module _ (s m : Buffered S P) (handed : List ℕ) (before : Shows remaining rules step byte s handed m) where
    steps_dropped : (t : Buffered S P) → DropsSome rules m t → (count : ℕ) × Steps rules step count s t
    steps_dropped t drops = (before.steps.0, then_drops rules step before.steps.0 s m t before.steps.1 drops)

    -- nothing is dropped
    pub passes_shown : Passes remaining rules step byte s handed m
    passes_shown = record {
      front = before.front;
      plain = before.plain;
      faults = before.faults;
      steps = steps_dropped m (drops_none rules m);
    }

    -- the next bytes handed out lack the byte: the first n that are buffered, or all
    pub passes_first : (t : Buffered S P) (n : ℕ) → n ≤ length m.block.bytes → Lacks byte (take n m.block.bytes)
        → HandedFront remaining rules m (take n m.block.bytes) t → DropsFirst rules n m t
        → Passes remaining rules step byte s (handed ++ take n m.block.bytes) t
    passes_first t n within plain went gone = record {
      front = HandedFront-joins remaining rules s m t handed (take n m.block.bytes) before.front went;
      plain = lacks_both byte handed (take n m.block.bytes) before.plain plain;
      faults = told_only s.log m.log t.log (drops_told rules m t n gone) before.faults;
      steps = steps_dropped t (n, within, gone);
    }

    -- the bytes up to the byte, with it, are handed out next
    pub reaches : (at : ℕ) (t : Buffered S P) → FirstAt byte at m.block.bytes → DropsFirst rules (at + 1) m t
        → EndsIn byte (handed ++ take (at + 1) m.block.bytes) × OnlyInterrupts s.log.reads.faults t.log.reads.faults
        × ((count : ℕ) × Steps rules step count s t)
    reaches at t first gone = (
      ends_in byte at handed m.block.bytes first before.plain,
      told_only s.log m.log t.log (drops_told rules m t (at + 1) gone) before.faults,
      steps_dropped t (at + 1, omega (arith, first.inside), gone),
    )

  module _ (s m : Buffered S P) (handed : List ℕ) (before : Passes remaining rules step byte s handed m) where
    -- a step that hands out nothing is made as a fill
    module _ (hands : HandsNothing remaining rules step) where
      pub front_filled : (answer : Result (Unit {0}) Error) (t : Buffered S P) → step m answer t
          → HandedFront remaining rules s handed t
      front_filled answer t f = subst (λ l. HandedFront remaining rules s l t) (append-nil handed)
          (HandedFront-joins remaining rules s m t handed [] before.front (hands.front m answer t f))

      pub passes_filled : (t : Buffered S P) → step m (Ok tt) t → length m.block.bytes < length t.block.bytes
          → Shows remaining rules step byte s handed t
      passes_filled t f more = record {
        front = front_filled (Ok tt) t f;
        plain = before.plain;
        faults = OnlyInterrupts-joins s.log.reads.faults m.log.reads.faults t.log.reads.faults before.faults
            (hands.only m t f);
        steps = (suc before.steps.0, (m, before.steps.1, f, more));
      }

    pub passes_and_fills : (answer : Result (Unit {0}) Error) (t : Buffered S P) → step m answer t
        → PassesAndFills remaining rules step byte s handed answer t
    passes_and_fills answer t f = record { last = m; passes = before; fill = f }

    -- which showed nothing
    pub passes_to_end : HandsNothing remaining rules step → (t : Buffered S P) → step m (Ok tt) t
        → (WantsBytes (rules.claims m.policy) → 0 < m.block.capacity → RanDry m t) → length t.block.bytes ≡ 0
        → PassesToEnd remaining rules step byte s handed t
    passes_to_end hands t f dry none =
        let keeps = before.front.keeps in record {
          fills = passes_and_fills (Ok tt) t f;
          none = nil_from_length t.block.bytes none;
          end = λ wants some.
              let front = front_filled hands (Ok tt) t f in
              let ran = dry (subst WantsBytes (sym keeps.claims) wants) (omega (arith, some, keeps.capacity)) in record {
                along = ReaderKeeps-along remaining rules s handed t front.in_order front.keeps;
                none = nil_from_length t.block.bytes none;
                dry = omega (arith, keeps.grows.zero_reads, ran);
              };
        }

-- the call stops before the byte, and does nothing
pub stopped : {S P : Type 0} {leaves : List ℕ → Type 0} (remaining : S → Option (List ℕ)) (rules : ReadRules P) (byte : ℕ)
    (s m : Buffered S P) (handed : List ℕ) → Shows remaining rules (FillsOn leaves remaining rules) byte s handed m
    → (stops : Stops) (at : ℕ) (e : Error) (t : Buffered S P) → FirstAt byte at m.block.bytes → t ≡ m
    → stops handed e (take (at + 1) m.block.bytes)
    → HandedFront remaining rules s handed t × EndsUntil {A = ℕ} leaves stops remaining rules byte s (Err e) handed t
stopped {leaves = leaves} remaining rules byte s m handed before stops at e t first same why = subst
    (λ x. HandedFront remaining rules s handed x × EndsUntil {A = ℕ} leaves stops remaining rules byte s (Err e) handed x)
    (sym same) (
      before.front,
      inr (inl (
        passes_shown remaining rules byte s m handed before,
        subst (stops handed e)
            (first_through byte at m.block.bytes first) why,
      )),
    )

-- how many bytes these are
pub through_length : (byte at : ℕ) (bytes : List ℕ) → FirstAt byte at bytes → length (take (at + 1) bytes) ≡ at + 1
through_length byte at bytes first = length-take-le (at + 1) bytes (omega (arith, first.inside))
