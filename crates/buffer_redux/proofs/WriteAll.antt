-- A write of all bytes, write after write.
use Rattle.std.proofs.Common.{◌≡◌, ℕ, suc, ◌+◌, ◌<◌, ◌≤◌, List, [], ◌++◌, length, take, drop, Result, Ok, Err, refl, sym, ap, subst, ◌∙◌, arith, le_refl, le_trans, append-nil, take-add, length-drop}
use Rattle.std.specs.declared.io.Error.{Error}
use Rattle.std.specs.declared.io.ErrorKind.{ErrorKind}
use Rattle.std.specs.declared.io.ErrorKind.TheVariants.{WriteZero}
use Rattle.redux_buffer.specs.Block.{IsBlock}
use Rattle.redux_buffer.specs.LogGrows.{WriteLogGrows-none, WriteLogGrows-joins}
use Rattle.redux_buffer.specs.Retried.{InterruptedSteps-before, Retried, Retried-once}
use Rattle.redux_buffer.specs.StreamLog.{StreamLog, portion}
use Rattle.buffer_redux.specs.Policy.{WriteRules}
use Rattle.buffer_redux.specs.AllBytes.{EndsBy}
use Rattle.buffer_redux.specs.Buffered.{Buffered, InnerWent}
use Rattle.buffer_redux.specs.BufWriter.{Writes, WriterKeeps}
use Rattle.buffer_redux.specs.WriterLaws.{WritesInOrder-none, WritesInOrder-joins}
use Rattle.buffer_redux.specs.WriteAll.{OneWrite, WriteTurns, TookFront, WritesAll}
use Rattle.buffer_redux.proofs.WriteAllCauses.{turn_caused, turn_steady}
use Rattle.buffer_redux.proofs.WriterFacts.{writes_keep}

-- what a write keeps
pub writer_keeps : {S P : Type 0} (tells : S → StreamLog) (trace : S → S → Type 0) (rules : WriteRules P)
    (s : Buffered S P) (bs : List ℕ) (answer : Result ℕ Error) (t : Buffered S P) → IsBlock t.block
    → Writes rules s bs answer t → InnerWent tells trace s t → WriterKeeps tells trace rules s t
writer_keeps tells trace rules s bs answer t whole steps went =
    let keeps = writes_keep rules s bs answer t steps in
    record {
      grows = keeps.grows;
      not_flushed = keeps.flushed;
      flushes = keeps.flushes;
      capacity = keeps.capacity;
      same_capacity = keeps.same_capacity;
      kind = keeps.kind;
      claims = keeps.claims;
      whole = whole;
      went = went;
    }

zero_on : (n : ℕ) → 0 + n ≡ n
zero_on n = omega arith

pub one_more : (k : ℕ) → suc k ≡ k + 1
one_more k = omega arith

-- what a turn took that ended the call
pub none_taken : (nothing : ErrorKind) (answer : Result ℕ Error) (e : Error) → EndsBy nothing answer e → (bs : List ℕ)
    → portion bs answer ≡ []
none_taken nothing (Ok k) e ends bs = ap (λ x. take x bs) ends.0
none_taken nothing (Err x) e ends bs = refl

module _ {S P : Type 0} (tells : S → StreamLog) (trace : S → S → Type 0) (rules : WriteRules P) where
  -- `turns` turns took the bytes before `at` in
  pub record Turned (s : Buffered S P) (bs : List ℕ) (turns at : ℕ) (t : Buffered S P) : Type 0 where
    pub within : at ≤ length bs
    pub run : WriteTurns tells trace rules bs turns at s t
    pub front : TookFront tells trace rules s (take at bs) t

module _ {S P : Type 0} (tells : S → StreamLog) (trace : S → S → Type 0)
    (none : (a : S) → trace a a) (joins : (a b c : S) → trace a b → trace b c → trace a c)
    (rules : WriteRules P) where
  front_none : (s : Buffered S P) → IsBlock s.block → s.log ≡ tells s.inner
      → TookFront tells trace rules s [] s
  front_none s whole told = record {
    in_order = WritesInOrder-none s;
    keeps = record {
      grows = WriteLogGrows-none s.log.writes;
      not_flushed = refl;
      flushes = refl;
      capacity = le_refl _;
      same_capacity = λ _. refl;
      kind = refl;
      claims = refl;
      whole = whole;
      went = record { calls = none s.inner; told_before = told; told_after = told; noted = refl };
    };
  }

  keeps_joins : (s m t : Buffered S P) → WriterKeeps tells trace rules s m → WriterKeeps tells trace rules m t
      → WriterKeeps tells trace rules s t
  keeps_joins s m t p q = record {
    grows = WriteLogGrows-joins s.log.writes m.log.writes t.log.writes p.grows q.grows;
    not_flushed = q.not_flushed ∙ p.not_flushed;
    flushes = q.flushes ∙ p.flushes;
    capacity = le_trans p.capacity q.capacity;
    same_capacity = λ leaves. q.same_capacity leaves ∙ p.same_capacity leaves;
    kind = q.kind ∙ p.kind;
    claims = q.claims ∙ p.claims;
    whole = q.whole;
    went = record {
      calls = joins s.inner m.inner t.inner p.went.calls q.went.calls;
      told_before = p.went.told_before;
      told_after = q.went.told_after;
      noted = q.went.noted ∙ p.went.noted;
    };
  }

  front_joins : (s m t : Buffered S P) (a b : List ℕ) → TookFront tells trace rules s a m
      → TookFront tells trace rules m b t → TookFront tells trace rules s (a ++ b) t
  front_joins s m t a b p q = record {
    in_order = WritesInOrder-joins s m t a b p.in_order q.in_order;
    keeps = keeps_joins s m t p.keeps q.keeps;
  }

  front_of : (bs : List ℕ) (s : Buffered S P) (answer : Result ℕ Error) (t : Buffered S P)
      → OneWrite tells trace rules bs s answer t → TookFront tells trace rules s (portion bs answer) t
  front_of bs s answer t one = record {
    in_order = (writes_keep rules s bs answer t one.steps).in_order;
    keeps = writer_keeps tells trace rules s bs answer t one.whole.1 one.steps one.went;
  }

  -- writes that were interrupted took nothing in
  front_before : (bs : List ℕ) (s : Buffered S P) (answer : Result ℕ Error) (t : Buffered S P)
      → (row : Retried (OneWrite tells trace rules bs) s answer t) → TookFront tells trace rules s [] row.last
  front_before bs s answer t row =
      InterruptedSteps-before (OneWrite tells trace rules bs) (λ u. TookFront tells trace rules u [] row.last)
      (λ u e m is one front. front_joins u m row.last [] [] (front_of bs u (Err e) m one) front)
      row.count s row.last row.interrupted (front_none row.last row.went.whole.0 row.went.went.told_before)

  pub turned_none : (s : Buffered S P) (bs : List ℕ) → IsBlock s.block → s.log ≡ tells s.inner
      → Turned tells trace rules s bs 0 0 s
  turned_none s bs whole told =
      record { within = omega arith; run = (refl, refl); front = front_none s whole told }

  module _ (s : Buffered S P) (bs : List ℕ) (turns at : ℕ) (m : Buffered S P)
      (before : Turned tells trace rules s bs turns at m) where
    -- one more write of the bytes that are left, made again where it was interrupted
    module _ (answer : Result ℕ Error) (t : Buffered S P) (fewer : at < length bs)
        (row : Retried (OneWrite tells trace rules (drop at bs)) m answer t) where
      begun : TookFront tells trace rules s (take at bs) row.last
      begun = subst (λ l. TookFront tells trace rules s l row.last) (append-nil (take at bs))
          (front_joins s m row.last (take at bs) [] before.front (front_before (drop at bs) m answer t row))

      both : TookFront tells trace rules s (take at bs ++ portion (drop at bs) answer) t
      both = front_joins s row.last t (take at bs) (portion (drop at bs) answer) begun
          (front_of (drop at bs) row.last answer t row.went)

      pub ended_failed : (e : Error) → EndsBy WriteZero answer e → WritesAll tells trace rules s bs (Err e) t
      ended_failed e ends =
          record {
            turns = turns;
            count = at;
            within = before.within;
            last = m;
            run = before.run;
            first = before.front;
            front = subst (λ l. TookFront tells trace rules s l t)
                (ap (λ l. take at bs ++ l) (none_taken WriteZero answer e ends (drop at bs)) ∙ append-nil (take at bs)) both;
            ended = record { some = omega (arith, fewer, length-drop at bs); answer = answer; ends = ends; row = row };
            caused = turn_caused tells trace rules bs at e s row.last t fewer begun answer ends row.went.steps;
            steadily = turn_steady tells trace rules bs at e s row.last t fewer begun answer ends row.went.steps;
          }

    pub turned_more : (n : ℕ) (t : Buffered S P) → at < length bs
        → Retried (OneWrite tells trace rules (drop at bs)) m (Ok n) t → 0 < n
        → Turned tells trace rules s bs (turns + 1) (at + n) t
    turned_more n t fewer row some = record {
      within = omega (arith, row.went.bound, fewer, length-drop at bs);
      run = subst (λ k. WriteTurns tells trace rules bs k (at + n) s t) (one_more turns)
          (at, m, before.run, record { fewer = fewer; further = n; some = some; row = row; adds = refl });
      front = subst (λ l. TookFront tells trace rules s l t) (sym (take-add at n bs)) (both (Ok n) t fewer row);
    }

    pub ended_all : length bs ≤ at → WritesAll tells trace rules s bs (Ok tt) m
    ended_all long = record {
      turns = turns;
      count = at;
      within = before.within;
      last = m;
      run = before.run;
      first = before.front;
      front = before.front;
      ended = (omega (arith, long, before.within), refl);
      caused = tt;
      steadily = λ _. tt;
    }

  -- the first write of some bytes
  pub first_more : (s : Buffered S P) (bs : List ℕ) (n : ℕ) (t : Buffered S P) → 0 < length bs
      → Turned tells trace rules s bs 0 0 s → Retried (OneWrite tells trace rules bs) s (Ok n) t → 0 < n
      → Turned tells trace rules s bs 1 n t
  first_more s bs n t some fresh row more = subst (λ k. Turned tells trace rules s bs 1 k t) (zero_on n)
      (turned_more s bs 0 0 s fresh n t some row more)

  -- no byte, and all bytes at once
  pub all_none : (s : Buffered S P) → IsBlock s.block → s.log ≡ tells s.inner
      → WritesAll tells trace rules s [] (Ok tt) s
  all_none s whole told = ended_all s [] 0 0 s (turned_none s [] whole told) (le_refl 0)

  pub all_at_once : (s : Buffered S P) (bs : List ℕ) (n : ℕ) (t : Buffered S P) → 0 < length bs → n ≡ length bs
      → OneWrite tells trace rules bs s (Ok n) t → WritesAll tells trace rules s bs (Ok tt) t
  all_at_once s bs n t some full one =
      ended_all s bs 1 n t (first_more s bs n t some (turned_none s bs one.whole.0 one.went.told_before)
      (Retried-once (OneWrite tells trace rules bs) s n t one) (omega (arith, some, full))) (omega (arith, full))
