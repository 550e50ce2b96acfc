-- A read of a whole slice, read after read.
use Rattle.std.proofs.Common.{◌≡◌, ℕ, ◌+◌, ◌-◌, ◌<◌, ◌≤◌, List, [], ◌++◌, length, take, drop, Result, Ok, Err, OnOk, IfErr, true, ◌*◌, Option, refl, sym, ap, subst, ◌∙◌, arith, le_refl, append-nil, take_all, take-add, take-append-drop, drop_at, length-append, length-drop, length-take-le}
use Rattle.std.proofs.lemmas.List.{drop_all}
use Rattle.std.proofs.lemmas.Slice.{take-put_mid_below}
use borrow.Rule.Slice.PartMut.{put_mid, post_of}
use Rattle.std.specs.Io.{ReadsAtMost}
use Rattle.std.specs.Io.KnownBytes.{Consumes}
use Rattle.std.specs.declared.io.Error.{Error}
use Rattle.std.specs.declared.io.ErrorKind.TheVariants.{UnexpectedEof}
use Rattle.redux_buffer.specs.Block.{IsBlock}
use Rattle.redux_buffer.specs.Faults.{IsInterrupt, failure_count, interrupt_limit}
use Rattle.redux_buffer.specs.Retried.{InterruptedSteps-before, Retried, Retried-once}
use Rattle.redux_buffer.specs.StreamLog.{portion}
use Rattle.buffer_redux.specs.Policy.{ReadRules}
use Rattle.buffer_redux.specs.AllBytes.{EndsBy}
use Rattle.buffer_redux.specs.Buffered.{Buffered}
use Rattle.buffer_redux.specs.BufReader.{ReadsInOrder, ReaderKeeps, ReadErrorCaused, EmptyReadCaused, Reads}
use Rattle.buffer_redux.specs.ReaderLaws.{remaining_gives}
use Rattle.buffer_redux.specs.Remaining.{reader_remaining}
use Rattle.buffer_redux.specs.ReadAll.{ReadTurns, FillsSlice, ReadsExactly, OneRead, SliceRead, SliceStep}
use Rattle.buffer_redux.specs.ReadExact.{ReadExactErrorCaused}
use Rattle.buffer_redux.specs.ReadAllLaws.{HandedFront-joins, HandedFront-none, OneRead-tells}
use Rattle.buffer_redux.proofs.ReadAllCounts.{exact_caused, exact_few, exact_often}
use Rattle.buffer_redux.proofs.WriteAll.{one_more, none_taken}

-- the slice after a read into what stands from `at` on
abbrev pub put_from : ℕ → List ℕ → List ℕ → List ℕ
put_from at out new = put_mid at (length out - at) out new

module _ (at : ℕ) (out new : List ℕ) (within : at ≤ length out) where
  put_front : take at (put_from at out new) ≡ take at out
  put_front = take-put_mid_below at (length out - at) out new at (le_refl _) within

  put_behind : drop at (put_from at out new) ≡ new
  put_behind =
      drop_at (take at out) (new ++ post_of at (length out - at) out) at (length-take-le at out within)
      ∙ ap (λ l. new ++ l) (drop_all (length out - at) (drop at out) (omega (arith, length-drop at out)))
      ∙ append-nil new

  put_is : put_from at out new ≡ take at out ++ new
  put_is =
      sym (take-append-drop at (put_from at out new))
      ∙ ap (λ l. l ++ drop at (put_from at out new)) put_front ∙ ap (λ l. take at out ++ l) put_behind

  put_take : (n : ℕ) → take (at + n) (put_from at out new) ≡ take at out ++ take n new
  put_take n =
      take-add at n (put_from at out new) ∙ ap (λ l. l ++ take n (drop at (put_from at out new))) put_front
      ∙ ap (λ l. take at out ++ take n l) put_behind

  pub put_length : length new ≡ length (drop at out) → length (put_from at out new) ≡ length out
  put_length same = omega (
    arith,
    ap length put_is,
    length-append (take at out) new,
    length-take-le at out within,
    length-drop at out,
    same,
    within,
  )

-- `turns` turns filled the first `at` bytes of a slice that held `was`, and left it as `out`
pub record Turned {T : Type 0} (reads : T → List ℕ → Result ℕ Error → List ℕ → T → Type 0) (handed : T → List ℕ → T → Type 0)
    (s : T) (was : List ℕ) (turns at : ℕ) (out : List ℕ) (t : T) : Type 0 where
  pub within : at ≤ length out
  pub run : ReadTurns reads was turns at out s t
  pub front : handed s (take at out) t

pub turned_none : {T : Type 0} (reads : T → List ℕ → Result ℕ Error → List ℕ → T → Type 0) (handed : T → List ℕ → T → Type 0)
    (s : T) (out : List ℕ) → handed s [] s → Turned reads handed s out 0 0 out s
turned_none reads handed s out none = record { within = omega arith; run = (refl, refl, refl); front = none }

module _ {T : Type 0} (reads : T → List ℕ → Result ℕ Error → List ℕ → T → Type 0) (handed : T → List ℕ → T → Type 0)
    (joins : (s m t : T) (a b : List ℕ) → handed s a m → handed m b t → handed s (a ++ b) t)
    (tells : (s : T) (was : List ℕ) (answer : Result ℕ Error) (slice : List ℕ) (t : T) → reads s was answer slice t
    → SliceRead handed s was answer slice t) where
  -- a read, made again where it was interrupted, tells what the last one does
  pub row_tells : (s : T) (was : List ℕ) (answer : Result ℕ Error) (slice : List ℕ) (t : T)
      → Retried (SliceStep reads) (s, was) answer (t, slice) → SliceRead handed s was answer slice t
  row_tells s was answer slice t row =
      InterruptedSteps-before (SliceStep reads) (λ u. SliceRead handed u.0 u.1 answer slice t)
      (λ u e m is one later. let told = tells u.0 u.1 (Err e) m.1 m.0 one in record {
        bound = later.bound;
        size = later.size ∙ told.size;
        front = joins u.0 m.0 t [] (portion slice answer) told.front later.front;
      })
      row.count (s, was) row.last row.interrupted (tells row.last.0 row.last.1 answer slice t row.went)

  module _ (s : T) (was : List ℕ) (turns at : ℕ) (out : List ℕ) (m : T) (before : Turned reads handed s was turns at out m) where
    -- one more read into what is left of the slice
    module _ (new : List ℕ) (answer : Result ℕ Error) (t : T) (fewer : at < length out)
        (row : Retried (SliceStep reads) (m, drop at out) answer (t, new)) where
      within : at ≤ length out
      within = omega (arith, fewer)

      told : SliceRead handed m (drop at out) answer new t
      told = row_tells m (drop at out) answer new t row

      joined : handed s (take at out ++ portion new answer) t
      joined = joins s m t (take at out) (portion new answer) before.front told.front

      pub ended_failed : (e : Error) → EndsBy UnexpectedEof answer e
          → FillsSlice reads handed s was (Err e) (put_from at out new) t
      ended_failed e ends =
          let same = put_length at out new within told.size in
          record {
            turns = turns;
            count = at;
            within = omega (arith, within, same);
            left = out;
            last = m;
            run = before.run;
            first = rw (put_front at out new within) before.front;
            front = subst (λ l. handed s l t)
                (ap (λ l. take at out ++ l) (none_taken UnexpectedEof answer e ends new) ∙ append-nil (take at out)
                ∙ sym (put_front at out new within))
                joined;
            ended = record {
              fewer = omega (arith, fewer, same);
              answer = answer;
              ends = ends;
              slice = new;
              row = row;
              stands = put_is at out new within;
            };
          }

    pub turned_more : (new : List ℕ) (n : ℕ) (t : T) → at < length out
        → Retried (SliceStep reads) (m, drop at out) (Ok n) (t, new) → 0 < n
        → Turned reads handed s was (turns + 1) (at + n) (put_from at out new) t
    turned_more new n t fewer row some =
        let one = told new (Ok n) t fewer row in
        let inside = within new (Ok n) t fewer row in
        record {
          within = omega (arith, one.bound.0, inside, put_length at out new inside one.size, length-drop at out, one.size);
          run = subst (λ k. ReadTurns reads was k (at + n) (put_from at out new) s t) (one_more turns) (
            at,
            out,
            m,
            before.run,
            record {
              fewer = fewer;
              further = n;
              some = some;
              slice = new;
              row = row;
              adds = refl;
              stands = put_is at out new inside;
            },
          );
          front = subst (λ l. handed s l t) (sym (put_take at out new inside n)) (joined new (Ok n) t fewer row);
        }

    -- all of the slice is filled
    pub ended_all : length out ≤ at → FillsSlice reads handed s was (Ok tt) out m
    ended_all enough = record {
      turns = turns;
      count = at;
      within = before.within;
      left = out;
      last = m;
      run = before.run;
      first = before.front;
      front = before.front;
      ended = (omega (arith, enough, before.within), refl, refl);
    }

  -- the first read, of a slice that had room
  module _ (s : T) (was : List ℕ) (none : handed s [] s) (answer : Result ℕ Error) (out : List ℕ) (t : T)
      (some : 0 < length out) (row : Retried (SliceStep reads) (s, was) answer (t, out)) where
    has : 0 < length was
    has = omega (arith, some, (row_tells s was answer out t row).size)

    all_put : put_from 0 was out ≡ out
    all_put = put_is 0 was out (omega arith)

    pub first_failed : (e : Error) → EndsBy UnexpectedEof answer e → FillsSlice reads handed s was (Err e) out t
    first_failed e ends = subst (λ l. FillsSlice reads handed s was (Err e) l t) all_put
        (ended_failed s was 0 0 was s (turned_none reads handed s was none) out answer t has row e ends)

  pub first_more : (s : T) (was : List ℕ) (none : handed s [] s) (n : ℕ) (out : List ℕ) (t : T) → 0 < length out
      → Retried (SliceStep reads) (s, was) (Ok n) (t, out) → 0 < n → Turned reads handed s was 1 n out t
  first_more s was none n out t some row more =
      let same : 0 + n ≡ n = omega arith in
      subst (λ k. Turned reads handed s was 1 k out t) same
      (subst (λ l. Turned reads handed s was 1 (0 + n) l t) (all_put s was none (Ok n) out t some row)
      (turned_more s was 0 0 was s (turned_none reads handed s was none) out n t (has s was none (Ok n) out t some row) row more))

-- at Ok all of the slice was handed out
pub all_handed : {T : Type 0} (reads : T → List ℕ → Result ℕ Error → List ℕ → T → Type 0) (handed : T → List ℕ → T → Type 0)
    (s : T) (was : List ℕ) (answer : Result (Unit {0}) Error) (out : List ℕ) (t : T) → FillsSlice reads handed s was answer out t
    → OnOk answer (handed s out t)
all_handed reads handed s was (Ok _) out t r =
    subst (λ l. handed s l t) (take_all r.count out (omega (arith, r.ended.0))) r.front
all_handed reads handed s was (Err e) out t r = tt

module _ {S P : Type 0} (remaining : S → Option (List ℕ)) (rules : ReadRules P) where
  pub all_none : (s : Buffered S P) → IsBlock s.block → ReadsExactly remaining rules s [] (Ok tt) [] s
  all_none s whole =
      ended_all _ _ (HandedFront-joins remaining rules) (OneRead-tells remaining rules) s [] 0 0 [] s
      (turned_none _ _ s [] (HandedFront-none remaining rules s whole)) (le_refl 0)

  pub all_at_once : (s : Buffered S P) (was : List ℕ) (n : ℕ) (out : List ℕ) (t : Buffered S P) → 0 < length out
      → n ≡ length out → OneRead remaining rules s was (Ok n) out t → ReadsExactly remaining rules s was (Ok tt) out t
  all_at_once s was n out t some full one =
      ended_all _ _ (HandedFront-joins remaining rules) (OneRead-tells remaining rules) s was 1 n out t
      (first_more _ _ (HandedFront-joins remaining rules) (OneRead-tells remaining rules) s was
      (HandedFront-none remaining rules s one.whole) n out t some
      (Retried-once (SliceStep (OneRead remaining rules)) (s, was) n (t, out) one) (omega (arith, some, full)))
      (omega (arith, full))

  -- all that `read` promises
  pub one_read : (s : Buffered S P) (out : List ℕ) (answer : Result ℕ Error) (out' : List ℕ) (t : Buffered S P)
      → IsBlock s.block → ReadsAtMost answer out' → Reads rules s out answer out' t
      → ReadsInOrder s (portion out' answer) t → ReaderKeeps remaining rules s t → ReadErrorCaused rules s answer t
      → (answer ≡ Ok 0 → 0 < length out → EmptyReadCaused rules s t)
      → OneRead remaining rules s out answer out' t
  one_read s out answer out' t whole bound steps in_order keeps caused empty = record {
    whole = whole;
    bound = bound;
    steps = steps;
    front = record { in_order = in_order; keeps = keeps };
    caused = caused;
    empty = λ is some. empty is (omega (arith, some, steps.size));
  }

  -- all that `read_exact` promises, as its clauses say it
  module _ (s : Buffered S P) (was out : List ℕ) (t : Buffered S P) where
    beginning : {answer : Result (Unit {0}) Error} → ReadsExactly remaining rules s was answer out t
        → (count : ℕ) × (count ≤ length out) × ReadsInOrder s (take count out) t
    beginning r = (r.count, r.within, r.front.in_order)

    in_order : (answer : Result (Unit {0}) Error) → ReadsExactly remaining rules s was answer out t
        → OnOk answer (ReadsInOrder s out t)
    in_order (Ok u) r = (all_handed _ _ s was (Ok u) out t r).in_order
    in_order (Err e) r = tt

    known : (answer : Result (Unit {0}) Error) → ReadsExactly remaining rules s was answer out t
        → OnOk answer (Consumes (reader_remaining remaining rules s) (reader_remaining remaining rules t) out)
    known (Ok u) r =
        let keeps = r.front.keeps in
        remaining_gives remaining rules s t out (in_order (Ok u) r) keeps.known keeps.claims keeps.capacity
    known (Err e) r = tt

    pub exact_says : (answer : Result (Unit {0}) Error) → ReadsExactly remaining rules s was answer out t → record {
      in_order : OnOk answer (ReadsInOrder s out t);
      beginning : (count : ℕ) × (count ≤ length out) × ReadsInOrder s (take count out) t;
      bytes : OnOk answer (Consumes (reader_remaining remaining rules s) (reader_remaining remaining rules t) out);
      few : length t.log.reads.faults ≤ length s.log.reads.faults + interrupt_limit * length out + failure_count answer;
      often : (rules.claims s.policy).steady ≡ true → IfErr answer (λ e. IsInterrupt e
          → length s.log.reads.faults + interrupt_limit + 1 ≤ length t.log.reads.faults);
      caused : IfErr answer (λ e. ReadExactErrorCaused remaining rules s out e t);
      whole : IsBlock t.block;
      steps : ReadsExactly remaining rules s was answer out t;
    }
    exact_says answer r =
        let keeps = r.front.keeps in
        record {
          in_order = in_order answer r;
          beginning = beginning r;
          bytes = known answer r;
          few = exact_few remaining rules s was answer out t r;
          often = exact_often remaining rules s was answer out t r;
          caused = exact_caused remaining rules s was answer out t r;
          whole = keeps.whole;
          steps = r;
        }
