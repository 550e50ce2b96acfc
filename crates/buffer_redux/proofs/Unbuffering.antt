-- What reads of an `Unbuffer` join to.
use Rattle.std.proofs.Common.{◌≡◌, ◌∙◌, ℕ, ◌+◌, ◌*◌, ◌<◌, ◌≤◌, List, [], ◌∷◌, ◌++◌, length, min, take, drop, Result, Ok, Err, IfErr, OnOk, Option, ap, arith, inl, inr, length-append, subst, sym}
use Rattle.std.specs.Prelude.{⊤}
use Rattle.std.proofs.lemmas.Bool.{cases_lt}
use Rattle.std.proofs.KnownBytes.{Consumes-nil, Consumes-kept}
use Rattle.std.specs.Io.{ReadsAtMost}
use Rattle.std.specs.Io.KnownBytes.{Consumes, ReadConsumes}
use Rattle.std.specs.declared.io.Error.{Error}
use Rattle.std.specs.declared.io.ErrorKind.TheVariants.{UnexpectedEof}
use Rattle.redux_buffer.specs.Faults.{IsInterrupt, failure_count, interrupt_limit}
use Rattle.redux_buffer.specs.LogGrows.{ReadLogGrows, ReadLogGrows-none, ReadLogGrows-read}
use Rattle.redux_buffer.specs.StreamLog.{portion, after_read, zero_of_none}
use Rattle.buffer_redux.specs.AllBytes.{EndsBy}
use Rattle.buffer_redux.specs.ReadExact.{ReaderStopped}
use Rattle.buffer_redux.specs.Unbuffer.{Unbuffered, unbuffer_remaining, HandsOutInOrder, UnbufferHands, UnbufferReads}
use Rattle.buffer_redux.specs.UnbufferLaws.{UnbufferHands-joins, UnbufferReads-tells}
use Rattle.buffer_redux.specs.ReadAll.{FillsSlice}
use Rattle.buffer_redux.proofs.ReadAll.{all_handed}
use Rattle.buffer_redux.proofs.ReadAllCounts.{all_few, all_often, last_begun, last_some}

module _ {R : Type 0} (remaining : R → Option (List ℕ)) where
  known : (s t : Unbuffered R) (answer : Result ℕ Error) (slice : List ℕ)
      → ReadConsumes (unbuffer_remaining remaining s) (unbuffer_remaining remaining t) answer slice
      → Consumes (unbuffer_remaining remaining s) (unbuffer_remaining remaining t) (portion slice answer)
  known s t (Ok n) slice read = read.0
  known s t (Err e) slice read = Consumes-kept (unbuffer_remaining remaining s) (unbuffer_remaining remaining s)
      (unbuffer_remaining remaining t) [] (Consumes-nil (unbuffer_remaining remaining s)) read

  -- all that `read` promises
  pub unbuffer_read : (s : Unbuffered R) (was : List ℕ) (answer : Result ℕ Error) (slice : List ℕ) (t : Unbuffered R)
      → length slice ≡ length was → ReadsAtMost answer slice
      → ReadConsumes (unbuffer_remaining remaining s) (unbuffer_remaining remaining t) answer slice
      → HandsOutInOrder s (portion slice answer) t
      → (0 < length s.left → (answer ≡ Ok (min (length s.left) (length was)))
      × (t ≡ record s { left = drop (length was) s.left }) × (drop (length s.left) slice ≡ drop (length s.left) was))
      → (length s.left ≡ 0 → (t.left ≡ []) × (t.log ≡ after_read s.log slice answer))
      → UnbufferReads remaining s was answer slice t
  unbuffer_read s was answer slice t size bound bytes in_order left asked = record {
    bound = bound;
    size = size;
    handed = record {
      order = in_order;
      known = known s t answer slice bytes;
      grows = elim (cases_lt 0 (length s.left)) [
        | inl some ↦ subst (λ u. ReadLogGrows s.log.reads u.log.reads) (sym (left some).1) (ReadLogGrows-none s.log.reads)
        | inr none ↦ subst (λ l. ReadLogGrows s.log.reads l.reads) (sym (asked (omega (arith, none))).1)
            (ReadLogGrows-read s.log slice answer)
      ];
    };
    left = left;
    asked = asked;
  }

  -- at Ok of `read_exact` all of the slice was handed out
  pub all_out : (s : Unbuffered R) (was : List ℕ) (answer : Result (Unit {0}) Error) (out : List ℕ) (t : Unbuffered R)
      → FillsSlice (UnbufferReads remaining) (UnbufferHands remaining) s was answer out t → OnOk answer (HandsOutInOrder s out t)
      × OnOk answer (Consumes (unbuffer_remaining remaining s) (unbuffer_remaining remaining t) out)
  all_out s was (Ok u) out t fills =
      let h = all_handed (UnbufferReads remaining) (UnbufferHands remaining) s was (Ok u) out t fills in (h.order, h.known)
  all_out s was (Err e) out t fills = (tt, tt)

  abbrev met : Unbuffered R → ℕ
  met s = length s.log.reads.faults

  -- a read meets a fault just where it fails, and is the one to end a read of a whole slice
  one_met : (s : Unbuffered R) (was : List ℕ) (answer : Result ℕ Error) (slice : List ℕ) (t : Unbuffered R)
      → UnbufferReads remaining s was answer slice t → met t ≡ met s + failure_count answer
  one_met s was answer slice t read = elim (cases_lt 0 (length s.left)) [
    | inl some ↦ (let out = read.left some in omega (
      arith,
      ap failure_count out.0,
      ap met out.1,
    ))
    | inr none ↦ of answer (read.asked (omega (arith, none))).1
  ]
    where
      of : (answer : Result ℕ Error) → t.log ≡ after_read s.log slice answer → met t ≡ met s + failure_count answer
      of (Ok n) told = omega (arith, ap (λ l. length l.reads.faults) told)
      of (Err e) told =
          omega (arith, ap (λ l. length l.reads.faults) told, length-append s.log.reads.faults (e ∷ []))

  stays : (s t : Unbuffered R) (bytes : List ℕ) → UnbufferHands remaining s bytes t → met s ≤ met t
  stays s t bytes h = omega (arith, ap length h.grows.faults.equal, length-append s.log.reads.faults h.grows.faults.more)

  module _ (s : Unbuffered R) (was : List ℕ) (answer : Result (Unit {0}) Error) (out : List ℕ) (t : Unbuffered R)
      (fills : FillsSlice (UnbufferReads remaining) (UnbufferHands remaining) s was answer out t) where
    pub unbuffer_few : met t ≤ met s + interrupt_limit * length out + failure_count answer
    unbuffer_few = all_few (UnbufferReads remaining) (UnbufferHands remaining) met
        (λ s was answer slice t read. omega (arith, one_met s was answer slice t read)) s was answer out t fills

    pub unbuffer_often : IfErr answer (λ e. IsInterrupt e → met s + interrupt_limit + 1 ≤ met t)
    unbuffer_often = all_often (UnbufferReads remaining) (UnbufferHands remaining) met
        (λ s was answer slice t read. omega (arith, one_met s was answer slice t read)) (λ _. ⊤)
        (λ s was e slice t may read. (omega (arith, one_met s was (Err e) slice t read), tt))
        (λ s bytes t may h. (stays s t bytes h, tt)) s was answer out t fills tt

  -- the last read of such a read, which had room for some
  read_stopped : (s m : Unbuffered R) (bytes was : List ℕ) (answer : Result ℕ Error) (slice : List ℕ) (t : Unbuffered R)
      (e : Error) → UnbufferHands remaining s bytes m → UnbufferReads remaining m was answer slice t → 0 < length slice
      → EndsBy UnexpectedEof answer e → ReaderStopped s.log.reads t.log.reads e
  read_stopped s m bytes was answer slice t e first read some ends = elim (cases_lt 0 (length m.left)) [
    | inl left ↦ absurd (given answer (read.left left).0 ends left)
    | inr none ↦ of answer ends (read.asked (omega (arith, none))).1
  ]
    where
      given : (answer : Result ℕ Error) → answer ≡ Ok (min (length m.left) (length was)) → EndsBy UnexpectedEof answer e
          → 0 < length m.left → ⊥
      given (Ok k) is ends left =
          let same : k ≡ min (length m.left) (length was) = cc in omega (arith, same, ends.0, left, some, read.size)
      given (Err x) is ends left = (let odd = is in cc)

      of : (answer : Result ℕ Error) → EndsBy UnexpectedEof answer e → t.log ≡ after_read m.log slice answer
          → ReaderStopped s.log.reads t.log.reads e
      of (Ok k) ends told = inr (record {
        is_eof = ends.1;
        zero_reads = omega (
          arith,
          ap (λ l. l.reads.zero_reads) told,
          zero_of_none k slice m.log.reads.zero_reads ends.0 some,
          first.grows.zero_reads,
        );
      })
      of (Err x) ends told = inl (record {
        before = first.grows.faults.more;
        faults = ap (λ l. l.reads.faults) told ∙ ap (λ y. m.log.reads.faults ++ y ∷ []) ends
            ∙ ap (λ l. l ++ e ∷ []) first.grows.faults.equal;
      })

  pub unbuffer_caused : (s : Unbuffered R) (was : List ℕ) (answer : Result (Unit {0}) Error) (out : List ℕ) (t : Unbuffered R)
      → FillsSlice (UnbufferReads remaining) (UnbufferHands remaining) s was answer out t
      → IfErr answer (ReaderStopped s.log.reads t.log.reads)
  unbuffer_caused s was (Ok u) out t fills = tt
  unbuffer_caused s was (Err e) out t fills = read_stopped s fills.ended.row.last.0 (take fills.count out)
      fills.ended.row.last.1 fills.ended.answer fills.ended.slice t e
      (last_begun (UnbufferReads remaining) (UnbufferHands remaining) (UnbufferHands-joins remaining)
      (UnbufferReads-tells remaining) s was out t e fills)
      fills.ended.row.went (last_some (UnbufferReads remaining) (UnbufferHands remaining) s was out t e fills)
      fills.ended.ends
