-- Laws of traces of a writer's calls, for the proofs of those who make them.
use Rattle.std.specs.Prelude.{◌≡◌, ℕ, ◌+◌, ◌≤◌, ◌⊎◌, List, [], ◌∷◌, ◌++◌, take, drop, Result, Ok, Err, Option, MatchResult, true}
use Rattle.std.proofs.Common.{sym, ap, subst, refl, ◌∙◌, arith, inl, inr, le_refl, le_trans, append_assoc, append-nil, take-append-drop}
use Rattle.std.proofs.Math.Seq.{take-length}
use Rattle.std.proofs.lemmas.List.{append_cancel_left}
use Rattle.std.specs.Io.KnownBytes.{Appends}
use Rattle.std.specs.IoError.{error_kind}
use Rattle.std.specs.declared.io.Error.{Error}
use Rattle.redux_buffer.specs.Faults.{FaultedAfter, IsMemory, SendErrorCaused, TookNothing}
use Rattle.redux_buffer.specs.LogGrows.{WriteLogGrows, WriteLogGrows-none, WriteLogGrows-joins, WritesGoOn}
use Rattle.redux_buffer.specs.Memory.{fault-memory, send-memory, writer-takes_some, writer_log}
use Rattle.redux_buffer.specs.StreamLog.{StreamLog, WriteLog, after_flush}
use Rattle.redux_buffer.specs.Told.{ToldWrites, told_log, told_stream}
use Rattle.redux_buffer.specs.declared.tell.memory.MemoryWriter.{MemoryWriter}
use Rattle.redux_buffer.specs.declared.tell.told.Told.{Told}
use Rattle.buffer_redux.specs.Policy.{WriteRules}
use Rattle.buffer_redux.specs.Buffered.{Buffered, with_block}
use Rattle.buffer_redux.specs.BufWriter.{WritesInOrder, WriterKeeps, WasSent, WasFlushed, WritesAlong, FlushedAlong, WriterStopped, BegunAlong, StoppedAlong, FrontAlong, AllAlong, AllFlushed, Flushes}
use Rattle.buffer_redux.specs.WriteAll.{WritesAll}
use Rattle.buffer_redux.specs.WriterLaws.{WritesInOrder-none, WritesInOrder-joins, WritesInOrder-contents}

-- the log as a word that goes on
goes_on : (s t : StreamLog) → WritesGoOn s t → WriteLogGrows s.writes t.writes
unfolding WritesGoOn
goes_on s t grows = grows

-- a flush flushes the inner writer once at most
flush_counted : {S P : Type 0} (s t : Buffered S P) (sent : StreamLog) (answer sending : Result (Unit {0}) Error)
    → sent.writes.flushes ≡ s.log.writes.flushes
    → MatchResult sending (λ _. t.log ≡ after_flush sent answer) (λ e. (answer ≡ Err e) × (t.log ≡ sent))
    → t.log.writes.flushes ≤ s.log.writes.flushes + 1
flush_counted s t sent answer (Ok _) same ended = omega (arith, same, ap (λ l. l.writes.flushes) ended)
flush_counted s t sent answer (Err e) same ended = omega (arith, same, ap (λ l. l.writes.flushes) ended.1)

pub Flushes-once : {S P : Type 0} (s t : Buffered S P) (answer : Result (Unit {0}) Error) → Flushes s answer t
    → t.log.writes.flushes ≤ s.log.writes.flushes + 1
Flushes-once s t answer f = flush_counted s t f.sent_log answer f.sending f.sends.sent.flushes f.ended

-- what ended a later trace ended the whole
pub WriterStopped-after : (a b c : WriteLog) (e : Error) → WriteLogGrows a b → WriterStopped b c e → WriterStopped a c e
WriterStopped-after a b c e grows (inl fault) = inl (record {
  before = grows.faults.more ++ fault.before;
  faults = fault.faults ∙ ap (λ l. (l ++ fault.before) ++ e ∷ []) grows.faults.equal
      ∙ ap (λ l. l ++ e ∷ []) (append_assoc a.faults grows.faults.more fault.before);
})
WriterStopped-after a b c e grows (inr zero) = inr (record
    { is_write_zero = zero.is_write_zero; zero_writes = omega (arith, zero.zero_writes, grows.zero_writes) })

-- what a send met ended it
pub WriterStopped-send : (old new : WriteLog) (e : Error) → SendErrorCaused old new e → WriterStopped old new e
WriterStopped-send old new e s = of s.cause
  where
    of : TookNothing s.interrupts old new (error_kind e) ⊎ FaultedAfter s.interrupts old new e → WriterStopped old new e
    of (inl nothing) = inr (record
        { is_write_zero = nothing.is_write_zero; zero_writes = omega (arith, nothing.zero_writes) })
    of (inr fault) = inl (record { before = s.interrupts; faults = fault.faults })

-- a writer in memory stopped for want of memory
pub WriterStopped-memory : (w : MemoryWriter) (old : WriteLog) (e : Error) → WriterStopped old (writer_log w).writes e
    → IsMemory e
WriterStopped-memory w old e (inl fault) = fault-memory w (old.faults ++ fault.before) e []
    (fault.faults ∙ sym (append-nil ((old.faults ++ fault.before) ++ e ∷ [])))
WriterStopped-memory w old e (inr zero) = absurd (omega (arith, zero.zero_writes, writer-takes_some w))

-- a flush to a writer in memory failed for want of memory
pub WasFlushed-memory : {P : Type 0} (trace : MemoryWriter → MemoryWriter → Type 0) (s t : Buffered MemoryWriter P)
    (e : Error) → WasFlushed writer_log trace s (Err e) t → IsMemory e
WasFlushed-memory trace s t e f = send-memory t.inner s.log.writes e
    (subst (λ l. SendErrorCaused s.log.writes l.writes e) f.went.told_after f.caused)

module _ {S P : Type 0} (tells : S → StreamLog) (trace : S → S → Type 0) (rules : WriteRules P) where
  -- no call accepts nothing
  pub WritesAlong-none : ((u : S) → trace u u) → (s : Buffered S P) → WritesAlong tells trace rules s [] s
  WritesAlong-none none s = record {
    in_order = WritesInOrder-none s;
    calls = none s.inner;
    told = λ is. is;
    noted = refl;
    grows = WriteLogGrows-none s.log.writes;
    capacity = le_refl _;
    kind = refl;
    claims = refl;
  }

  -- what touches the buffer alone, and takes these bytes in
  pub WritesAlong-block : ((u : S) → trace u u) → (s : Buffered S P) (accepted : List ℕ) (t : Buffered S P)
      → WritesInOrder s accepted t → s.block.capacity ≤ t.block.capacity → t.block.kind ≡ s.block.kind
      → t ≡ with_block s t.block → WritesAlong tells trace rules s accepted t
  WritesAlong-block none s accepted t order capacity kind others = record {
    in_order = order;
    calls = subst (λ x. trace s.inner x.inner) (sym others) (none s.inner);
    told = λ is. ap (λ x. x.log) others ∙ is ∙ ap (λ x. tells x.inner) (sym others);
    noted = ap (λ x. x.own_calls) others;
    grows = subst (λ x. WriteLogGrows s.log.writes x.log.writes) (sym others) (WriteLogGrows-none s.log.writes);
    capacity = capacity;
    kind = kind;
    claims = ap (λ x. rules.claims x.policy) others;
  }

  -- a steady policy stays one
  pub WritesAlong-steady : (s t : Buffered S P) (a : List ℕ) → WritesAlong tells trace rules s a t
      → (rules.claims s.policy).steady ≡ true → (rules.claims t.policy).steady ≡ true
  WritesAlong-steady s t a p steady = ap (λ c. c.steady) p.claims ∙ steady

  -- a call that says what it accepted and what it keeps, as `write` does, whatever it answers
  pub WriterKeeps-along : (s : Buffered S P) (accepted : List ℕ) (t : Buffered S P) → WritesInOrder s accepted t
      → WriterKeeps tells trace rules s t → WritesAlong tells trace rules s accepted t
  WriterKeeps-along s accepted t order keeps = record {
    in_order = order;
    calls = keeps.went.calls;
    told = λ _. keeps.went.told_after;
    noted = keeps.went.noted;
    grows = keeps.grows;
    capacity = keeps.capacity;
    kind = keeps.kind;
    claims = keeps.claims;
  }

  -- a trace that accepted the first of these bytes
  pub BegunAlong-of : (s t : Buffered S P) (a more : List ℕ) → WritesAlong tells trace rules s a t
      → BegunAlong tells trace rules s (a ++ more) t
  BegunAlong-of s t a more p = record { accepted = a; more = more; all = refl; along = p }

  -- a beginning of some bytes is one of more
  pub BegunAlong-more : (s t : Buffered S P) (a more : List ℕ) → BegunAlong tells trace rules s a t
      → BegunAlong tells trace rules s (a ++ more) t
  BegunAlong-more s t a more p = record {
    accepted = p.accepted;
    more = p.more ++ more;
    all = ap (λ l. l ++ more) p.all ∙ append_assoc p.accepted p.more more;
    along = p.along;
  }

  -- where a call stopped, it did so before more bytes
  pub StoppedAlong-more : (s t : Buffered S P) (a more : List ℕ) (e : Error) → StoppedAlong tells trace rules s a e t
      → StoppedAlong tells trace rules s (a ++ more) e t
  StoppedAlong-more s t a more e p = record { begun = BegunAlong-more s t a more p.begun; why = p.why }

  -- a write of all bytes, which at Err accepted some of the first
  pub WritesAll-along : (s : Buffered S P) (bs : List ℕ) (answer : Result (Unit {0}) Error) (t : Buffered S P)
      → (all : WritesAll tells trace rules s bs answer t) → WritesAlong tells trace rules s (take all.count bs) t
  WritesAll-along s bs answer t all = WriterKeeps-along s (take all.count bs) t all.front.in_order all.front.keeps

  pub WritesAll-took : (s : Buffered S P) (bs : List ℕ) (x : Unit {0}) (t : Buffered S P)
      → WritesAll tells trace rules s bs (Ok x) t → WritesAlong tells trace rules s bs t
  WritesAll-took s bs x t all = subst (λ l. WritesAlong tells trace rules s l t)
      (ap (λ n. take n bs) all.ended.0 ∙ take-length bs) (WritesAll-along s bs (Ok x) t all)

  pub WritesAll-front : (s : Buffered S P) (bs : List ℕ) (answer : Result (Unit {0}) Error) (t : Buffered S P)
      → WritesAll tells trace rules s bs answer t → FrontAlong tells trace rules s bs answer t
  WritesAll-front s bs (Ok x) t all = WritesAll-took s bs x t all
  WritesAll-front s bs (Err e) t all = record {
    accepted = take all.count bs;
    more = drop all.count bs;
    all = sym (take-append-drop all.count bs);
    along = WritesAll-along s bs (Err e) t all;
  }

  -- the same with why it failed, under a steady policy
  pub WritesAll-all : (s : Buffered S P) (bs : List ℕ) (answer : Result (Unit {0}) Error) (t : Buffered S P)
      → WritesAll tells trace rules s bs answer t
      → (rules.claims s.policy).steady ≡ true → AllAlong tells trace rules s bs answer t
  WritesAll-all s bs (Ok x) t all steady = WritesAll-took s bs x t all
  WritesAll-all s bs (Err e) t all steady =
      record { begun = WritesAll-front s bs (Err e) t all; why = all.steadily steady }

  -- a flush accepts nothing, whatever it answers
  pub WasFlushed-along : (s : Buffered S P) (answer : Result (Unit {0}) Error) (t : Buffered S P)
      → WasFlushed tells trace s answer t → WritesAlong tells trace rules s [] t
  WasFlushed-along s answer t f = record {
    in_order = f.in_order;
    calls = f.went.calls;
    told = λ _. f.went.told_after;
    noted = f.went.noted;
    grows = f.grows;
    capacity = omega (arith, f.capacity);
    kind = f.kind;
    claims = ap (λ p. rules.claims p) f.steps.policy;
  }

  pub WasFlushed-all : (s : Buffered S P) (answer : Result (Unit {0}) Error) (t : Buffered S P)
      → WasFlushed tells trace s answer t → AllAlong tells trace rules s [] answer t
  WasFlushed-all s (Ok x) t f = WasFlushed-along s (Ok x) t f
  WasFlushed-all s (Err e) t f = record {
    begun = BegunAlong-of s t [] [] (WasFlushed-along s (Err e) t f);
    why = WriterStopped-send s.log.writes t.log.writes e f.caused;
  }

  -- a send accepts nothing, whatever it answers
  module _ (goes : (u v : S) → trace u v → WritesGoOn (tells u) (tells v)) where
    pub WasSent-along : (s : Buffered S P) (answer : Result (Unit {0}) Error) (t : Buffered S P)
        → WasSent tells trace s answer t → WritesAlong tells trace rules s [] t
    WasSent-along s answer t f = record {
      in_order = f.in_order;
      calls = f.went.calls;
      told = λ _. f.went.told_after;
      noted = f.went.noted;
      grows = goes_on s.log t.log (rw (f.went.told_before, f.went.told_after) (goes s.inner t.inner f.went.calls));
      capacity = omega (arith, f.capacity);
      kind = f.sends.sent.dropped.kind;
      claims = ap (λ p. rules.claims p) f.policy;
    }

    pub WasSent-all : (s : Buffered S P) (answer : Result (Unit {0}) Error) (t : Buffered S P)
        → WasSent tells trace s answer t → AllAlong tells trace rules s [] answer t
    WasSent-all s (Ok x) t f = WasSent-along s (Ok x) t f
    WasSent-all s (Err e) t f = record {
      begun = BegunAlong-of s t [] [] (WasSent-along s (Err e) t f);
      why = WriterStopped-send s.log.writes t.log.writes e f.caused;
    }

  -- traces join
  module _ (joins : (u v w : S) → trace u v → trace v w → trace u w) where
    pub WritesAlong-joins : (s m t : Buffered S P) (a b : List ℕ) → WritesAlong tells trace rules s a m
        → WritesAlong tells trace rules m b t → WritesAlong tells trace rules s (a ++ b) t
    WritesAlong-joins s m t a b p q = record {
      in_order = WritesInOrder-joins s m t a b p.in_order q.in_order;
      calls = joins s.inner m.inner t.inner p.calls q.calls;
      told = λ is. q.told (p.told is);
      noted = q.noted ∙ p.noted;
      grows = WriteLogGrows-joins s.log.writes m.log.writes t.log.writes p.grows q.grows;
      capacity = le_trans p.capacity q.capacity;
      kind = q.kind ∙ p.kind;
      claims = q.claims ∙ p.claims;
    }

    -- a trace that accepts nothing more
    pub WritesAlong-then : (s m t : Buffered S P) (a : List ℕ) → WritesAlong tells trace rules s a m
        → WritesAlong tells trace rules m [] t → WritesAlong tells trace rules s a t
    WritesAlong-then s m t a p q =
        subst (λ l. WritesAlong tells trace rules s l t) (append-nil a) (WritesAlong-joins s m t a [] p q)

    -- a beginning behind what was accepted
    pub BegunAlong-after : (s m t : Buffered S P) (a b : List ℕ) → WritesAlong tells trace rules s a m
        → BegunAlong tells trace rules m b t → BegunAlong tells trace rules s (a ++ b) t
    BegunAlong-after s m t a b p q = record {
      accepted = a ++ q.accepted;
      more = q.more;
      all = ap (λ l. a ++ l) q.all ∙ sym (append_assoc a q.accepted q.more);
      along = WritesAlong-joins s m t a q.accepted p q.along;
    }

    pub FrontAlong-after : {A E : Type 0} (s m t : Buffered S P) (a b : List ℕ) (answer : Result A E)
        → WritesAlong tells trace rules s a m → FrontAlong tells trace rules m b answer t
        → FrontAlong tells trace rules s (a ++ b) answer t
    FrontAlong-after s m t a b (Ok x) p q = WritesAlong-joins s m t a b p q
    FrontAlong-after s m t a b (Err e) p q = BegunAlong-after s m t a b p q

    -- where a later trace stopped, the whole did
    pub StoppedAlong-after : (s m t : Buffered S P) (a b : List ℕ) (e : Error) → WritesAlong tells trace rules s a m
        → StoppedAlong tells trace rules m b e t → StoppedAlong tells trace rules s (a ++ b) e t
    StoppedAlong-after s m t a b e p q = record {
      begun = BegunAlong-after s m t a b p q.begun;
      why = WriterStopped-after s.log.writes m.log.writes t.log.writes e p.grows q.why;
    }

    pub AllAlong-after : {A : Type 0} (s m t : Buffered S P) (a b : List ℕ) (answer : Result A Error)
        → WritesAlong tells trace rules s a m → AllAlong tells trace rules m b answer t
        → AllAlong tells trace rules s (a ++ b) answer t
    AllAlong-after s m t a b (Ok x) p q = WritesAlong-joins s m t a b p q
    AllAlong-after s m t a b (Err e) p q = StoppedAlong-after s m t a b e p q

    -- nothing more was to be accepted
    pub StoppedAlong-then : (s m t : Buffered S P) (a : List ℕ) (e : Error) → WritesAlong tells trace rules s a m
        → StoppedAlong tells trace rules m [] e t → StoppedAlong tells trace rules s a e t
    StoppedAlong-then s m t a e p q =
        subst (λ l. StoppedAlong tells trace rules s l e t) (append-nil a) (StoppedAlong-after s m t a [] e p q)

    -- what was accepted was all received and flushed in the end, as behind an Ok flush
    pub FlushedAlong-all : (s t : Buffered S P) (a : List ℕ) → WritesAlong tells trace rules s a t → t.block.bytes ≡ []
        → t.log.writes.flushed ≡ t.log.writes.received → FlushedAlong tells trace rules s a t
    FlushedAlong-all s t a along empty flushed = record {
      along = along;
      empty = empty;
      received = sym (append-nil t.log.writes.received) ∙ ap (λ l. t.log.writes.received ++ l) (sym empty)
          ∙ WritesInOrder-contents s t a along.in_order ∙ append_assoc s.log.writes.received s.block.bytes a;
      flushed = flushed;
    }

    pub FlushedAlong-of : (s m t : Buffered S P) (a : List ℕ) (x : Unit {0}) → WritesAlong tells trace rules s a m
        → WasFlushed tells trace m (Ok x) t → FlushedAlong tells trace rules s a t
    FlushedAlong-of s m t a x p f =
        FlushedAlong-all s t a (WritesAlong-then s m t a p (WasFlushed-along m (Ok x) t f)) f.ok.empty f.ok.flushed

    pub AllFlushed-of : (s m t : Buffered S P) (a : List ℕ) (answer : Result (Unit {0}) Error)
        → WritesAlong tells trace rules s a m → WasFlushed tells trace m answer t
        → AllFlushed tells trace rules s a answer t
    AllFlushed-of s m t a (Ok x) p f = FlushedAlong-of s m t a x p f
    AllFlushed-of s m t a (Err e) p f = StoppedAlong-then s m t a e p (WasFlushed-all m (Err e) t f)

-- what a stream in a `Told` is known to hold gained just the bytes that were buffered and accepted
pub FlushedAlong-held : {S P : Type 0} (contents : S → Option (List ℕ)) (rules : WriteRules P)
    (s : Buffered (Told S) P) (a : List ℕ) (t : Buffered (Told S) P) → s.log ≡ told_log s.inner
    → FlushedAlong told_log (ToldWrites contents) rules s a t
    → Appends (contents (told_stream s.inner)) (contents (told_stream t.inner)) (s.block.bytes ++ a)
FlushedAlong-held contents rules s a t is p =
    let went = p.along.calls in
    let after = p.along.told is in
    let same : went.more ≡ s.block.bytes ++ a =
    append_cancel_left s.log.writes.received went.more (s.block.bytes ++ a)
    (ap (λ l. l.writes.received ++ went.more) is ∙ sym went.received ∙ ap (λ l. l.writes.received) (sym after) ∙ p.received) in
    subst (λ l. Appends (contents (told_stream s.inner)) (contents (told_stream t.inner)) l) same went.held
