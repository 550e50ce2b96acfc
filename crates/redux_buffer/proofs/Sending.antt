-- What sending does, write after write.
use Rattle.std.proofs.Common.{◌≡◌, ◌∙◌, ℕ, zero, suc, ◌+◌, ◌-◌, ◌*◌, ◌<◌, ◌≤◌, List, [], ◌∷◌, ◌++◌, length, min, take, sym, refl, ap, subst, arith}
use Rattle.std.proofs.Common.{append-nil, append_assoc, length-append, length-drop, take-take, Result, Ok, Err, IfErr, inl, inr}
use Rattle.std.proofs.Math.Seq.{take-add}
use Rattle.std.proofs.lemmas.List.Elements.{All-push}
use Rattle.std.specs.IoError.{error_kind}
use Rattle.std.specs.declared.io.Error.{Error}
use Rattle.std.specs.declared.io.ErrorKind.TheVariants.{WriteZero}
use Rattle.redux_buffer.specs.Block.{Block, ConsumesFirst, OnlyRingMoves}
use Rattle.redux_buffer.specs.BlockLaws.{OnlyRingMoves-joins}
use Rattle.redux_buffer.specs.StreamLog.{StreamLog, WriteLog, portion, with_fault, with_short, with_zero, after_write, zero_of_some, zero_of_none, short_of_less, short_of_all}
use Rattle.redux_buffer.specs.Faults.{IsInterrupt, OnlyInterrupted, OnlyInterrupted-none, OnlyInterrupted-joins, TookNothing-after, FaultedAfter-after}
use Rattle.redux_buffer.specs.Retried.{InterruptedSteps, Retried}
use Rattle.redux_buffer.specs.Transfer.{Offers, WritesRetried, Sent, Sends}
use Rattle.redux_buffer.proofs.Steps.{ConsumesFirst-joins}

-- this many writes were interrupted, one after another
record Interrupts (count : ℕ) (old new : StreamLog) : Type 0 where
  pub received : new.writes.received ≡ old.writes.received
  pub flushed : new.writes.flushed ≡ old.writes.flushed
  pub flushes : new.writes.flushes ≡ old.writes.flushes
  pub errors : List Error
  pub number : length errors ≡ count
  pub asks : new.writes.asks ≡ old.writes.asks + count
  pub short_writes : new.writes.short_writes ≡ old.writes.short_writes + count
  pub only : OnlyInterrupted errors old.writes new.writes
  pub others : new ≡ record old { writes = new.writes }

others-joins : (a b c : StreamLog) → b ≡ record a { writes = b.writes } → c ≡ record b { writes = c.writes }
    → c ≡ record a { writes = c.writes }
others-joins a b c p q = q ∙ ap (λ (l : StreamLog). record l { writes = c.writes }) p

only_writes : (bs : List ℕ) (answer : Result ℕ Error) (a b : StreamLog) → b ≡ after_write a bs answer
    → b ≡ record a { writes = b.writes }
only_writes bs answer a b told = told ∙ ap (λ (l : StreamLog). record a { writes = l.writes }) (sym told)

-- none
no_interrupts : (a : StreamLog) → Interrupts 0 a a
no_interrupts a = record {
  received = refl;
  flushed = refl;
  flushes = refl;
  errors = [];
  number = refl;
  asks = omega arith;
  short_writes = omega arith;
  only = OnlyInterrupted-none a.writes;
  others = refl;
}

-- one more
Interrupts-more : (count : ℕ) (bs : List ℕ) (e : Error) (a b c : StreamLog) → Interrupts count a b
    → IsInterrupt e → c ≡ after_write b bs (Err e) → Interrupts (suc count) a c
Interrupts-more count bs e a b c met is told = record {
  received = ap (λ l. l.writes.received) told ∙ append-nil b.writes.received ∙ met.received;
  flushed = ap (λ l. l.writes.flushed) told ∙ met.flushed;
  flushes = ap (λ l. l.writes.flushes) told ∙ met.flushes;
  errors = met.errors ++ e ∷ [];
  number = omega (arith, met.number, length-append met.errors (e ∷ []));
  asks = omega (arith, met.asks, ap (λ l. l.writes.asks) told);
  short_writes = omega (arith, met.short_writes, ap (λ l. l.writes.short_writes) told);
  only = record {
    interrupted = All-push IsInterrupt met.errors e met.only.interrupted is;
    faults = ap (λ l. l.writes.faults) told ∙ ap (λ l. l ++ e ∷ []) met.only.faults
        ∙ append_assoc a.writes.faults met.errors (e ∷ []);
    zero_writes = ap (λ l. l.writes.zero_writes) told ∙ met.only.zero_writes;
  };
  others = others-joins a b c met.others (only_writes bs (Err e) b c told);
}

-- the write that came after them, whose answer ends it
Interrupts-end : (count : ℕ) (bs : List ℕ) (answer : Result ℕ Error) (a b c : StreamLog) → Interrupts count a b
    → count ≤ 64 → IfErr answer (λ e. IsInterrupt e → count ≡ 64) → c ≡ after_write b bs answer
    → WritesRetried bs a answer c
Interrupts-end count bs answer a b c met few often told = record {
  interrupts = met.errors;
  interrupted = met.only.interrupted;
  most = omega (arith, few, met.number);
  often = often_of answer often;
  received = ap (λ l. l.writes.received) told ∙ ap (λ l. l ++ portion bs answer) met.received;
  flushed = ap (λ l. l.writes.flushed) told ∙ met.flushed;
  flushes = ap (λ l. l.writes.flushes) told ∙ met.flushes;
  asks = omega (arith, ap (λ l. l.writes.asks) told, met.asks, met.number);
  short_writes = ap (λ l. l.writes.short_writes) told
      ∙ ap (λ n. with_short n bs answer) (omega (arith, met.short_writes, met.number));
  offered = ap (λ l. l.writes.offer) told;
  zero_writes = ap (λ l. l.writes.zero_writes) told ∙ ap (λ n. with_zero n bs answer) met.only.zero_writes;
  faults = ap (λ l. l.writes.faults) told ∙ ap (λ l. with_fault l answer) met.only.faults;
  others = others-joins a b c met.others (only_writes bs answer b c told);
}
  where
    often_of : (x : Result ℕ Error) → IfErr x (λ e. IsInterrupt e → count ≡ 64)
        → IfErr x (λ e. IsInterrupt e → length met.errors ≡ 64)
    often_of (Ok n) is = tt
    often_of (Err e) is = λ interrupted. met.number ∙ is interrupted

-- the writes of one that was asked again
module _ {W : Type 0} (tells : W → StreamLog) (trace : W → W → Type 0) (none : (s : W) → trace s s)
    (joins : (a b c : W) → trace a b → trace b c → trace a c) (bs : List ℕ) where
  interrupts : (k : ℕ) (s t : W) → InterruptedSteps (Offers tells trace bs) k s t
      → Interrupts k (tells s) (tells t) × trace s t
  interrupts zero s t same = subst (λ x. Interrupts 0 (tells s) (tells x) × trace s x) same (no_interrupts (tells s), none s)
  interrupts (suc k) s t i =
      let before = interrupts k s i.0 i.1 in
      let went = i.4 in (
        Interrupts-more k bs i.2 (tells s) (tells i.0) (tells t) before.0 i.3 went.told,
        joins s i.0 t before.1 went.traced,
      )

  module _ (s : W) (answer : Result ℕ Error) (t : W) (r : Retried (Offers tells trace bs) s answer t) where
    pub wrote_retried : WritesRetried bs (tells s) answer (tells t)
    wrote_retried = Interrupts-end r.count bs answer (tells s) (tells r.last) (tells t)
        (interrupts r.count s r.last r.interrupted).0 r.most r.often r.went.told

    pub traced_last : trace s r.last
    traced_last = (interrupts r.count s r.last r.interrupted).1

    pub traced_retried : trace s t
    traced_retried = joins s r.last t traced_last r.went.traced

-- n writes took all that they were offered, and every other one fell short
abbrev pub WholeWrites : ℕ → WriteLog → WriteLog → Type 0
WholeWrites n old new = (old.short_writes ≤ new.short_writes)
    × (new.asks + old.short_writes ≡ old.asks + new.short_writes + n)

module _ (k : ℕ) (es : List Error) (len : ℕ) (a b : Block) (log log' log'' : StreamLog) (sent : Sent k a log b log')
    (only : OnlyInterrupted es log.writes log'.writes) (few : length es ≤ 64 * k) where
  -- one write more, which took n bytes of the first len
  pub Sent-more : (n : ℕ) (c : Block) → WritesRetried (take len b.bytes) log' (Ok n) log'' → n ≤ len
      → n ≤ length b.bytes → ConsumesFirst n b c → OnlyRingMoves b c → Sent (k + n) a log c log''
  Sent-more n c wrote short room took moved =
      let left : length b.bytes ≡ length a.bytes - k = ap length sent.dropped.bytes ∙ length-drop k a.bytes in record {
        within = omega (arith, sent.within, left);
        dropped = ConsumesFirst-joins k n a b c sent.dropped took;
        moved = OnlyRingMoves-joins a b c sent.dropped.kind sent.moved moved;
        received =
            wrote.received ∙ ap (λ l. l ++ take n (take len b.bytes)) sent.received
            ∙ append_assoc log.writes.received (take k a.bytes) (take n (take len b.bytes))
            ∙ ap (λ l. log.writes.received ++ (take k a.bytes ++ l))
            (take-take n len b.bytes short ∙ ap (take n) sent.dropped.bytes)
            ∙ ap (λ l. log.writes.received ++ l) (sym (take-add k n a.bytes));
        flushed = wrote.flushed ∙ sent.flushed;
        flushes = wrote.flushes ∙ sent.flushes;
        others = others-joins log log' log'' sent.others wrote.others;
      }

  pub only_more : (n : ℕ) → 0 < n → (wrote : WritesRetried (take len b.bytes) log' (Ok n) log'')
      → OnlyInterrupted (es ++ wrote.interrupts) log.writes log''.writes
  only_more n some wrote = OnlyInterrupted-joins es wrote.interrupts log.writes log'.writes log''.writes only (record {
    interrupted = wrote.interrupted;
    faults = wrote.faults;
    zero_writes = wrote.zero_writes ∙ zero_of_some n (take len b.bytes) log'.writes.zero_writes (inl some);
  })

  -- a write that took less than it was offered, one that took all, and one that failed
  pub short_more : (n : ℕ) → WholeWrites 0 log.writes log'.writes → WritesRetried (take len b.bytes) log' (Ok n) log''
      → n < length (take len b.bytes) → WholeWrites 0 log.writes log''.writes
  short_more n before wrote less =
      let counted = short_of_less n (take len b.bytes) (log'.writes.short_writes + length wrote.interrupts) less in
      (omega (arith, before.0, wrote.short_writes, counted), omega (arith, before.1, wrote.asks, wrote.short_writes, counted))

  pub whole_more : (n : ℕ) → WholeWrites 0 log.writes log'.writes → WritesRetried (take len b.bytes) log' (Ok n) log''
      → length (take len b.bytes) ≤ n → WholeWrites 1 log.writes log''.writes
  whole_more n before wrote all =
      let counted = short_of_all n (take len b.bytes) (log'.writes.short_writes + length wrote.interrupts) all in
      (omega (arith, before.0, wrote.short_writes, counted), omega (arith, before.1, wrote.asks, wrote.short_writes, counted))

  failed_more : (e : Error) → WholeWrites 0 log.writes log'.writes → WritesRetried (take len b.bytes) log' (Err e) log''
      → WholeWrites 0 log.writes log''.writes
  failed_more e before wrote =
      (omega (arith, before.0, wrote.short_writes), omega (arith, before.1, wrote.asks, wrote.short_writes))

  -- the same where the last write failed, or took nothing
  Sent-still : (answer : Result ℕ Error) → WritesRetried (take len b.bytes) log' answer log''
      → portion (take len b.bytes) answer ≡ [] → Sent k a log b log''
  Sent-still answer wrote none = record {
    within = sent.within;
    dropped = sent.dropped;
    moved = sent.moved;
    received = wrote.received ∙ ap (λ l. log'.writes.received ++ l) none ∙ append-nil log'.writes.received ∙ sent.received;
    flushed = wrote.flushed ∙ sent.flushed;
    flushes = wrote.flushes ∙ sent.flushes;
    others = others-joins log log' log'' sent.others wrote.others;
  }

  -- the next write failed
  pub sends_failed : (amount : ℕ) (e : Error) → WholeWrites 0 log.writes log'.writes → k < min amount (length a.bytes)
      → 0 < length (take len b.bytes)
      → WritesRetried (take len b.bytes) log' (Err e) log'' → Sends amount a log (Err e) b log''
  sends_failed amount e before fewer some wrote = record {
    count = k;
    interrupts = es ++ wrote.interrupts;
    sent = Sent-still (Err e) wrote refl;
    most = omega (arith, fewer);
    whole = tt;
    unsent = fewer;
    ok = tt;
    failed = record {
      cause = inr (FaultedAfter-after es wrote.interrupts log.writes log'.writes log''.writes e only (record {
        interrupted = wrote.interrupted;
        faults = wrote.faults;
        zero_writes = wrote.zero_writes;
      }));
      often = λ kind. let all = wrote.often kind in omega (arith, all, length-append es wrote.interrupts);
    };
    idle = λ none. absurd (omega (arith, fewer, none));
    offered = λ _. omega (arith, some, wrote.offered);
    fell_short = (failed_more e before wrote).0;
    whole_writes = omega (arith, (failed_more e before wrote).1);
    few = omega (arith, few, wrote.most, length-append es wrote.interrupts);
  }

  -- the next write took nothing of something
  pub sends_nothing : (amount n : ℕ) (e : Error) → WholeWrites 0 log.writes log'.writes → k < min amount (length a.bytes) → n ≡ 0
      → 0 < length (take len b.bytes) → error_kind e ≡ WriteZero
      → WritesRetried (take len b.bytes) log' (Ok n) log'' → Sends amount a log (Err e) b log''
  sends_nothing amount n e before fewer none some kind wrote = record {
    count = k;
    interrupts = es ++ wrote.interrupts;
    sent = Sent-still (Ok n) wrote (ap (λ m. take m (take len b.bytes)) none);
    most = omega (arith, fewer);
    whole = tt;
    unsent = fewer;
    ok = tt;
    failed = record {
      cause = inl (TookNothing-after es wrote.interrupts log.writes log'.writes log''.writes (error_kind e) only (record {
        is_write_zero = kind;
        interrupted = wrote.interrupted;
        faults = wrote.faults;
        zero_writes = wrote.zero_writes ∙ zero_of_none n (take len b.bytes) log'.writes.zero_writes none some;
      }));
      often = λ interrupted. cc;
    };
    idle = λ none. absurd (omega (arith, fewer, none));
    offered = λ _. omega (arith, some, wrote.offered);
    fell_short = (short_more n before wrote (omega (arith, none, some))).0;
    whole_writes = omega (arith, (short_more n before wrote (omega (arith, none, some))).1);
    few = omega (arith, few, wrote.most, length-append es wrote.interrupts);
  }
