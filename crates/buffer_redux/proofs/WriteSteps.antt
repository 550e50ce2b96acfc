-- What each step of a write keeps.
use Rattle.std.proofs.Common.{◌≡◌, ℕ, ◌≤◌, List, [], ◌∷◌, ◌++◌, length, min, take, drop, take_all, Result, Ok, Err, IfErr, refl, sym, ap, ◌∙◌, arith, inl, inr, append-nil, append_assoc, length-drop, le_refl, subst}
use Rattle.std.proofs.lemmas.Bool.{cases_lt}
use Rattle.std.proofs.lemmas.List.{drop_all, nil_from_length}
use Rattle.std.specs.declared.io.Error.{Error}
use Rattle.redux_buffer.specs.Block.{Block, IsBlock, usable}
use Rattle.redux_buffer.specs.GoesOn.{GoesOn}
use Rattle.redux_buffer.specs.LogGrows.{WriteLogGrows, WriteLogGrows-none, WriteLogGrows-flush, WriteLogGrows-joins, WriteLogGrows-write}
use Rattle.redux_buffer.specs.StreamLog.{StreamLog, after_flush, portion}
use Rattle.redux_buffer.specs.Transfer.{FailedRow, Sends}
use Rattle.buffer_redux.specs.declared.policy.FlushAmt.{FlushAmt}
use Rattle.buffer_redux.specs.Policy.{BeforeWrite, WriteRules}
use Rattle.buffer_redux.specs.Buffered.{Buffered, InnerWent, with_inner, with_policy}
use Rattle.buffer_redux.specs.BufWriter.{FlushesAmount, LeavesCapacity, TakesIn, CopiesIn, Prepared, Finished, WritesInOrder, WasFlushed, WasSent}
use Rattle.buffer_redux.specs.WriterLaws.{flush_ways, ways_in, WritesInOrder-joins, WritesInOrder-sends}

-- sending lets the log go on
sent_faults : (amount : ℕ) (b b' : Block) (log log' : StreamLog) (answer : Result (Unit {0}) Error)
    → Sends amount b log answer b' log'
    → GoesOn log.writes.faults log'.writes.faults × (log.writes.zero_writes ≤ log'.writes.zero_writes)
sent_faults amount b b' log log' (Ok _) f =
    (record { more = _; equal = f.ok.faults }, omega (arith, f.ok.zero_writes))
sent_faults amount b b' log log' (Err e) f = elim f.failed.cause [
  | inl nothing ↦ (record { more = _; equal = nothing.faults }, omega (arith, nothing.zero_writes))
  | inr fault ↦ (
    record {
      more = f.interrupts ++ e ∷ [];
      equal = fault.faults
          ∙ append_assoc log.writes.faults f.interrupts (e ∷ []);
    },
    omega (arith, fault.zero_writes),
  )
]

-- sending lets the counts of writes rise
sent_writes : (amount : ℕ) (b b' : Block) (log log' : StreamLog) (answer : Result (Unit {0}) Error)
    → Sends amount b log answer b' log'
    → (log.writes.asks ≤ log'.writes.asks) × (log.writes.short_writes ≤ log'.writes.short_writes)
sent_writes amount b b' log log' (Ok _) f = elim (cases_lt 0 (min amount (length b.bytes))) [
  | inl some ↦ (let writes = f.whole_writes some in
      (omega (arith, writes, f.fell_short), f.fell_short))
  | inr none ↦ (let same = f.idle (omega (arith, none)) in
      (omega (arith, ap (λ l. l.writes.asks) same), omega (arith, ap (λ l. l.writes.short_writes) same)))
]
sent_writes amount b b' log log' (Err e) f =
    (omega (arith, f.whole_writes, f.fell_short), f.fell_short)

pub sends_grow : (amount : ℕ) (b b' : Block) (log log' : StreamLog) (answer : Result (Unit {0}) Error)
    → Sends amount b log answer b' log' → WriteLogGrows log.writes log'.writes
sends_grow amount b b' log log' answer f =
    let faults = sent_faults amount b b' log log' answer f in
    let writes = sent_writes amount b b' log log' answer f in record {
      received = record { more = take f.count b.bytes; equal = f.sent.received };
      flushed = inl f.sent.flushed;
      flushes = omega (arith, f.sent.flushes);
      asks = writes.0;
      short_writes = writes.1;
      zero_writes = faults.1;
      faults = faults.0;
    }

pub log_same : (log log' : StreamLog) → log' ≡ log → WriteLogGrows log.writes log'.writes
log_same log log' same =
    subst (λ l. WriteLogGrows log.writes l.writes) (sym same) (WriteLogGrows-none log.writes)

module _ {S P : Type 0} where
  -- nothing was received, nor consumed, and xs came behind the bytes
  WritesInOrder-added : (s t : Buffered S P) (xs : List ℕ) → t.log.writes.received ≡ s.log.writes.received
      → t.block.bytes ≡ s.block.bytes ++ xs → t.block.consumed ≡ s.block.consumed → WritesInOrder s xs t
  WritesInOrder-added s t xs r b none = record {
    sent = [];
    received = r ∙ sym (append-nil s.log.writes.received);
    equal = b;
    consumed = omega (arith, none);
  }

  -- what a send and a failed flush promise, of their sending
  pub was_sent : (tells : S → StreamLog) (trace : S → S → Type 0) (s t : Buffered S P)
      (answer : Result (Unit {0}) Error) → Sends (length s.block.bytes) s.block s.log answer t.block t.log
      → IfErr answer (λ e. FailedRow tells trace e s.inner t.inner)
      → t.policy ≡ s.policy → IsBlock t.block → InnerWent tells trace s t → WasSent tells trace s answer t
  was_sent tells trace s t (Ok _) f row policy whole went =
      let all : length s.block.bytes ≤ f.count = omega (arith, f.whole) in
      record {
        sends = f;
        in_order = WritesInOrder-sends s t (length s.block.bytes) (Ok tt) f;
        ok = record {
          empty = f.sent.dropped.bytes ∙ drop_all f.count s.block.bytes all;
          received = f.sent.received ∙ ap (λ l. s.log.writes.received ++ l) (take_all f.count s.block.bytes all);
          met = record { interrupts = f.interrupts; only = f.ok };
        };
        caused = tt;
        row = tt;
        not_flushed = f.sent.flushed;
        policy = policy;
        capacity = f.sent.dropped.capacity;
        whole = whole;
        went = went;
      }
  was_sent tells trace s t (Err e) f row policy whole went = record {
    sends = f;
    in_order = WritesInOrder-sends s t (length s.block.bytes) (Err e) f;
    ok = tt;
    caused = record { interrupts = f.interrupts; cause = f.failed.cause };
    row = row;
    not_flushed = f.sent.flushed;
    policy = policy;
    capacity = f.sent.dropped.capacity;
    whole = whole;
    went = went;
  }

  module _ (tells : S → StreamLog) (trace : S → S → Type 0) (s : Buffered S P) where
    -- what a flush promises whose sending failed
    pub not_sent : (t : Buffered S P) (e : Error) → WasSent tells trace s (Err e) t → WasFlushed tells trace s (Err e) t
    not_sent t e sent = record {
      steps = record { policy = sent.policy; sent_log = t.log; sending = Err e; sends = sent.sends; ended = (refl, refl) };
      in_order = sent.in_order;
      ok = tt;
      caused = sent.caused;
      row = sent.row;
      not_flushed = sent.not_flushed;
      grows = sends_grow (length s.block.bytes) s.block t.block s.log t.log (Err e) sent.sends;
      capacity = sent.capacity;
      kind = sent.sends.sent.dropped.kind;
      whole = sent.whole;
      went = sent.went;
    }

    -- what one promises that flushed the inner writer behind it, which is i now
    module _ (m : Buffered S P) (i : S) (x : Unit {0}) (sent : WasSent tells trace s (Ok x) m)
        (went : trace s.inner i) where
      -- that is the writer
      abbrev flushed : Buffered S P
      flushed = with_inner tells m i

      flushed_went : InnerWent tells trace s flushed
      flushed_went = record { calls = went; told_before = sent.went.told_before; told_after = refl; noted = sent.went.noted }

      flush_grows : (answer : Result (Unit {0}) Error) → tells i ≡ after_flush m.log answer
          → WriteLogGrows s.log.writes (tells i).writes
      flush_grows answer told = WriteLogGrows-joins s.log.writes m.log.writes (tells i).writes
          (sends_grow (length s.block.bytes) s.block m.block s.log m.log (Ok x) sent.sends)
          (subst (λ l. WriteLogGrows m.log.writes l.writes) (sym told) (WriteLogGrows-flush m.log answer))

      flush_order : (answer : Result (Unit {0}) Error) → tells i ≡ after_flush m.log answer → WritesInOrder s [] flushed
      flush_order answer told = record {
        sent = sent.in_order.sent;
        received = ap (λ l. l.writes.received) told ∙ sent.in_order.received;
        equal = sent.in_order.equal;
        consumed = sent.in_order.consumed;
      }

      pub was_flushed : (answer : Result (Unit {0}) Error) → tells i ≡ after_flush m.log answer
          → WasFlushed tells trace s answer flushed
      was_flushed (Ok y) told = record {
        steps = record { policy = sent.policy; sent_log = m.log; sending = Ok x; sends = sent.sends; ended = told };
        in_order = flush_order (Ok y) told;
        ok = record {
          empty = sent.ok.empty;
          received = ap (λ l. l.writes.received) told ∙ sent.ok.received;
          flushed = ap (λ l. l.writes.flushed) told ∙ sym (ap (λ l. l.writes.received) told);
          met = record {
            interrupts = sent.ok.met.interrupts;
            only = record {
              interrupted = sent.ok.met.only.interrupted;
              faults = ap (λ l. l.writes.faults) told ∙ sent.ok.met.only.faults;
              zero_writes = ap (λ l. l.writes.zero_writes) told ∙ sent.ok.met.only.zero_writes;
            };
          };
        };
        caused = tt;
        row = tt;
        not_flushed = tt;
        grows = flush_grows (Ok y) told;
        capacity = sent.capacity;
        kind = sent.sends.sent.dropped.kind;
        whole = sent.whole;
        went = flushed_went;
      }
      was_flushed (Err e) told = record {
        steps = record { policy = sent.policy; sent_log = m.log; sending = Ok x; sends = sent.sends; ended = told };
        in_order = flush_order (Err e) told;
        ok = tt;
        caused = record {
          interrupts = sent.ok.met.interrupts;
          cause = inr (record {
            interrupted = sent.ok.met.only.interrupted;
            faults = ap (λ l. l.writes.faults) told ∙ ap (λ l. l ++ e ∷ []) sent.ok.met.only.faults;
            zero_writes = ap (λ l. l.writes.zero_writes) told ∙ sent.ok.met.only.zero_writes;
          });
        };
        row = tt;
        not_flushed = ap (λ l. l.writes.flushed) told ∙ sent.not_flushed;
        grows = flush_grows (Err e) told;
        capacity = sent.capacity;
        kind = sent.sends.sent.dropped.kind;
        whole = sent.whole;
        went = flushed_went;
      }

  module _ (s t : Buffered S P) (amount : ℕ) (answer : Result (Unit {0}) Error)
      (f : FlushesAmount amount s answer t) where
    pub capacity_stays : t.block.capacity ≡ s.block.capacity
    capacity_stays = elim (flush_ways amount (length s.block.bytes)) [
      | inl none ↦ ap (λ b. b.capacity) (f.idle none).buffer
      | inr some ↦ (f.sends some.0 some.1).sent.dropped.capacity
    ]

    -- where no byte left, all stayed
    pub bytes_stay : length s.block.bytes ≤ length t.block.bytes → t.block.bytes ≡ s.block.bytes
    bytes_stay long = elim (flush_ways amount (length s.block.bytes)) [
      | inl none ↦ ap (λ b. b.bytes) (f.idle none).buffer
      | inr some ↦ (
          let sends = f.sends some.0 some.1 in
          let left = ap length sends.sent.dropped.bytes ∙ length-drop sends.count s.block.bytes in
          let none : sends.count ≡ 0 = omega (arith, left, sends.sent.within, long) in
          sends.sent.dropped.bytes ∙ ap (λ k. drop k s.block.bytes) none
          )
    ]

  -- bytes copied in behind those that the buffer had
  settled_bytes : (bs : List ℕ) (s : Buffered S P) (answer : Result ℕ Error) (t : Buffered S P)
      (copied : CopiesIn bs s answer t)
      → (copied.settled.bytes ≡ s.block.bytes) × (copied.settled.capacity ≡ s.block.capacity)
      × (copied.settled.consumed ≡ s.block.consumed) × (copied.settled.kind ≡ s.block.kind)
  settled_bytes bs s answer t copied = elim (cases_lt 0 (usable s.block)) [
    | inl some ↦ (
        let same = copied.roomy some in
        (ap (λ b. b.bytes) same, ap (λ b. b.capacity) same, ap (λ b. b.consumed) same, ap (λ b. b.kind) same)
        )
    | inr none ↦ (let made = copied.tight (omega (arith, none)) in (made.bytes, made.capacity, made.consumed, made.kind))
  ]

  capacity_taken : (s t : Buffered S P) (bs : List ℕ) (answer : Result ℕ Error)
      → TakesIn bs s answer t → t.block.capacity ≡ s.block.capacity
  capacity_taken s t bs answer f = elim (ways_in s.block (length bs)) [
    | inl past ↦ ap (λ b. b.capacity) (f.past past).block
    | inr inside ↦ (let copied = f.inside inside in copied.added.capacity ∙ (settled_bytes bs s answer t copied).1)
  ]

  -- what every step of a write keeps
  module _ (rules : WriteRules P) where
    pub record StepKeeps (s : Buffered S P) (accepted : List ℕ) (t : Buffered S P) : Type 0 where
      pub in_order : WritesInOrder s accepted t
      pub grows : WriteLogGrows s.log.writes t.log.writes
      pub flushed : t.log.writes.flushed ≡ s.log.writes.flushed
      pub flushes : t.log.writes.flushes ≡ s.log.writes.flushes
      pub capacity : s.block.capacity ≤ t.block.capacity
      pub same_capacity : LeavesCapacity rules → t.block.capacity ≡ s.block.capacity
      pub kind : t.block.kind ≡ s.block.kind
      pub claims : rules.claims t.policy ≡ rules.claims s.policy

    pub StepKeeps-joins : (s m t : Buffered S P) (a b : List ℕ)
        → StepKeeps s a m → StepKeeps m b t → StepKeeps s (a ++ b) t
    StepKeeps-joins s m t a b p q = record {
      in_order = WritesInOrder-joins s m t a b p.in_order q.in_order;
      grows = WriteLogGrows-joins s.log.writes m.log.writes t.log.writes p.grows q.grows;
      flushed = q.flushed ∙ p.flushed;
      flushes = q.flushes ∙ p.flushes;
      capacity = omega (arith, p.capacity, q.capacity);
      same_capacity = λ leaves. q.same_capacity leaves ∙ p.same_capacity leaves;
      kind = q.kind ∙ p.kind;
      claims = q.claims ∙ p.claims;
    }

    -- a step that accepts nothing more
    pub StepKeeps-then : (s m t : Buffered S P) (a : List ℕ)
        → StepKeeps s a m → StepKeeps m [] t → StepKeeps s a t
    StepKeeps-then s m t a p q = subst (λ l. StepKeeps s l t) (append-nil a) (StepKeeps-joins s m t a [] p q)

    -- xs came behind the bytes, and nothing was sent
    StepKeeps-added : (s t : Buffered S P) (xs : List ℕ) → t.log ≡ s.log → t.block.bytes ≡ s.block.bytes ++ xs
        → t.block.consumed ≡ s.block.consumed → s.block.capacity ≤ t.block.capacity
        → (LeavesCapacity rules → t.block.capacity ≡ s.block.capacity) → t.block.kind ≡ s.block.kind
        → rules.claims t.policy ≡ rules.claims s.policy → StepKeeps s xs t
    StepKeeps-added s t xs told bytes consumed capacity same kind claims = record {
      in_order = WritesInOrder-added s t xs (ap (λ l. l.writes.received) told) bytes consumed;
      grows = log_same s.log t.log told;
      flushed = ap (λ l. l.writes.flushed) told;
      flushes = ap (λ l. l.writes.flushes) told;
      capacity = capacity;
      same_capacity = same;
      kind = kind;
      claims = claims;
    }

    -- the policy was asked
    pub StepKeeps-asked : (incoming : ℕ) (answer : Result FlushAmt Error) (s t : Buffered S P)
        → BeforeWrite rules s.policy s.block incoming answer t.policy t.block → t.log ≡ s.log → StepKeeps s [] t
    StepKeeps-asked incoming answer s t asked told =
        let law = asked.law in
        StepKeeps-added s t [] told (law.bytes ∙ sym (append-nil s.block.bytes)) law.consumed law.capacity
        (λ leaves. leaves _ _ _ _ _ _ asked.allowed) law.kind asked.claims

    StepKeeps-flush : (s t : Buffered S P) (amount : ℕ) (answer : Result (Unit {0}) Error)
        → FlushesAmount amount s answer t → StepKeeps s [] t
    StepKeeps-flush s t amount answer f =
        let capacity = capacity_stays s t amount answer f in
        elim (flush_ways amount (length s.block.bytes)) [
          | inl none ↦ (
              let same = (f.idle none).buffer in
              StepKeeps-added s t [] (f.idle none).told (ap (λ b. b.bytes) same ∙ sym (append-nil s.block.bytes))
              (ap (λ b. b.consumed) same) (omega (arith, capacity)) (λ _. capacity) (ap (λ b. b.kind) same)
              (ap rules.claims f.policy)
              )
          | inr some ↦ (
              let sends = f.sends some.0 some.1 in
              record {
                in_order = WritesInOrder-sends s t amount answer sends;
                grows = sends_grow amount _ _ _ _ answer sends;
                flushed = sends.sent.flushed;
                flushes = sends.sent.flushes;
                capacity = omega (arith, capacity);
                same_capacity = λ _. capacity;
                kind = sends.sent.dropped.kind;
                claims = ap rules.claims f.policy;
              }
              )
        ]

    -- bytes taken in past the buffer, or into it
    pub StepKeeps-takes : (s t : Buffered S P) (bs : List ℕ) (answer : Result ℕ Error)
        → TakesIn bs s answer t → StepKeeps s (portion bs answer) t
    StepKeeps-takes s t bs answer f =
        let capacity = capacity_taken s t bs answer f in
        elim (ways_in s.block (length bs)) [
          | inl past ↦ (
              let direct = f.past past in
              let none = nil_from_length s.block.bytes past.0 in
              let empty : t.block.bytes ≡ [] = ap (λ b. b.bytes) direct.block ∙ none in record {
                in_order = record {
                  sent = portion bs answer;
                  received = ap (λ l. l.writes.received) direct.told;
                  equal =
                      ap (λ l. portion bs answer ++ l) empty ∙ append-nil (portion bs answer)
                      ∙ ap (λ l. l ++ portion bs answer) (sym none);
                  consumed = omega (arith, ap (λ b. b.consumed) direct.block);
                };
                grows = subst (λ l. WriteLogGrows s.log.writes l.writes) (sym direct.told)
                    (WriteLogGrows-write s.log bs answer);
                flushed = ap (λ l. l.writes.flushed) direct.told;
                flushes = ap (λ l. l.writes.flushes) direct.told;
                capacity = omega (arith, capacity);
                same_capacity = λ _. capacity;
                kind = ap (λ b. b.kind) direct.block;
                claims = ap rules.claims direct.policy;
              }
              )
          | inr inside ↦ (
              let copied = f.inside inside in
              let settled = settled_bytes bs s answer t copied in
              StepKeeps-added s t (portion bs answer) copied.told
              (copied.added.bytes ∙ ap (λ l. l ++ portion bs answer) settled.0) (copied.added.consumed ∙ settled.2)
              (omega (arith, capacity)) (λ _. capacity) (copied.added.kind ∙ settled.3) (ap rules.claims copied.policy)
              )
        ]

    pub StepKeeps-prepared : (incoming : ℕ) (s m : Buffered S P) (flushed : Result (Unit {0}) Error)
        → Prepared rules incoming s flushed m → StepKeeps s [] m
    StepKeeps-prepared incoming s m flushed p = StepKeeps-joins s p.seen m [] []
        (StepKeeps-asked incoming (Ok p.amount) s p.seen p.asked p.told)
        (StepKeeps-flush p.seen m (p.amount.0) flushed p.flush)

    pub StepKeeps-finished : (m t : Buffered S P) → Finished rules m t → StepKeeps m [] t
    StepKeeps-finished m t f =
        let asked = with_policy m t.policy in
        StepKeeps-joins m asked t [] []
        (StepKeeps-added m asked [] refl (sym (append-nil m.block.bytes)) refl (le_refl _) (λ _. refl) refl f.asked.claims)
        (StepKeeps-flush asked t (f.amount.0) f.flushed f.flush)
