-- What a copy between two buffered streams says of the streams inside.
use Rattle.std.proofs.Common.{◌≡◌, ◌∙◌, ℕ, ◌+◌, ◌-◌, ◌^◌, ◌<◌, ◌≤◌, ◌⊎◌, inl, inr, List, Option, Result, Ok, Err, MatchResult, [], ◌∷◌, ◌++◌, length, length-drop, refl, sym, ap, subst, append_assoc, append-nil, length-append, arith}
use Rattle.std.proofs.lemmas.List.{append_cancel_left, nil_from_length}
use Rattle.std.specs.IoError.{error_kind}
use Rattle.std.specs.declared.io.Error.{Error}
use Rattle.std.specs.declared.io.ErrorKind.TheVariants.{Interrupted, WriteZero}
use Rattle.buffer_redux.specs.Block.{IsBlock}
use Rattle.buffer_redux.specs.Faults.{interrupt_limit, TookNothing, TookNothing-after, MetInterrupts, MetInterrupts-joins, OnlyInterrupts, SendErrorCaused, SendErrorCaused-after}
use Rattle.buffer_redux.specs.StreamLog.{StreamLog, FillLog, after_flush, zero_of_some, zero_of_none}
use Rattle.buffer_redux.specs.Transfer.{Sends}
use Rattle.buffer_redux.specs.Policy.{std_read_rules, std_write_rules}
use Rattle.buffer_redux.specs.Buffered.{Buffered}
use Rattle.buffer_redux.specs.BufReader.{ReadsInOrder}
use Rattle.buffer_redux.specs.BufWriter.{WritesInOrder, IsFlushed, Flushes}
use Rattle.buffer_redux.specs.EmptyReads.{ReadsWhenEmpty-std, ReadsWhole-std}
use Rattle.buffer_redux.specs.EmptyWrites.{TakesNothing-std}
use Rattle.buffer_redux.specs.WriterLaws.{WritesInOrder-then}
use Rattle.buffer_redux.specs.ReaderTells.{reader_log, ReaderWent, FaultsAlike-only, FaultsAlike-fault}
use Rattle.buffer_redux.specs.WriterTells.{writer_log, TellsFailures, WriterWent, WriterCalled}
use Rattle.buffer_redux.specs.Copy.{MovedBy, MovedTooMuch, LastWrite, CopyEnded, StreamFailed, TakesNothing, faults_met}
use Rattle.programs.specs.Streams.{EndsOnce, RefusedBeforeCalls}
use Rattle.copier.specs.Copy.{Copied, EitherFailed, IsBeginning, OnlyFlushLeft, InterruptedOften, OverTotal}
use Rattle.copier.specs.Copy as RunFaults

-- nothing was given, and nothing received
pub IsBeginning-none : (read written : StreamLog) → IsBeginning read read written written
IsBeginning-none read written = record {
  received = [];
  rest = [];
  given = sym (append-nil read.reads.given);
  taken = sym (append-nil written.writes.received);
}

-- `StdPolicy` keeps no failure back
tells_all : {Q : Type 0} (q : Q) → TellsFailures std_write_rules q
tells_all q = (refl, λ p b a p' allowed. allowed.1)

-- where all of a buffer is offered
pub offers_all : {R P : Type 0} {remaining : R → Option (List ℕ)} {s t : Buffered R P}
    → ReaderWent remaining std_read_rules s t → IsBlock s.block
    → (t.log.reads ≡ s.log.reads) ⊎ (t.log.reads.offer ≡ s.block.capacity)
offers_all went whole =
    let offers = went.offers ReadsWhole-std whole in
    elim offers.offer [ inl none ↦ inl none | inr all ↦ inr (all.0 ∙ offers.capacity) ]

-- what was handed on between buffers that were empty at first
module _ {R P W Q : Type 0} (s t : Buffered R P) (u v : Buffered W Q) (none : s.block.bytes ≡ [])
    (none' : u.block.bytes ≡ []) (bytes : List ℕ) (handed : ReadsInOrder s bytes t) where
  given : t.log.reads.given ≡ s.log.reads.given ++ (bytes ++ t.block.bytes)
  given =
      handed.given ∙ ap (λ l. s.log.reads.given ++ l) (sym (handed.equal ∙ ap (λ l. l ++ handed.got) none))

  module _ (passed : WritesInOrder u bytes v) where
    sent : passed.sent ++ v.block.bytes ≡ bytes
    sent = passed.equal ∙ ap (λ l. l ++ bytes) none'

    -- what was received is followed by what is buffered on both sides
    beginning : IsBeginning s.log t.log u.log v.log
    beginning = record {
      received = passed.sent;
      rest = v.block.bytes ++ t.block.bytes;
      given =
          given ∙ ap (λ l. s.log.reads.given ++ l)
          (ap (λ l. l ++ t.block.bytes) (sym sent) ∙ append_assoc passed.sent v.block.bytes t.block.bytes);
      taken = passed.received;
    }

-- what a writer told of interrupted calls
own_met : {W Q : Type 0} (u v : Buffered W Q)
    → MetInterrupts (writer_log u).writes (writer_log v).writes → MetInterrupts u.own_calls.writes v.own_calls.writes
own_met u v met = record {
  interrupts = met.interrupts;
  only = record {
    interrupted = met.only.interrupted;
    faults = met.only.faults;
    zero_writes = met.only.zero_writes;
  };
}

-- what the writer inside met where the last write of a copy had this answer
module _ {W Q : Type 0} {tells : W → StreamLog} (trace : W → W → Type 0) (a b : FillLog) (u v : Buffered W Q) where
  err_caused : (e : Error)
      → LastWrite writer_log (WriterWent trace std_write_rules) (WriterCalled tells trace std_write_rules) (Err e) a b u v
      → SendErrorCaused u.log.writes v.log.writes e
  err_caused e last =
      let m = last.before in
      SendErrorCaused-after u.log.writes m.log.writes v.log.writes e
      (last.went.met (tells_all u.policy) (own_met u m last.met))
      (last.called.fault (tells_all m.policy).0 e (ap (λ l. l.writes.faults) last.told))

  module _ (last : LastWrite writer_log (WriterWent trace std_write_rules)
      (WriterCalled tells trace std_write_rules) (Ok 0) a b u v) where
    stuck_caused : 0 < length b.shown → 0 < u.block.capacity
        → (interrupts : List Error) × TookNothing interrupts u.log.writes v.log.writes WriteZero
    stuck_caused some room =
        let m = last.before in
        let met = last.went.met (tells_all u.policy) (own_met u m last.met) in
        let nothing = last.called.nothing (tells_all m.policy).0
        (ap (λ l. l.writes.zero_writes) last.told
        ∙ zero_of_none 0 b.shown m.own_calls.writes.zero_writes refl some) in (
          met.interrupts ++ nothing.0,
          TookNothing-after met.interrupts nothing.0 u.log.writes m.log.writes v.log.writes WriteZero met.only nothing.1,
        )

    out_met : length b.shown ≡ 0 → WriterWent trace std_write_rules u v
        → MetInterrupts u.log.writes v.log.writes
    out_met none went =
        let m = last.before in
        went.met (tells_all u.policy) (record {
          interrupts = last.met.interrupts;
          only = record {
            interrupted = last.met.only.interrupted;
            faults = ap (λ l. l.writes.faults) last.told ∙ last.met.only.faults;
            zero_writes =
                ap (λ l. l.writes.zero_writes) last.told
                ∙ zero_of_some 0 b.shown m.own_calls.writes.zero_writes (inr none) ∙ last.met.only.zero_writes;
          };
        })

-- a copy between buffers that were empty at first
module _ {R P W Q : Type 0} {remaining : R → Option (List ℕ)} {trace : W → W → Type 0} {s t : Buffered R P}
    {u v : Buffered W Q} (went : ReaderWent remaining std_read_rules s t)
    (went' : WriterWent trace std_write_rules u v) (none : s.block.bytes ≡ [])
    (none' : u.block.bytes ≡ []) where
  abbrev Moved : ℕ → Type 0
  Moved n = MovedBy n (reader_log s).fills (reader_log t).fills (writer_log u).writes (writer_log v).writes

  abbrev Failed : (W → StreamLog) → Error → Type 0
  Failed tells e = StreamFailed writer_log (WriterWent trace std_write_rules) (WriterCalled tells trace std_write_rules) e
      (reader_log s).fills (reader_log t).fills u v
      ⊎ MovedTooMuch e (reader_log s).fills (reader_log t).fills (writer_log u).writes (writer_log v).writes

  module _ (n : ℕ) (moved : Moved n) where
    handed : ReadsInOrder s moved.bytes t
    handed = subst (λ l. ReadsInOrder s l t)
        (append_cancel_left s.own_calls.fills.consumed went.handed moved.bytes
        (sym went.consumed ∙ moved.consumed)) went.in_order

    passed : WritesInOrder u moved.bytes v
    passed =
        let more = went'.grows.received.more in
        record {
          sent = more;
          received = went'.grows.received.equal;
          equal =
              append_cancel_left u.log.writes.received (more ++ v.block.bytes) (u.block.bytes ++ moved.bytes)
              (sym (append_assoc u.log.writes.received more v.block.bytes)
              ∙ sym (ap (λ l. l ++ v.block.bytes) went'.grows.received.equal)
              ∙ moved.received ∙ append_assoc u.log.writes.received u.block.bytes moved.bytes);
          consumed = omega (
            arith,
            went'.consumed,
            ap length went'.grows.received.equal,
            length-append u.log.writes.received more,
          );
        }

    pub copy_begins : IsBeginning s.log t.log u.log v.log
    copy_begins = beginning s t u v none none' moved.bytes handed passed

    pub flush_begins : (v' : Buffered W Q) → WritesInOrder v [] v' → IsBeginning s.log t.log u.log v'.log
    flush_begins v' flush =
        beginning s t u v' none none' moved.bytes handed (WritesInOrder-then u v v' moved.bytes passed flush)

    -- the writer inside was not flushed
    pub copy_unflushed : v.log.writes.flushes ≡ u.log.writes.flushes
    copy_unflushed = omega (arith, went'.flushes, went'.grows.flushes, moved.flushes)

    over : 2 ^ 64 ≤ n → 2 ^ 64 ≤ length t.log.reads.given - length s.log.reads.given
    over large = omega (
      arith,
      large,
      moved.count,
      ap length (given s t u v none none' moved.bytes handed),
      length-append s.log.reads.given (moved.bytes ++ t.block.bytes),
      length-append moved.bytes t.block.bytes,
    )

  only : OnlyInterrupts s.own_calls.fills.faults t.own_calls.fills.faults
      → OnlyInterrupts s.log.reads.faults t.log.reads.faults
  only = FaultsAlike-only s.own_calls.fills.faults t.own_calls.fills.faults
      s.log.reads.faults t.log.reads.faults (went.faults refl)

  -- the reader inside gave nothing only where that one showed nothing
  pub copy_once : (tells : W → StreamLog) → 0 < u.block.capacity
      → (TakesNothing writer_log (WriterWent trace std_write_rules) (WriterCalled tells trace std_write_rules) u
      → (reader_log t).fills.zero_fills ≤ (reader_log s).fills.zero_fills + 1) → EndsOnce s.log.reads t.log.reads
  copy_once tells room shows = omega (arith, went.once ReadsWhenEmpty-std, shows (TakesNothing-std tells trace u room))

  pub copy_caused : {tells : W → StreamLog} (e : Error) → Failed tells e
      → EitherFailed e s.log t.log u.log v.log
      ⊎ (RefusedBeforeCalls e s.log t.log u.log v.log ⊎ OverTotal e s.log t.log u.log v.log)
  copy_caused e (inl (inl source)) = inl (inl (record {
    fault = FaultsAlike-fault s.own_calls.fills.faults t.own_calls.fills.faults s.log.reads.faults t.log.reads.faults
        e (went.faults refl) source.fault;
    writer = went'.met (tells_all u.policy) (own_met u v source.writer);
  }))
  copy_caused e (inl (inr target)) = inl (inr (record {
    reader = only target.reader;
    writer = err_caused trace (reader_log s).fills (reader_log t).fills u v e target;
  }))
  copy_caused e (inr much) = inr (inr (record {
    other = much.other;
    large = over much.count much.copies.moved much.large;
    met = record {
      reader = only much.copies.reader;
      writer = went'.met (tells_all u.policy) (own_met u v much.copies.writer);
    };
  }))

  -- what the copy met of faults, the streams inside met
  rise_inside : faults_met (reader_log s).fills (writer_log u).writes + interrupt_limit + 1
      ≤ faults_met (reader_log t).fills (writer_log v).writes
      → v.log.writes.zero_writes ≡ u.log.writes.zero_writes → RunFaults.FaultsRise (interrupt_limit + 1) s.log t.log u.log v.log
  rise_inside rise same =
      let alike = went.faults refl in
      omega (
        arith,
        rise,
        same,
        went'.fails refl,
        went'.own_grows.zero_writes,
        ap length alike.first,
        length-append s.own_calls.fills.faults alike.more,
        ap length alike.second,
        length-append s.log.reads.faults alike.more,
      )

  zero_same : (e : Error) → error_kind e ≡ Interrupted → SendErrorCaused u.log.writes v.log.writes e
      → v.log.writes.zero_writes ≡ u.log.writes.zero_writes
  zero_same e is caused = elim caused.cause [ inl nothing ↦ cc | inr fault ↦ fault.zero_writes ]

  pub copy_often : {tells : W → StreamLog} (e : Error) → Failed tells e
      → (error_kind e ≡ Interrupted
      → faults_met (reader_log s).fills (writer_log u).writes + interrupt_limit + 1
      ≤ faults_met (reader_log t).fills (writer_log v).writes)
      → InterruptedOften e s.log t.log u.log v.log
  copy_often e (inl (inl source)) often is =
      inl (rise_inside (often is) (went'.met (tells_all u.policy) (own_met u v source.writer)).only.zero_writes)
  copy_often e (inl (inr target)) often is =
      inl (rise_inside (often is) (zero_same e is (err_caused trace (reader_log s).fills (reader_log t).fills u v e target)))
  copy_often e (inr much) often is = let kind = much.other in cc

  module _ {tells : W → StreamLog}
      (ended : CopyEnded writer_log (WriterWent trace std_write_rules) (WriterCalled tells trace std_write_rules)
      (reader_log s).fills (reader_log t).fills u v) where
    -- bytes are left in the reader
    pub left_caused : (e : Error) → error_kind e ≡ WriteZero → 0 < length t.block.bytes → 0 < u.block.capacity
        → EitherFailed e s.log t.log u.log v.log
    left_caused e is some room =
        let stuck = stuck_caused trace (reader_log s).fills (reader_log t).fills u v ended.last some room in
        inr (record {
          reader = only ended.last.reader;
          writer = record {
            interrupts = stuck.0;
            cause = inl (subst (TookNothing stuck.0 u.log.writes v.log.writes) (sym is) stuck.1);
          };
        })

    module _ (left : length t.block.bytes ≡ 0) (v' : Buffered W Q) where
      pub flush_caused : (e : Error)
          → SendErrorCaused v.log.writes v'.log.writes e → EitherFailed e s.log t.log u.log v'.log
      flush_caused e caused = inr (record {
        reader = only ended.last.reader;
        writer = SendErrorCaused-after u.log.writes v.log.writes v'.log.writes e
            (out_met trace (reader_log s).fills (reader_log t).fills u v ended.last left went') caused;
      })

      module _ (total : ℕ) (moved : Moved total) (room : 0 < s.block.capacity) (in_order : WritesInOrder v [] v') where
        -- all was sent, and then the flush was left
        abbrev only_flush_left : v'.block.bytes ≡ [] → OnlyFlushLeft s.log t.log u.log v'.log
        only_flush_left empty =
            let order = WritesInOrder-then u v v' moved.bytes (passed total moved) in_order in
            record {
              bytes = moved.bytes;
              given = given s t u v' none none' moved.bytes (handed total moved)
                  ∙ ap (λ l. s.log.reads.given ++ (moved.bytes ++ l)) (nil_from_length t.block.bytes left)
                  ∙ ap (λ l. s.log.reads.given ++ l) (append-nil moved.bytes);
              received = order.received ∙ ap (λ l. u.log.writes.received ++ l) (sym (append-nil order.sent)
                  ∙ ap (λ l. order.sent ++ l) (sym empty)
                  ∙ sent s t u v' none none' moved.bytes (handed total moved) order);
              ended = omega (arith, went.ends (inl refl) room, ended.ends left);
            }

        -- as many interruptions as the limit, and one more
        rise : (e : Error) (interrupts : List Error) → v'.log.writes.faults ≡ v.log.writes.faults ++ interrupts ++ e ∷ []
            → interrupt_limit ≤ length interrupts → RunFaults.FaultsRise (interrupt_limit + 1) s.log t.log u.log v'.log
        rise e interrupts faults many =
            let before = went'.grows.faults in
            let alike = went.faults refl in
            omega (
              arith,
              many,
              ap length faults,
              length-append (v.log.writes.faults ++ interrupts) (e ∷ []),
              length-append v.log.writes.faults interrupts,
              ap length before.equal,
              length-append u.log.writes.faults before.more,
              ap length alike.second,
              length-append s.log.reads.faults alike.more,
            )

        -- the flush was made then, or sending failed
        counted : (answer sending : Result (Unit {0}) Error) (sent : StreamLog)
            → Sends (length v.block.bytes) v.block v.log sending v'.block sent
            → MatchResult sending (λ _. v'.log ≡ after_flush sent answer) (λ d. (answer ≡ Err d) × (v'.log ≡ sent))
            → (OnlyFlushLeft s.log t.log u.log v'.log × (v'.log.writes.flushes ≡ u.log.writes.flushes + 1))
            ⊎ (((d : Error) × (answer ≡ Err d) × (error_kind d ≡ Interrupted
            → RunFaults.FaultsRise (interrupt_limit + 1) s.log t.log u.log v'.log))
            × (v'.log.writes.flushes ≡ u.log.writes.flushes))
        counted answer (Ok _) sent sends told = inl (
          only_flush_left (nil_from_length v'.block.bytes
              (omega (arith, sends.whole, ap length sends.sent.dropped.bytes, length-drop sends.count v.block.bytes))),
          omega (arith, ap (λ l. l.writes.flushes) told, sends.sent.flushes, copy_unflushed total moved),
        )
        counted answer (Err d) sent sends told = inr (
          (
            d,
            told.0,
            λ is. elim sends.failed.cause [
              | inl nothing ↦ let kind = nothing.is_write_zero in cc
              | inr fault ↦
                  rise d sends.interrupts (ap (λ l. l.writes.faults) told.1 ∙ fault.faults) (sends.failed.often is)
            ],
          ),
          omega (arith, ap (λ l. l.writes.flushes) told.1, sends.sent.flushes, copy_unflushed total moved),
        )

        pub flushed_at_most : (e : Error) → Flushes v (Err e) v' → (v'.log.writes.flushes ≡ u.log.writes.flushes)
            ⊎ (OnlyFlushLeft s.log t.log u.log v'.log × (v'.log.writes.flushes ≡ u.log.writes.flushes + 1))
        flushed_at_most e f = elim (counted (Err e) f.sending f.sent_log f.sends f.ended) [
          | inl made ↦ inr made
          | inr failed ↦ inl failed.1
        ]

        pub flush_often : (e : Error) → Flushes v (Err e) v' → InterruptedOften e s.log t.log u.log v'.log
        flush_often e f is = elim (counted (Err e) f.sending f.sent_log f.sends f.ended) [
          | inl made ↦ inr made.0
          | inr ((d, same, often), flushes) ↦ inl (often (let alike : e ≡ d = cc in sym (ap error_kind alike) ∙ is))
        ]

        pub flush_copied : Flushes v (Ok tt) v' → IsFlushed v v' → Copied total s.log t.log u.log v'.log
        flush_copied flushes flushed =
            let over = only_flush_left flushed.empty in
            record {
              bytes = moved.bytes;
              count = moved.count;
              given = over.given;
              received = over.received;
              flushed = flushed.flushed;
              flushes = elim (counted (Ok tt) flushes.sending flushes.sent_log flushes.sends flushes.ended) [
                | inl made ↦ made.1
                | inr failed ↦ absurd (let odd = failed.0.1 in cc)
              ];
              ended = over.ended;
              met = record {
                reader = only ended.last.reader;
                writer = MetInterrupts-joins u.log.writes v.log.writes v'.log.writes
                    (out_met trace (reader_log s).fills (reader_log t).fills u v ended.last left went') flushed.met;
              };
            }
