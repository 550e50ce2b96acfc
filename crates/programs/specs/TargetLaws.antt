-- What a buffered writer that takes bytes in, or is flushed, is as the writer of a filter.
use Rattle.std.proofs.Common.{◌≡◌, inl, inr, ℕ, ◌+◌, ◌<◌, ◌≤◌, List, [], ◌∷◌, length, Bool, true, Result, Ok, Err, MatchResult, IfErr, IsOk, OnOk, refl, sym, ap, subst, arith, length-append, length-drop}
use Rattle.std.proofs.lemmas.Bool.{cases_lt, true≢false}
use Rattle.std.specs.declared.io.Error.{Error}
use Rattle.buffer_redux.specs.Block.{Block}
use Rattle.buffer_redux.specs.BufWriter.{WasFlushed, WasSent, WritesInOrder}
use Rattle.buffer_redux.specs.Buffered.{Buffered}
use Rattle.buffer_redux.specs.Faults.{FewFaults, MetInterrupts, MetInterrupts-none, SendErrorCaused, failure_count}
use Rattle.buffer_redux.specs.StreamLog.{StreamLog, after_flush, with_fault}
use Rattle.buffer_redux.specs.Transfer.{Sends}
use Rattle.buffer_redux.specs.TransferLaws.{SendFailed-often, Sends-few, Sends-length}
use Rattle.forward.specs.Prompt.{WritesOn}
use Rattle.forward.specs.PromptLaws.{WritesOn-grows, WritesOn-none}
use Rattle.forward.specs.Target.{FlushWrites, FlushesOnce, InterruptedLast, PassFailed, PassWrites}
use Rattle.programs.specs.Streams.{AllSent}
use Rattle.programs.specs.TakenIn.{TakesAll, taken_more, target_of}

-- what was received goes on, and nothing was flushed
pub WritesOn-unflushed : {S P : Type 0} (s t : Buffered S P) (accepted : List ℕ) → WritesInOrder s accepted t
    → t.log.writes.flushed ≡ s.log.writes.flushed → WritesOn s.log.writes t.log.writes
WritesOn-unflushed s t accepted taken same =
    record { received = record { more = taken.sent; equal = taken.received }; flushed = inl same }

module _ {W P : Type 0} (u v : Buffered W P) where
  -- how sending went that was needed, where nothing was flushed
  pub record SendRow (Refused : Error → Type 0) (answer : Result (Unit {0}) Error) : Type 0 where
    pub not_flushed : v.log.writes.flushed ≡ u.log.writes.flushed
    pub flushes : v.log.writes.flushes ≡ u.log.writes.flushes
    pub few : FewFaults (failure_count answer) u.log.writes v.log.writes
    pub ended : MatchResult answer (λ _. MetInterrupts u.log.writes v.log.writes)
        (λ e. PassFailed Refused (target_of u) e (target_of v))

  row_sent : (Refused : Error → Type 0) (sending : Result (Unit {0}) Error) (left : Block)
      → Sends (length u.block.bytes) u.block u.log sending left v.log → (answer : Result (Unit {0}) Error)
      → MatchResult sending (λ _. IfErr answer Refused) (λ e. (answer ≡ Err e) × (v.block ≡ left)) → SendRow Refused answer
  row_sent Refused (Ok _) left s (Ok _) ended = record {
    not_flushed = s.sent.flushed;
    flushes = s.sent.flushes;
    few = Sends-few (length u.block.bytes) u.block left u.log v.log (Ok tt) s;
    ended = record { interrupts = s.interrupts; only = s.ok };
  }
  row_sent Refused (Ok _) left s (Err e) refused = record {
    not_flushed = s.sent.flushed;
    flushes = s.sent.flushes;
    few = omega (arith, Sends-few (length u.block.bytes) u.block left u.log v.log (Ok tt) s);
    ended = inr (record { interrupts = s.interrupts; only = s.ok }, refused);
  }
  row_sent Refused (Err e) left s answer ended = subst (SendRow Refused) (sym ended.0) (record {
    not_flushed = s.sent.flushed;
    flushes = s.sent.flushes;
    few = Sends-few (length u.block.bytes) u.block left u.log v.log (Err e) s;
    ended = inl (
      record { interrupts = s.interrupts; cause = s.failed.cause },
      SendFailed-often s.interrupts u.log.writes v.log.writes e s.failed,
    );
  })

  pub unsent_row : {tells : W → StreamLog} {trace : W → W → Type 0} {e : Error} → WasSent tells trace u (Err e) v
      → SendRow (λ _. ⊥) (Err e)
  unsent_row {e = e} sent = row_sent (λ _. ⊥) (Err e) v.block sent.sends (Err e) (refl, refl)

  -- the writer inside wasn't called
  row_none : (Refused : Error → Type 0) (answer : Result (Unit {0}) Error) → IsOk answer → v.log ≡ u.log → SendRow Refused answer
  row_none Refused (Ok _) ok same = record {
    not_flushed = ap (λ l. l.writes.flushed) same;
    flushes = ap (λ l. l.writes.flushes) same;
    few = omega (arith, ap (λ l. length l.writes.faults) same, ap (λ l. length l.writes.received) same);
    ended = subst (λ l. MetInterrupts u.log.writes l.writes) (sym same) (MetInterrupts-none u.log.writes);
  }
  row_none Refused (Err e) ok same = absurd (true≢false (sym ok))

  pub TakesAll-row : {need : ℕ} {Refused : Error → Type 0} {bytes : List ℕ} {answer : Result (Unit {0}) Error}
      → TakesAll need Refused u bytes answer v → SendRow Refused answer
  TakesAll-row {need} {Refused} {bytes} {answer} takes = elim (cases_lt u.block.capacity (length u.block.bytes + need)) [
    | inl few ↦ (let once = takes.sends few in row_sent Refused once.sending once.left once.sends answer once.ended)
    | inr fit ↦ (let there = takes.fits fit in row_none Refused answer there.0 there.1)
  ]

  -- so a filter passes on what was taken in, of which so many more than needed have to fit
  module _ {need : ℕ} (spare rounds : ℕ) {Refused : Error → Type 0} {bytes : List ℕ} where
    pub TakesAll-passed : {Other : Error → Type 0} → TakesAll need Refused u bytes (Ok tt) v → need ≤ length bytes + spare
        → 0 < length bytes → (length bytes ≤ u.block.capacity → v.block.capacity ≡ u.block.capacity)
        → v.block.capacity ≤ u.block.capacity + length bytes + rounds
        → PassWrites spare rounds Other (target_of u) (Ok true) (target_of v)
    TakesAll-passed takes near some kept grown =
        let row = TakesAll-row takes in
        let more = taken_more u v bytes takes.taken in
        record {
          writes = WritesOn-unflushed u v bytes takes.taken row.not_flushed;
          flushes = row.flushes;
          few = row.few;
          ended = row.ended;
          still = λ room. record {
            told = (takes.fits (omega (arith, room, more, near, some))).1;
            capacity = kept (omega (arith, room, more, some));
          };
          grown = record { fits = λ small. kept (omega (arith, small, more)); most = omega (arith, grown, more) };
        }

    pub TakesAll-not_passed : {Other : Error → Type 0} {e : Error} → TakesAll need Refused u bytes (Err e) v
        → v.block.capacity ≡ u.block.capacity → (Refused e → Other e)
        → PassWrites spare rounds Other (target_of u) (Err e) (target_of v)
    TakesAll-not_passed takes same so =
        let row = TakesAll-row takes in
        record {
          writes = WritesOn-unflushed u v [] takes.taken row.not_flushed;
          flushes = row.flushes;
          few = row.few;
          ended = elim row.ended [ inl failed ↦ inl failed | inr refused ↦ inr (refused.0, so refused.1) ];
          still = tt;
          grown = same;
        }

  -- or nothing was done for it
  pub nothing_passed : (spare rounds : ℕ) (Refused : Error → Type 0) (some : Bool) → v ≡ u
      → PassWrites spare rounds Refused (target_of u) (Ok some) (target_of v)
  nothing_passed spare rounds Refused some same =
      subst (λ v. PassWrites spare rounds Refused (target_of u) (Ok some) (target_of v)) (sym same) (record {
        writes = WritesOn-none u.log.writes;
        flushes = refl;
        few = omega arith;
        ended = MetInterrupts-none u.log.writes;
        still = λ room. record { told = refl; capacity = refl };
        grown = record { fits = λ small. refl; most = omega arith };
      })

  -- and so one is that was flushed
  record FlushRow (answer : Result (Unit {0}) Error) : Type 0 where
    flushes : FlushesOnce (target_of u) (target_of v)
    few : FewFaults (failure_count answer) u.log.writes v.log.writes
    often : IfErr answer (λ e. InterruptedLast (target_of u) e (target_of v))

  -- the flush followed where all was sent, and this is its answer
  flush_behind : (log : StreamLog) → Sends (length u.block.bytes) u.block u.log (Ok tt) v.block log
      → (answer : Result (Unit {0}) Error) → v.log ≡ after_flush log answer → FlushRow answer
  flush_behind log s answer told =
      let faults = ap (λ l. length l.writes.faults) told in
      let received = ap (λ l. length l.writes.received) told in
      record {
        flushes = inr (
          omega (arith, s.sent.flushes, ap (λ l. l.writes.flushes) told),
          omega (arith, s.whole, received, Sends-length (length u.block.bytes) u.block v.block u.log log (Ok tt) s),
        );
        few = few answer faults received;
        often = often answer;
      }
    where
      sent : FewFaults 0 u.log.writes log.writes
      sent = Sends-few (length u.block.bytes) u.block v.block u.log log (Ok tt) s

      few : (answer : Result (Unit {0}) Error) → length v.log.writes.faults ≡ length (with_fault log.writes.faults answer)
          → length v.log.writes.received ≡ length log.writes.received
          → FewFaults (failure_count answer) u.log.writes v.log.writes
      few (Ok _) faults received = omega (arith, sent, faults, received)
      few (Err e) faults received =
          omega (arith, sent, faults, received, length-append log.writes.faults (e ∷ []))

      often : (answer : Result (Unit {0}) Error) → IfErr answer (λ e. InterruptedLast (target_of u) e (target_of v))
      often (Ok _) = tt
      often (Err e) = λ is.
          inr (omega (arith, s.whole, ap length s.sent.dropped.bytes, length-drop s.count u.block.bytes))

  flush_row : (answer sending : Result (Unit {0}) Error) (log : StreamLog)
      → Sends (length u.block.bytes) u.block u.log sending v.block log
      → MatchResult sending (λ _. v.log ≡ after_flush log answer) (λ e. (answer ≡ Err e) × (v.log ≡ log)) → FlushRow answer
  flush_row answer (Ok _) log s told = flush_behind log s answer told
  flush_row answer (Err e) log s ended =
      let sent = subst (Sends (length u.block.bytes) u.block u.log (Err e) v.block) (sym ended.1) s in
      subst FlushRow (sym ended.0) (record {
        flushes = inl sent.sent.flushes;
        few = Sends-few (length u.block.bytes) u.block v.block u.log v.log (Err e) sent;
        often = λ is. inl (SendFailed-often sent.interrupts u.log.writes v.log.writes e sent.failed is);
      })

  module _ {tells : W → StreamLog} {trace : W → W → Type 0} where
    pub WasFlushed-sent : (answer : Result (Unit {0}) Error) → WasFlushed tells trace u answer v → OnOk answer (AllSent v)
    WasFlushed-sent (Ok _) w = record { empty = w.ok.empty; flushed = w.ok.flushed }
    WasFlushed-sent (Err e) w = tt

    pub WasFlushed-writes : {answer : Result (Unit {0}) Error} → WasFlushed tells trace u answer v
        → FlushWrites (target_of u) answer (target_of v)
    WasFlushed-writes {answer} w =
        let row = flush_row answer w.steps.sending w.steps.sent_log w.steps.sends w.steps.ended in
        record {
          writes = WritesOn-grows u.log.writes v.log.writes w.grows;
          flushes = row.flushes;
          few = row.few;
          ended = ended answer w row.often;
          capacity = w.capacity;
        }
      where
        ended : (answer : Result (Unit {0}) Error) → WasFlushed tells trace u answer v
            → IfErr answer (λ e. InterruptedLast (target_of u) e (target_of v))
            → MatchResult answer (λ _. MetInterrupts u.log.writes v.log.writes)
            (λ e. SendErrorCaused u.log.writes v.log.writes e × InterruptedLast (target_of u) e (target_of v))
        ended (Ok _) w often = w.ok.met
        ended (Err e) w often = (w.caused, often)
