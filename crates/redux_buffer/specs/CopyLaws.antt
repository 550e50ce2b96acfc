-- Laws of copying turn by turn, for the proofs of those who make the turns.
use Rattle.std.proofs.Common.{◌≡◌, ℕ, ◌+◌, Result, Ok, Err, inl, inr, subst, le_trans, arith, ◌∙◌, ◌++◌, ap, append_assoc, length-append}
use Rattle.std.specs.declared.io.Error.{Error}
use Rattle.redux_buffer.specs.StreamLog.{StreamLog, FillLog, WriteLog}
use Rattle.redux_buffer.specs.Faults.{OnlyInterrupts-joins, FaultAfterInterrupts-after, MetInterrupts-joins}
use Rattle.redux_buffer.specs.Copy.{MovedBy, CopiesOn, LastWrite, CopyEnded, StreamFailed, TakesNothing, TurnAnswers, CopyBuf}

-- two turns one after the other move what both do
pub MovedBy-joins : (n k : ℕ) (a b c : FillLog) (x y z : WriteLog)
    → MovedBy n a b x y → MovedBy k b c y z → MovedBy (n + k) a c x z
MovedBy-joins n k a b c x y z p q = record {
  bytes = p.bytes ++ q.bytes;
  count = length-append p.bytes q.bytes ∙ (λ i. p.count i + q.count i);
  consumed = q.consumed ∙ ap (λ l. l ++ q.bytes) p.consumed ∙ append_assoc a.consumed p.bytes q.bytes;
  consumes = omega (arith, p.consumes, q.consumes);
  received = q.received ∙ ap (λ l. l ++ q.bytes) p.received ∙ append_assoc x.received p.bytes q.bytes;
  not_flushed = q.not_flushed ∙ p.not_flushed;
  flushes = q.flushes ∙ p.flushes;
}

-- a turn that moved nothing
pub MovedBy-still : {n : ℕ} {a b c : FillLog} {x y z : WriteLog} → MovedBy n a b x y → MovedBy 0 b c y z → MovedBy n a c x z
MovedBy-still {n} {a} {b} {c} {x} {y} {z} p q =
    subst (λ k. MovedBy k a c x z) (omega arith) (MovedBy-joins n 0 a b c x y z p q)

-- turns that follow one another
module _ {n : ℕ} {a b : FillLog} {x y : WriteLog} (before : CopiesOn n a b x y) where
  pub CopiesOn-joins : {k : ℕ} {c : FillLog} {z : WriteLog} → CopiesOn k b c y z → CopiesOn (n + k) a c x z
  CopiesOn-joins {k} {c} {z} last = record {
    moved = MovedBy-joins n k a b c x y z before.moved last.moved;
    ends = le_trans before.ends last.ends;
    ends_shown = omega (arith, before.ends_shown, last.ends_shown);
    fills = omega (arith, before.fills, last.fills);
    writes = omega (arith, before.writes, last.writes);
    reader = OnlyInterrupts-joins a.faults b.faults c.faults before.reader last.reader;
    writer = MetInterrupts-joins x y z before.writer last.writer;
  }

-- what comes after turns in which the streams were at most interrupted
module _ {W : Type 0} (tells : W → StreamLog) (trace call : W → W → Type 0)
    (joins : (u v w : W) → trace u v → trace v w → trace u w) {n : ℕ} {a b : FillLog} {x y : W}
    (before : CopiesOn n a b (tells x).writes (tells y).writes) (went : trace x y) where
  LastWrite-after : {c : FillLog} {z : W} (answer : Result ℕ Error)
      → LastWrite tells trace call answer b c y z → LastWrite tells trace call answer a c x z
  LastWrite-after {c} answer last = record {
    reader = OnlyInterrupts-joins a.faults b.faults c.faults before.reader last.reader;
    before = last.before;
    went = joins x y last.before went last.went;
    met = MetInterrupts-joins (tells x).writes (tells y).writes
        (tells last.before).writes before.writer last.met;
    called = last.called;
    told = last.told;
  }

  pub CopyEnded-after : {c : FillLog} {z : W}
      → CopyEnded tells trace call b c y z → CopyEnded tells trace call a c x z
  CopyEnded-after ended = record {
    last = LastWrite-after (Ok 0) ended.last;
    ends = λ none. omega (arith, before.ends, ended.ends none);
  }

  pub StreamFailed-after : {e : Error} {c : FillLog} {z : W}
      → StreamFailed tells trace call e b c y z → StreamFailed tells trace call e a c x z
  StreamFailed-after {e} {c} {z} (inl source) = inl (record {
    fault = FaultAfterInterrupts-after a.faults b.faults c.faults e before.reader source.fault;
    writer =
        MetInterrupts-joins (tells x).writes (tells y).writes (tells z).writes before.writer source.writer;
  })
  StreamFailed-after {e} (inr target) = inr (LastWrite-after (Err e) target)

-- a turn after turns that were only interrupted
module _ {a b : FillLog} {x y : WriteLog} (before : CopiesOn 0 a b x y) where
  pub CopiesOn-after : {n : ℕ} {c : FillLog} {z : WriteLog} → CopiesOn n b c y z → CopiesOn n a c x z
  CopiesOn-after {c = c} {z = z} last =
      subst (λ k. CopiesOn k a c x z) (omega arith) (CopiesOn-joins before last)

-- what takes nothing from here on does so later too
pub TakesNothing-after : {W : Type 0} (tells : W → StreamLog) (trace call : W → W → Type 0)
    → ((u v w : W) → trace u v → trace v w → trace u w) → {x y : W} → trace x y
    → TakesNothing tells trace call x → TakesNothing tells trace call y
TakesNothing-after tells trace call joins {x} {y} went takes =
    λ before after e on. takes before after e (joins x y before went on)

-- what a turn answers that was begun again
module _ {W : Type 0} (tells : W → StreamLog) (trace call : W → W → Type 0)
    (joins : (u v w : W) → trace u v → trace v w → trace u w) {a b : FillLog} {x y : W}
    (before : CopiesOn 0 a b (tells x).writes (tells y).writes) (went : trace x y)
    (still : TakesNothing tells trace call x → b.zero_fills ≡ a.zero_fills) where
  takes_on : TakesNothing tells trace call x → TakesNothing tells trace call y
  takes_on = TakesNothing-after tells trace call joins went

  pub TurnAnswers-after : {c : FillLog} {z : W} (answer : Result ℕ Error)
      → TurnAnswers tells trace call answer b c y z → TurnAnswers tells trace call answer a c x z
  TurnAnswers-after (Ok n) turn = record {
    copies = λ some. CopiesOn-after before (turn.copies some);
    ended = λ none. CopyEnded-after tells trace call joins before went (turn.ended none);
    failed = tt;
    nothing = λ none. MovedBy-still before.moved (turn.nothing none);
    fills = λ none. omega (arith, before.fills, turn.fills none);
    writes = omega (arith, before.writes, turn.writes);
    ends_shown = omega (arith, before.ends_shown, turn.ends_shown);
    one_end = λ takes. omega (arith, still takes, turn.one_end (takes_on takes));
    none_ended = λ takes some. turn.none_ended (takes_on takes) some ∙ still takes;
  }
  TurnAnswers-after (Err e) turn = record {
    copies = tt;
    ended = tt;
    failed = StreamFailed-after tells trace call joins before went turn.failed;
    nothing = MovedBy-still before.moved turn.nothing;
    fills = omega (arith, before.fills, turn.fills);
    writes = omega (arith, before.writes, turn.writes);
    ends_shown = omega (arith, before.ends_shown, turn.ends_shown);
    one_end = λ takes. turn.one_end (takes_on takes) ∙ still takes;
    none_ended = λ takes. tt;
  }

-- how much went over in a copy, whatever it answered
pub CopyBuf-moved : {W : Type 0} {tells : W → StreamLog} {trace call : W → W → Type 0} {a b : FillLog} {x y : W}
    → (answer : Result ℕ Error) → CopyBuf tells trace call answer a b x y
    → (n : ℕ) × MovedBy n a b (tells x).writes (tells y).writes
CopyBuf-moved (Ok n) copied = (n, copied.moved)
CopyBuf-moved (Err e) copied = copied.moved
