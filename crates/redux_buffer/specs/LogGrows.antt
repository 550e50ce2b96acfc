-- How a log grows: its lists only go on, and its counts only rise.
use Rattle.std.specs.Prelude.{◌≡◌, ℕ, ◌≤◌, ◌⊎◌, List, [], ◌∷◌, Result, Ok, Err}
use Rattle.std.proofs.Common.{◌∙◌, inl, inr, refl, le_refl, le_trans, subst, sym, arith}
use Rattle.std.specs.declared.io.Error.{Error}
use Rattle.redux_buffer.specs.GoesOn.{GoesOn, GoesOn-none, GoesOn-joins}
use Rattle.redux_buffer.specs.StreamLog.{ReadLog, WriteLog, FillLog, StreamLog, portion, with_zero, with_short, with_fault, with_flush, after_read, after_write, after_flush}

pub record ReadLogGrows (old new : ReadLog) : Type 0 where
  pub given : GoesOn old.given new.given
  pub asks : old.asks ≤ new.asks
  pub zero_reads : old.zero_reads ≤ new.zero_reads
  pub faults : GoesOn old.faults new.faults

-- where a writer was flushed since, what is flushed holds all that was received at first, and nothing that wasn't received
pub record WriteLogGrows (old new : WriteLog) : Type 0 where
  pub received : GoesOn old.received new.received
  pub flushed : (new.flushed ≡ old.flushed) ⊎ (GoesOn old.received new.flushed × GoesOn new.flushed new.received)
  pub flushes : old.flushes ≤ new.flushes
  pub asks : old.asks ≤ new.asks
  pub short_writes : old.short_writes ≤ new.short_writes
  pub zero_writes : old.zero_writes ≤ new.zero_writes
  pub faults : GoesOn old.faults new.faults

-- what is shown changes with each call
pub record FillLogGrows (old new : FillLog) : Type 0 where
  pub consumed : GoesOn old.consumed new.consumed
  pub asks : old.asks ≤ new.asks
  pub consumes : old.consumes ≤ new.consumes
  pub ends : old.zero_fills ≤ new.zero_fills
  pub faults : GoesOn old.faults new.faults

-- the same of a stream's writes and fills, as words that a proof opens only where it needs to
unfoldable pub WritesGoOn : StreamLog → StreamLog → Type 0
WritesGoOn old new = WriteLogGrows old.writes new.writes

unfoldable pub FillsGoOn : StreamLog → StreamLog → Type 0
FillsGoOn old new = FillLogGrows old.fills new.fills

pub ReadLogGrows-none : (s : ReadLog) → ReadLogGrows s s
ReadLogGrows-none s = record
    { given = GoesOn-none s.given; asks = le_refl _; zero_reads = le_refl _; faults = GoesOn-none s.faults }

pub ReadLogGrows-joins : (a b c : ReadLog) → ReadLogGrows a b → ReadLogGrows b c → ReadLogGrows a c
ReadLogGrows-joins a b c p q = record {
  given = GoesOn-joins a.given b.given c.given p.given q.given;
  asks = le_trans p.asks q.asks;
  zero_reads = le_trans p.zero_reads q.zero_reads;
  faults = GoesOn-joins a.faults b.faults c.faults p.faults q.faults;
}

flushed-joins : (a b c : WriteLog) → GoesOn a.received b.received → GoesOn b.received c.received
    → (b.flushed ≡ a.flushed) ⊎ (GoesOn a.received b.flushed × GoesOn b.flushed b.received)
    → (c.flushed ≡ b.flushed) ⊎ (GoesOn b.received c.flushed × GoesOn c.flushed c.received)
    → (c.flushed ≡ a.flushed) ⊎ (GoesOn a.received c.flushed × GoesOn c.flushed c.received)
flushed-joins a b c first second (inl same) (inl same') = inl (same' ∙ same)
flushed-joins a b c first second (inr since) (inl same) = inr (
  subst (GoesOn a.received) (sym same) since.0,
  subst (λ l. GoesOn l c.received) (sym same) (GoesOn-joins b.flushed b.received c.received since.1 second),
)
flushed-joins a b c first second before (inr since) = inr (GoesOn-joins a.received b.received c.flushed first since.0, since.1)

pub WriteLogGrows-none : (s : WriteLog) → WriteLogGrows s s
WriteLogGrows-none s = record {
  received = GoesOn-none s.received;
  flushed = inl refl;
  flushes = le_refl _;
  asks = le_refl _;
  short_writes = le_refl _;
  zero_writes = le_refl _;
  faults = GoesOn-none s.faults;
}

pub WriteLogGrows-joins : (a b c : WriteLog) → WriteLogGrows a b → WriteLogGrows b c → WriteLogGrows a c
WriteLogGrows-joins a b c p q = record {
  received = GoesOn-joins a.received b.received c.received p.received q.received;
  flushed = flushed-joins a b c p.received q.received p.flushed q.flushed;
  flushes = le_trans p.flushes q.flushes;
  asks = le_trans p.asks q.asks;
  short_writes = le_trans p.short_writes q.short_writes;
  zero_writes = le_trans p.zero_writes q.zero_writes;
  faults = GoesOn-joins a.faults b.faults c.faults p.faults q.faults;
}

pub FillLogGrows-none : (s : FillLog) → FillLogGrows s s
FillLogGrows-none s = record {
  consumed = GoesOn-none s.consumed;
  asks = le_refl _;
  consumes = le_refl _;
  ends = le_refl _;
  faults = GoesOn-none s.faults;
}

pub FillLogGrows-joins : (a b c : FillLog) → FillLogGrows a b → FillLogGrows b c → FillLogGrows a c
FillLogGrows-joins a b c p q = record {
  consumed = GoesOn-joins a.consumed b.consumed c.consumed p.consumed q.consumed;
  asks = le_trans p.asks q.asks;
  consumes = le_trans p.consumes q.consumes;
  ends = le_trans p.ends q.ends;
  faults = GoesOn-joins a.faults b.faults c.faults p.faults q.faults;
}

-- one call lets the log go on
pub zero_rises : (answer : Result ℕ Error) (buf : List ℕ) (z : ℕ) → z ≤ with_zero z buf answer
zero_rises (Ok n) buf z = grind arith
zero_rises (Err e) buf z = le_refl z

short_rises : (answer : Result ℕ Error) (buf : List ℕ) (n : ℕ) → n ≤ with_short n buf answer
short_rises (Ok n) buf before = grind arith
short_rises (Err e) buf before = omega arith

fault_goes_on : {A : Type 0} (answer : Result A Error) (faults : List Error)
    → GoesOn faults (with_fault faults answer)
fault_goes_on (Ok a) faults = GoesOn-none faults
fault_goes_on (Err e) faults = record { more = e ∷ []; equal = refl }

flush_goes_on : (answer : Result (Unit {0}) Error) (log : WriteLog)
    → (with_flush log.flushed log.received answer ≡ log.flushed)
    ⊎ (GoesOn log.received (with_flush log.flushed log.received answer)
    × GoesOn (with_flush log.flushed log.received answer) log.received)
flush_goes_on (Ok _) log = inr (GoesOn-none log.received, GoesOn-none log.received)
flush_goes_on (Err e) log = inl refl

pub ReadLogGrows-read : (log : StreamLog) (buf : List ℕ) (answer : Result ℕ Error)
    → ReadLogGrows log.reads (after_read log buf answer).reads
ReadLogGrows-read log buf answer = record {
  given = record { more = portion buf answer; equal = refl };
  asks = omega arith;
  zero_reads = zero_rises answer buf log.reads.zero_reads;
  faults = fault_goes_on answer log.reads.faults;
}

pub WriteLogGrows-write : (log : StreamLog) (buf : List ℕ) (answer : Result ℕ Error)
    → WriteLogGrows log.writes (after_write log buf answer).writes
WriteLogGrows-write log buf answer = record {
  received = record { more = portion buf answer; equal = refl };
  flushed = inl refl;
  flushes = le_refl _;
  asks = omega arith;
  short_writes = short_rises answer buf log.writes.short_writes;
  zero_writes = zero_rises answer buf log.writes.zero_writes;
  faults = fault_goes_on answer log.writes.faults;
}

pub WriteLogGrows-flush : (log : StreamLog) (answer : Result (Unit {0}) Error)
    → WriteLogGrows log.writes (after_flush log answer).writes
WriteLogGrows-flush log answer = record {
  received = GoesOn-none log.writes.received;
  flushed = flush_goes_on answer log.writes;
  flushes = omega arith;
  asks = le_refl _;
  short_writes = le_refl _;
  zero_writes = le_refl _;
  faults = fault_goes_on answer log.writes.faults;
}

pub WritesGoOn-of : (s t : StreamLog) → WriteLogGrows s.writes t.writes → WritesGoOn s t
unfolding WritesGoOn
WritesGoOn-of s t grows = grows

pub FillsGoOn-of : (s t : StreamLog) → FillLogGrows s.fills t.fills → FillsGoOn s t
unfolding FillsGoOn
FillsGoOn-of s t grows = grows
