-- What a stream tells of its own calls, and what each call adds to it.
use Rattle.std.specs.Prelude.{◌≡◌, ℕ, ◌+◌, ◌<◌, ◌≤◌, ◌⊎◌, List, [], ◌∷◌, ◌++◌, length, take, drop, Result, Ok, Err, ◌&&◌, ◌==◌, nat_lt, if◌then◌else◌}
use Rattle.std.proofs.Common.{arith}
use Rattle.std.specs.Borrow.{Bor}
use Rattle.std.specs.declared.io.Error.{Error}
use Rattle.std.specs.declared.io.traits.SeekFrom.{SeekFrom}
use Rattle.redux_buffer.specs.GoesOn.{GoesOn}

-- what a reader tells of its reads: the bytes that it gave, those of them that its last read gave, the reads that it
-- answered, the length of the last slice that it was lent, its `Ok(0)` to slices that were not empty, and its faults
pub record ReadLog : Type 0 where
  pub given : List ℕ
  pub latest : List ℕ
  pub asks : ℕ
  pub offer : ℕ
  pub zero_reads : ℕ
  pub faults : List Error

-- what a writer tells of its writes and flushes: the bytes that it took, those that it had taken at its last Ok flush,
-- the flushes that it answered, the writes, those that fell short, as they took less than they were offered or failed,
-- the length of the last slice, its `Ok(0)` to slices that were not empty, and its faults
pub record WriteLog : Type 0 where
  pub received : List ℕ
  pub flushed : List ℕ
  pub flushes : ℕ
  pub asks : ℕ
  pub short_writes : ℕ
  pub offer : ℕ
  pub zero_writes : ℕ
  pub faults : List Error

-- what a buffered reader tells: the bytes that it shows, those that were consumed, the fills that it answered, the
-- consumes, its Ok fills that showed nothing, and its faults
pub record FillLog : Type 0 where
  pub shown : List ℕ
  pub consumed : List ℕ
  pub asks : ℕ
  pub consumes : ℕ
  pub zero_fills : ℕ
  pub faults : List Error

-- what a seeker tells: all its seeks in order, each with its answer, and its faults
pub record SeekLog : Type 0 where
  pub calls : List (SeekFrom × Result ℕ Error)
  pub faults : List Error

pub record StreamLog : Type 0 where
  pub reads : ReadLog
  pub writes : WriteLog
  pub fills : FillLog
  pub seeks : SeekLog

-- a stream that was not called yet
abbrev pub no_calls : StreamLog
no_calls = record {
  reads = record { given = []; latest = []; asks = 0; offer = 0; zero_reads = 0; faults = [] };
  writes = record {
    received = [];
    flushed = [];
    flushes = 0;
    asks = 0;
    short_writes = 0;
    offer = 0;
    zero_writes = 0;
    faults = [];
  };
  fills = record { shown = []; consumed = []; asks = 0; consumes = 0; zero_fills = 0; faults = [] };
  seeks = record { calls = []; faults = [] };
}

-- the bytes of bs that an answer took: the first n at `Ok(n)`, none at `Err`
abbrev pub portion : List ℕ → Result ℕ Error → List ℕ
portion bs (Ok n) = take n bs
portion bs (Err e) = []

-- an answer `Ok(0)` to a slice that is not empty is counted
abbrev pub with_zero : ℕ → List ℕ → Result ℕ Error → ℕ
with_zero before bs (Ok n) = if n == 0 && nat_lt 0 (length bs) then before + 1 else before
with_zero before bs (Err e) = before

-- what took some of it, or had nothing to take, is not counted
pub zero_of_some : (n : ℕ) (buf : List ℕ) (before : ℕ) → (0 < n) ⊎ (length buf ≡ 0)
    → with_zero before buf (Ok n) ≡ before
zero_of_some n buf before some = grind arith

pub zero_of_none : (n : ℕ) (buf : List ℕ) (before : ℕ) → n ≡ 0 → 0 < length buf
    → with_zero before buf (Ok n) ≡ before + 1
zero_of_none n buf before none some = grind arith

-- an answer that takes less than it was offered is counted, and so is an `Err`
abbrev pub with_short : ℕ → List ℕ → Result ℕ Error → ℕ
with_short before bs (Ok n) = if nat_lt n (length bs) then before + 1 else before
with_short before bs (Err e) = before + 1

-- what took less is counted, and what took all is not
pub short_of_less : (n : ℕ) (bs : List ℕ) (before : ℕ) → n < length bs → with_short before bs (Ok n) ≡ before + 1
short_of_less n bs before less = grind arith

pub short_of_all : (n : ℕ) (bs : List ℕ) (before : ℕ) → length bs ≤ n → with_short before bs (Ok n) ≡ before
short_of_all n bs before all = grind arith

-- an `Err` adds its error, and an `Ok` nothing
abbrev pub with_fault : {A : Type 0} → List Error → Result A Error → List Error
with_fault before (Ok a) = before
with_fault before (Err e) = before ++ e ∷ []

-- an Ok `flush` notes what was received
abbrev pub with_flush : List ℕ → List ℕ → Result (Unit {0}) Error → List ℕ
with_flush before received (Ok _) = received
with_flush before received (Err e) = before

-- after `read(buf)`, which left the slice as buf
abbrev pub after_read : StreamLog → List ℕ → Result ℕ Error → StreamLog
after_read log buf answer = record log {
  reads = record {
    given = log.reads.given ++ portion buf answer;
    latest = portion buf answer;
    asks = log.reads.asks + 1;
    offer = length buf;
    zero_reads = with_zero log.reads.zero_reads buf answer;
    faults = with_fault log.reads.faults answer;
  };
}

-- after `write(buf)`
abbrev pub after_write : StreamLog → List ℕ → Result ℕ Error → StreamLog
after_write log buf answer = record log {
  writes = record {
    received = log.writes.received ++ portion buf answer;
    flushed = log.writes.flushed;
    flushes = log.writes.flushes;
    asks = log.writes.asks + 1;
    short_writes = with_short log.writes.short_writes buf answer;
    offer = length buf;
    zero_writes = with_zero log.writes.zero_writes buf answer;
    faults = with_fault log.writes.faults answer;
  };
}

-- after `flush()`
abbrev pub after_flush : StreamLog → Result (Unit {0}) Error → StreamLog
after_flush log answer = record log {
  writes = record {
    received = log.writes.received;
    flushed = with_flush log.writes.flushed log.writes.received answer;
    flushes = log.writes.flushes + 1;
    asks = log.writes.asks;
    short_writes = log.writes.short_writes;
    offer = log.writes.offer;
    zero_writes = log.writes.zero_writes;
    faults = with_fault log.writes.faults answer;
  };
}

-- after `seek(to)`
abbrev pub after_seek : StreamLog → SeekFrom → Result ℕ Error → StreamLog
after_seek log to answer = record log {
  seeks = record {
    calls = log.seeks.calls ++ (to, answer) ∷ [];
    faults = with_fault log.seeks.faults answer;
  };
}

-- the same log where so much is flushed, and these bytes are shown
abbrev pub with_ready : StreamLog → List ℕ → List ℕ → StreamLog
with_ready log flushed shown = record log {
  writes = record log.writes { flushed = flushed };
  fills = record log.fills { shown = shown };
}

-- what a seek with this answer does to what is flushed and shown, just before it is told
abbrev pub Readies : Type 1
Readies = StreamLog → Result ℕ Error → StreamLog → Type 0

-- after `seek(to)`, before which all that was received may have been flushed, and what was shown dropped
pub record SeekTells (readies : Readies) (old : StreamLog) (to : SeekFrom) (answer : Result ℕ Error) (new : StreamLog)
    : Type 0 where
  pub flushed : List ℕ
  pub shown : List ℕ
  pub told : new ≡ after_seek (with_ready old flushed shown) to answer
  pub flushes : (flushed ≡ old.writes.flushed) ⊎ (flushed ≡ old.writes.received)
  pub drops : (shown ≡ old.fills.shown) ⊎ (shown ≡ [])
  pub ready : readies old answer (with_ready old flushed shown)

-- after `consume(amount)`
abbrev pub after_consume : StreamLog → ℕ → StreamLog
after_consume log amount = record log {
  fills = record {
    shown = drop amount log.fills.shown;
    consumed = log.fills.consumed ++ take amount log.fills.shown;
    asks = log.fills.asks;
    consumes = log.fills.consumes + 1;
    zero_fills = log.fills.zero_fills;
    faults = log.fills.faults;
  };
}

-- the same log where these bytes are shown
abbrev pub with_shown : StreamLog → List ℕ → StreamLog
with_shown log bytes = record log { fills = record log.fills { shown = bytes } }

-- an Ok `fill_buf` that shows nothing is counted
abbrev pub with_end : ℕ → List ℕ → ℕ
with_end before shown = if length shown == 0 then before + 1 else before

pub end_of_some : (before : ℕ) (shown : List ℕ) → 0 < length shown → with_end before shown ≡ before
end_of_some before shown some = grind arith

-- after `fill_buf()` with this answer, by which these bytes are shown
abbrev pub after_fill : {A : Type 0} → StreamLog → Result A Error → List ℕ → StreamLog
after_fill log (Ok a) bytes = record log {
  fills = record {
    shown = bytes;
    consumed = log.fills.consumed;
    asks = log.fills.asks + 1;
    consumes = log.fills.consumes;
    zero_fills = with_end log.fills.zero_fills bytes;
    faults = log.fills.faults;
  };
}
after_fill log (Err e) bytes = record log {
  fills = record {
    shown = bytes;
    consumed = log.fills.consumed;
    asks = log.fills.asks + 1;
    consumes = log.fills.consumes;
    zero_fills = log.fills.zero_fills;
    faults = log.fills.faults ++ e ∷ [];
  };
}

-- what `fill_buf()` makes of a log, once its slice is given back. What was shown is shown still, and more may have come,
-- also before a fault
abbrev pub FillTells : StreamLog → Result (Bor (List ℕ)) Error → StreamLog → Type 0
FillTells old (Ok bytes) new = (new ≡ after_fill old (Ok bytes) bytes.now) × GoesOn old.fills.shown bytes.now
FillTells old (Err e) new =
    (shown : List ℕ) × (new ≡ after_fill {A = Bor (List ℕ)} old (Err e) shown) × GoesOn old.fills.shown shown
