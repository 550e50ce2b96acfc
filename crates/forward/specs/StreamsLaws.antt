-- How two streams fared, over calls that follow one another.
use Rattle.std.proofs.Common.{◌≡◌, ◌+◌, ◌≤◌, inl, inr, List, [], ◌∷◌, ◌++◌, length, length-append, ap, ◌∙◌, arith, append_assoc}
use Rattle.std.proofs.lemmas.List.Elements.{All-push}
use Rattle.std.specs.declared.io.Error.{Error}
use Rattle.redux_buffer.specs.Faults.{IsInterrupt, interrupt_limit, OnlyInterrupts, OnlyInterrupts-none, OnlyInterrupts-joins, FaultAfterInterrupts-after, MetInterrupts-joins, MetInterrupts-none, SendErrorCaused-after}
use Rattle.redux_buffer.specs.LogGrows.{ReadLogGrows}
use Rattle.redux_buffer.specs.StreamLog.{ReadLog, StreamLog}
use Rattle.forward.specs.Streams.{FewReadFaults, MetNoFault, ReadFailed, ReadGaveUp, WriteGaveUp, WriterFailed, came}

pub MetNoFault-none : (read written : StreamLog) → MetNoFault read read written written
MetNoFault-none read written =
    record { reader = OnlyInterrupts-none read.reads.faults; writer = MetInterrupts-none written.writes }

pub MetNoFault-joins : {a b c k l m : StreamLog} → MetNoFault a b k l → MetNoFault b c l m → MetNoFault a c k m
MetNoFault-joins {a} {b} {c} {k} {l} {m} p q = record {
  reader = OnlyInterrupts-joins a.reads.faults b.reads.faults c.reads.faults p.reader q.reader;
  writer = MetInterrupts-joins k.writes l.writes m.writes p.writer q.writer;
}

-- after interrupted reads, one more was interrupted
pub only_more : (a b c : List Error) (e : Error) → OnlyInterrupts a b → c ≡ b ++ e ∷ [] → IsInterrupt e → OnlyInterrupts a c
only_more a b c e p fault is = record {
  interrupts = p.interrupts ++ e ∷ [];
  interrupted = All-push IsInterrupt p.interrupts e p.interrupted is;
  faults = fault ∙ ap (λ l. l ++ e ∷ []) p.faults ∙ append_assoc a p.interrupts (e ∷ []);
}

pub one_more : (b c : List Error) (e : Error) → c ≡ b ++ e ∷ [] → length c ≡ length b + 1
one_more b c e fault = ap length fault ∙ length-append b (e ∷ [])

-- after interrupted reads one failed, and was not tried again
pub gave_up : (a b c : List Error) (e : Error) → OnlyInterrupts a b → c ≡ b ++ e ∷ []
    → (IsInterrupt e → length a + interrupt_limit + 1 ≤ length c) → ReadGaveUp e a c
gave_up a b c e p fault often = record {
  fault = record {
    interrupts = p.interrupts;
    interrupted = p.interrupted;
    faults = fault ∙ ap (λ l. l ++ e ∷ []) p.faults;
  };
  often = often;
}

pub ReadGaveUp-after : (a b c : List Error) (e : Error) → OnlyInterrupts a b → ReadGaveUp e b c → ReadGaveUp e a c
ReadGaveUp-after a b c e p q = record {
  fault = FaultAfterInterrupts-after a b c e p q.fault;
  often = λ is. omega (arith, q.often is, ap length p.faults, length-append a p.interrupts);
}

pub ReadFailed-after : {e : Error} {a b c k l m : StreamLog} → MetNoFault a b k l → ReadFailed e b c l m → ReadFailed e a c k m
ReadFailed-after {e} {a} {b} {c} {k} {l} {m} p q = record {
  reader = ReadGaveUp-after a.reads.faults b.reads.faults c.reads.faults e p.reader q.reader;
  writer = MetInterrupts-joins k.writes l.writes m.writes p.writer q.writer;
}

pub WriterFailed-after : {e : Error} {a b c k l m : StreamLog} → MetNoFault a b k l → WriterFailed e b c l m
    → WriterFailed e a c k m
WriterFailed-after {e} {a} {b} {c} {k} {l} {m} p q = record {
  reader = OnlyInterrupts-joins a.reads.faults b.reads.faults c.reads.faults p.reader q.reader;
  writer = SendErrorCaused-after k.writes l.writes m.writes e p.writer q.writer;
}

-- no fault is taken back
pub WriteGaveUp-after : {NoneLeft : Type 0} {e : Error} {a b c k l m : StreamLog} → MetNoFault a b k l
    → WriteGaveUp NoneLeft e b c l m → WriteGaveUp NoneLeft e a c k m
WriteGaveUp-after {k = k} p q = record {
  failed = WriterFailed-after p q.failed;
  often = λ is. elim (q.often is) [
    | inl many ↦ inl (omega (
      arith,
      many,
      ap length p.writer.only.faults,
      length-append k.writes.faults p.writer.interrupts,
    ))
    | inr none ↦ inr none
  ];
}

pub WriteGaveUp-so : {NoneLeft Other : Type 0} {e : Error} {a b k l : StreamLog} → (NoneLeft → Other)
    → WriteGaveUp NoneLeft e a b k l → WriteGaveUp Other e a b k l
WriteGaveUp-so so p = record {
  failed = p.failed;
  often = λ is. elim (p.often is) [ inl many ↦ inl many | inr none ↦ inr (so none) ];
}

-- what came stays so
pub came_more : (a b : ReadLog) → ReadLogGrows a b → came a ≤ came b
came_more a b grows =
    omega (arith, grows.zero_reads, ap length grows.given.equal, length-append a.given grows.given.more)

-- a stream that wasn't asked met no fault
pub FewReadFaults-none : (a b : StreamLog) → b ≡ a → FewReadFaults 0 a.reads b.reads
FewReadFaults-none a b same =
    omega (arith, ap (λ l. length l.reads.faults) same, ap (λ l. came l.reads) same)
