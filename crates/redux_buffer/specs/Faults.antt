-- What the faults that a stream tells say of a call.
use Rattle.std.specs.Prelude.{◌≡◌, ℕ, ◌+◌, ◌*◌, ◌≤◌, ◌⊎◌, List, [], ◌∷◌, ◌++◌, length, Result, Ok, Err}
use Rattle.std.proofs.Common.{sym, refl, ap, subst, ◌∙◌, arith, inl, inr, append-nil, append_assoc}
use Rattle.std.proofs.lemmas.List.{take_at, drop_at, append_cancel_left}
use Rattle.std.proofs.lemmas.List.Elements.{All-nil, All-cons, All-push, All-append, All-take, All-drop}
use Rattle.std.specs.IoError.{error_kind}
use Rattle.std.specs.List.{All}
use Rattle.std.specs.declared.io.Error.{Error}
use Rattle.std.specs.declared.io.ErrorKind.{ErrorKind}
use Rattle.std.specs.declared.io.ErrorKind.TheVariants.{Interrupted, OutOfMemory, WriteZero}
use Rattle.redux_buffer.specs.LogGrows.{WriteLogGrows}
use Rattle.redux_buffer.specs.StreamLog.{WriteLog}

-- `e.kind()` is `Interrupted`
abbrev pub IsInterrupt : Error → Type 0
IsInterrupt e = error_kind e ≡ Interrupted

-- `e.kind()` is `OutOfMemory`
abbrev pub IsMemory : Error → Type 0
IsMemory e = error_kind e ≡ OutOfMemory

-- how often in a row an interrupted call is made again
abbrev pub interrupt_limit : ℕ
interrupt_limit = 64

-- no fault came but these, which are `Interrupted`
pub record OnlyInterrupts (old new : List Error) : Type 0 where
  pub interrupts : List Error
  pub interrupted : All IsInterrupt interrupts
  pub faults : new ≡ old ++ interrupts

-- after such faults came this one
pub record FaultAfterInterrupts (old new : List Error) (e : Error) : Type 0 where
  pub interrupts : List Error
  pub interrupted : All IsInterrupt interrupts
  pub faults : new ≡ old ++ interrupts ++ e ∷ []

-- these are the writes that were interrupted, and nothing else went wrong
pub record OnlyInterrupted (interrupts : List Error) (old new : WriteLog) : Type 0 where
  pub interrupted : All IsInterrupt interrupts
  pub faults : new.faults ≡ old.faults ++ interrupts
  pub zero_writes : new.zero_writes ≡ old.zero_writes

pub record MetInterrupts (old new : WriteLog) : Type 0 where
  pub interrupts : List Error
  pub only : OnlyInterrupted interrupts old new

-- after these interrupted writes, one took nothing of something, which is answered by an error of our own, `WriteZero`
pub record TookNothing (interrupts : List Error) (old new : WriteLog) (kind : ErrorKind) : Type 0 where
  pub is_write_zero : kind ≡ WriteZero
  pub interrupted : All IsInterrupt interrupts
  pub faults : new.faults ≡ old.faults ++ interrupts
  pub zero_writes : new.zero_writes ≡ old.zero_writes + 1

-- after these interrupted writes, a call answered this very error
pub record FaultedAfter (interrupts : List Error) (old new : WriteLog) (e : Error) : Type 0 where
  pub interrupted : All IsInterrupt interrupts
  pub faults : new.faults ≡ old.faults ++ interrupts ++ e ∷ []
  pub zero_writes : new.zero_writes ≡ old.zero_writes

-- sending failed so: `Interrupted` is answered only after as many interrupted writes as the limit
pub record SendFailed (interrupts : List Error) (old new : WriteLog) (e : Error) : Type 0 where
  pub cause : TookNothing interrupts old new (error_kind e) ⊎ FaultedAfter interrupts old new e
  pub often : error_kind e ≡ Interrupted → interrupt_limit ≤ length interrupts

-- an error was caused by a write that took nothing of something, or is the writer's last fault; before it came no fault
-- but `Interrupted`
pub record SendErrorCaused (old new : WriteLog) (e : Error) : Type 0 where
  pub interrupts : List Error
  pub cause : TookNothing interrupts old new (error_kind e) ⊎ FaultedAfter interrupts old new e

-- for each byte that was received, and once more for each of so many failures, writes were interrupted as often as the limit at
-- most
abbrev pub FewFaults : ℕ → WriteLog → WriteLog → Type 0
FewFaults failed old new =
    length new.faults + interrupt_limit * length old.received
    ≤ length old.faults + interrupt_limit * length new.received + (interrupt_limit + 1) * failed

-- faults came that often, and one more
abbrev pub FaultsOften : WriteLog → WriteLog → Type 0
FaultsOften old new = length old.faults + interrupt_limit + 1 ≤ length new.faults

-- how often a call failed that ended with this answer
abbrev pub failure_count : {A E : Type 0} → Result A E → ℕ
failure_count (Ok a) = 0
failure_count (Err e) = 1

-- one row of faults joins another, and the fault after it comes after both
rows_join : (p q a b c : List Error) → b ≡ a ++ p → c ≡ b ++ q → c ≡ a ++ (p ++ q)
rows_join p q a b c first second = second ∙ ap (λ l. l ++ q) first ∙ append_assoc a p q

fault_after : (p q a b c : List Error) (e : Error) → b ≡ a ++ p → c ≡ b ++ q ++ e ∷ []
    → c ≡ a ++ (p ++ q) ++ e ∷ []
fault_after p q a b c e first second = second ∙ ap (λ l. l ++ e ∷ []) (rows_join p q a b (b ++ q) first refl)

pub OnlyInterrupts-none : (faults : List Error) → OnlyInterrupts faults faults
OnlyInterrupts-none faults =
    record { interrupts = []; interrupted = All-nil IsInterrupt; faults = sym (append-nil faults) }

pub OnlyInterrupts-same : (old new : List Error) → new ≡ old → OnlyInterrupts old new
OnlyInterrupts-same old new same = subst (OnlyInterrupts old) (sym same) (OnlyInterrupts-none old)

pub OnlyInterrupts-one : (old new : List Error) (e : Error) → IsInterrupt e → new ≡ old ++ e ∷ [] → OnlyInterrupts old new
OnlyInterrupts-one old new e is came =
    record { interrupts = e ∷ []; interrupted = All-cons IsInterrupt e [] is (All-nil IsInterrupt); faults = came }

pub OnlyInterrupts-joins : (a b c : List Error) → OnlyInterrupts a b → OnlyInterrupts b c → OnlyInterrupts a c
OnlyInterrupts-joins a b c p q = record {
  interrupts = p.interrupts ++ q.interrupts;
  interrupted = All-append IsInterrupt p.interrupts q.interrupts p.interrupted q.interrupted;
  faults = rows_join p.interrupts q.interrupts a b c p.faults q.faults;
}

pub FaultAfterInterrupts-after : (a b c : List Error) (e : Error) → OnlyInterrupts a b
    → FaultAfterInterrupts b c e → FaultAfterInterrupts a c e
FaultAfterInterrupts-after a b c e p q = record {
  interrupts = p.interrupts ++ q.interrupts;
  interrupted = All-append IsInterrupt p.interrupts q.interrupts p.interrupted q.interrupted;
  faults = fault_after p.interrupts q.interrupts a b c e p.faults q.faults;
}

-- no write was interrupted yet, and one row of interrupted writes joins another
pub OnlyInterrupted-none : (log : WriteLog) → OnlyInterrupted [] log log
OnlyInterrupted-none log =
    record { interrupted = All-nil IsInterrupt; faults = sym (append-nil log.faults); zero_writes = refl }

pub OnlyInterrupted-joins : (es fs : List Error) (a b c : WriteLog) → OnlyInterrupted es a b
    → OnlyInterrupted fs b c → OnlyInterrupted (es ++ fs) a c
OnlyInterrupted-joins es fs a b c p q = record {
  interrupted = All-append IsInterrupt es fs p.interrupted q.interrupted;
  faults = rows_join es fs a.faults b.faults c.faults p.faults q.faults;
  zero_writes = q.zero_writes ∙ p.zero_writes;
}

pub MetInterrupts-none : (log : WriteLog) → MetInterrupts log log
MetInterrupts-none log = record { interrupts = []; only = OnlyInterrupted-none log }

pub MetInterrupts-joins : (a b c : WriteLog) → MetInterrupts a b → MetInterrupts b c → MetInterrupts a c
MetInterrupts-joins a b c p q = record {
  interrupts = p.interrupts ++ q.interrupts;
  only = OnlyInterrupted-joins p.interrupts q.interrupts a b c p.only q.only;
}

-- each part of a row of `Interrupted` is one
row_parts : (xs ys es : List Error) → xs ++ ys ≡ es → All IsInterrupt es → All IsInterrupt xs × All IsInterrupt ys
row_parts xs ys es row all =
    let whole : All IsInterrupt (xs ++ ys) = subst (All IsInterrupt) (sym row) all in (
      subst (All IsInterrupt) (take_at xs ys (length xs) refl) (All-take IsInterrupt (length xs) (xs ++ ys) whole),
      subst (All IsInterrupt) (drop_at xs ys (length xs) refl) (All-drop IsInterrupt (length xs) (xs ++ ys) whole),
    )

-- where nothing but interrupted writes was met in a trace, so it was in each of its parts
pub MetInterrupts-parts : (a b c : WriteLog) → WriteLogGrows a b → WriteLogGrows b c → MetInterrupts a c
    → MetInterrupts a b × MetInterrupts b c
MetInterrupts-parts a b c p q met =
    let first = p.faults.more in
    let second = q.faults.more in
    let row : first ++ second ≡ met.interrupts =
    append_cancel_left a.faults (first ++ second) met.interrupts
    (sym (append_assoc a.faults first second) ∙ sym (ap (λ l. l ++ second) p.faults.equal) ∙ sym q.faults.equal
    ∙ met.only.faults) in
    let parts = row_parts first second met.interrupts row met.only.interrupted in (
      record {
        interrupts = first;
        only = record {
          interrupted = parts.0;
          faults = p.faults.equal;
          zero_writes = omega (arith, p.zero_writes, q.zero_writes, met.only.zero_writes);
        };
      },
      record {
        interrupts = second;
        only = record {
          interrupted = parts.1;
          faults = q.faults.equal;
          zero_writes = omega (arith, p.zero_writes, q.zero_writes, met.only.zero_writes);
        };
      },
    )

-- an error `Interrupted` is one more interrupted write
pub MetInterrupts-err : (old new : WriteLog) (e : Error) → IsInterrupt e → SendErrorCaused old new e
    → MetInterrupts old new
MetInterrupts-err old new e is caused = elim caused.cause [
  | inl nothing ↦ (let odd = nothing.is_write_zero in cc)
  | inr fault ↦ record {
    interrupts = caused.interrupts ++ e ∷ [];
    only = record {
      interrupted = All-push IsInterrupt caused.interrupts e fault.interrupted is;
      faults = fault.faults ∙ append_assoc old.faults caused.interrupts (e ∷ []);
      zero_writes = fault.zero_writes;
    };
  }
]

-- what goes wrong after interrupted writes goes wrong after all of them
pub TookNothing-after : (es fs : List Error) (a b c : WriteLog) (kind : ErrorKind) → OnlyInterrupted es a b
    → TookNothing fs b c kind → TookNothing (es ++ fs) a c kind
TookNothing-after es fs a b c kind p q = record {
  is_write_zero = q.is_write_zero;
  interrupted = All-append IsInterrupt es fs p.interrupted q.interrupted;
  faults = rows_join es fs a.faults b.faults c.faults p.faults q.faults;
  zero_writes = q.zero_writes ∙ ap (λ z. z + 1) p.zero_writes;
}

pub FaultedAfter-after : (es fs : List Error) (a b c : WriteLog) (e : Error) → OnlyInterrupted es a b
    → FaultedAfter fs b c e → FaultedAfter (es ++ fs) a c e
FaultedAfter-after es fs a b c e p q = record {
  interrupted = All-append IsInterrupt es fs p.interrupted q.interrupted;
  faults = fault_after es fs a.faults b.faults c.faults e p.faults q.faults;
  zero_writes = q.zero_writes ∙ p.zero_writes;
}

pub SendErrorCaused-after : (a b c : WriteLog) (e : Error) → MetInterrupts a b → SendErrorCaused b c e
    → SendErrorCaused a c e
SendErrorCaused-after a b c e met caused = record {
  interrupts = met.interrupts ++ caused.interrupts;
  cause = elim caused.cause [
    | inl nothing ↦
        inl (TookNothing-after met.interrupts caused.interrupts a b c (error_kind e) met.only nothing)
    | inr fault ↦ inr (FaultedAfter-after met.interrupts caused.interrupts a b c e met.only fault)
  ];
}
