-- How many writes of a send fail.
use Rattle.std.proofs.Common.{◌≡◌, ℕ, ◌+◌, ◌≤◌, List, [], ◌∷◌, ◌++◌, length, take, Result, Ok, Err, ap, arith, inl, inr, length-append, length-take-le}
use Rattle.std.specs.declared.io.Error.{Error}
use Rattle.redux_buffer.specs.Block.{Block}
use Rattle.redux_buffer.specs.Faults.{FaultsOften, FewFaults, IsInterrupt, SendFailed, failure_count}
use Rattle.redux_buffer.specs.StreamLog.{StreamLog, WriteLog}
use Rattle.redux_buffer.specs.Transfer.{Sends}

-- a failure adds as many faults as were interrupted, and itself at most; and `Interrupted` is itself one more
failed_few : (interrupts : List Error) (old new : WriteLog) (e : Error) → SendFailed interrupts old new e
    → length new.faults ≤ length old.faults + length interrupts + 1
failed_few interrupts old new e failed = elim failed.cause [
  | inl nothing ↦ omega (arith, ap length nothing.faults, length-append old.faults interrupts)
  | inr fault ↦ omega (
    arith,
    ap length fault.faults,
    length-append (old.faults ++ interrupts) (e ∷ []),
    length-append old.faults interrupts,
  )
]

pub SendFailed-often : (interrupts : List Error) (old new : WriteLog) (e : Error) → SendFailed interrupts old new e
    → IsInterrupt e → FaultsOften old new
SendFailed-often interrupts old new e failed is = elim failed.cause [
  | inl nothing ↦ (let odd = nothing.is_write_zero in cc)
  | inr fault ↦ omega (
    arith,
    failed.often is,
    ap length fault.faults,
    length-append (old.faults ++ interrupts) (e ∷ []),
    length-append old.faults interrupts,
  )
]

module _ (amount : ℕ) (old new : Block) (log log' : StreamLog) where
  -- so many bytes went out
  pub Sends-length : (answer : Result (Unit {0}) Error) → (s : Sends amount old log answer new log')
      → length log'.writes.received ≡ length log.writes.received + s.count
  Sends-length answer s = omega (
    arith,
    ap length s.sent.received,
    length-append log.writes.received (take s.count old.bytes),
    length-take-le s.count old.bytes s.sent.within,
  )

  pub Sends-few : (answer : Result (Unit {0}) Error) → Sends amount old log answer new log'
      → FewFaults (failure_count answer) log.writes log'.writes
  Sends-few (Ok _) s =
      omega (arith, s.few, Sends-length (Ok tt) s, ap length s.ok.faults, length-append log.writes.faults s.interrupts)
  Sends-few (Err e) s = omega (arith, s.few, Sends-length (Err e) s, failed_few s.interrupts log.writes log'.writes e s.failed)
