-- What a stream that goes wrong at one call answers, and what contracts see of it.
use Rattle.std.specs.Prelude.{◌≡◌, ℕ, ◌+◌, ◌-◌, ◌^◌, ◌≤◌, ⊤, min, if◌then◌else◌, nat_lt, ◌==◌, Result, IfOk, IsErrAnd}
use Rattle.std.specs.IoError.{error_kind}
use Rattle.std.specs.declared.io.Error.{Error}
use Rattle.std.specs.declared.io.ErrorKind.TheVariants.{Interrupted}
use Rattle.redux_script.specs.Script.{Reply, Serves, Fails}
use Rattle.redux_script.specs.declared.Answer.{Answer}
use Rattle.redux_script.specs.declared.Answer.TheVariants.{Serve, Fail, Interrupt, ServeEach}
use Rattle.redux_script.specs.declared.fault_at.FaultAt.{FaultAt}

-- what contracts see of a `FaultAt`: how many calls come before the one that it answers, by what, and how many were made
pub record FaultProgress : Type 0 where
  pub before : ℕ
  pub answer : Answer
  pub calls : ℕ

abbrev pub fault_progress : {S : Type 0} → FaultAt S → FaultProgress
fault_progress s = record { before = s.before; answer = s.answer; calls = s.calls }

abbrev pub fault_stream : {S : Type 0} → FaultAt S → S
fault_stream s = s.stream

-- after one call more
abbrev pub with_call : FaultProgress → FaultProgress
with_call p = record p { calls = min (p.calls + 1) (2 ^ 64 - 1) }

-- how a call answers, so many calls after the one that was named; one that serves up to 2^64 - 1 goes on as it is
abbrev pub reply_since : Answer → ℕ → Reply
reply_since (Serve n) since = if since == 0 then Serves n else Serves (2 ^ 64 - 1)
reply_since (Fail kind) since = if since == 0 then Fails kind else Serves (2 ^ 64 - 1)
reply_since (Interrupt n) since = if nat_lt since n then Fails Interrupted else Serves (2 ^ 64 - 1)
reply_since (ServeEach n) since = Serves n

-- how the next call answers
abbrev pub fault_reply : FaultProgress → Reply
fault_reply p = if nat_lt p.calls p.before then Serves (2 ^ 64 - 1) else reply_since p.answer (p.calls - p.before)

-- no more bytes are served than the reply says
abbrev pub ServesWithin : Reply → Result ℕ Error → Type 0
ServesWithin (Serves most) answer = IfOk answer (λ n. n ≤ most)
ServesWithin (Fails kind) answer = ⊤

-- a fault is of the kind that was named, and leaves the stream inside as it was
abbrev pub FailsBy : {S X : Type 0} → Reply → S → Result X Error → S → Type 0
FailsBy (Serves most) old answer new = ⊤
FailsBy (Fails kind) old answer new = IsErrAnd answer (λ e. error_kind e ≡ kind) × (new ≡ old)
