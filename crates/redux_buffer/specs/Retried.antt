-- What a call promises that is made again where it was interrupted.
use Rattle.std.specs.Prelude.{◌≡◌, ℕ, ◌≤◌, Result, Ok, Err, IfErr, zero, suc}
use Rattle.std.proofs.Common.{arith, refl, subst, sym}
use Rattle.std.specs.declared.io.Error.{Error}
use Rattle.redux_buffer.specs.Faults.{IsInterrupt, interrupt_limit}

-- how a call goes from one state to the next, with this answer
abbrev pub Step : Type 0 → Type 0 → Type 1
Step S A = S → Result A Error → S → Type 0

-- this many calls that answered `Interrupted`, one after another
abbrev pub InterruptedSteps : {S A : Type 0} → Step S A → ℕ → S → S → Type 0
InterruptedSteps step zero s t = s ≡ t
InterruptedSteps {S} step (suc k) s t = (m : S) × InterruptedSteps step k s m
    × (e : Error) × IsInterrupt e × step m (Err e) t

-- what holds before an interrupted call, where it holds behind that, holds before all of them
pub InterruptedSteps-before : {S A : Type 0} (step : Step S A) (Holds : S → Type 0)
    → ((s : S) (e : Error) (m : S) → IsInterrupt e → step s (Err e) m → Holds m → Holds s)
    → (k : ℕ) (s t : S) → InterruptedSteps step k s t → Holds t → Holds s
InterruptedSteps-before step Holds one zero s t same held = subst Holds (sym same) held
InterruptedSteps-before step Holds one (suc k) s t (m, first, e, is, last) held =
    InterruptedSteps-before step Holds one k s m first (one m e t is last held)

-- a call, made again where it was interrupted, up to the limit, and `Interrupted` is answered only then
pub record Retried {S A : Type 0} (step : Step S A) (s : S) (answer : Result A Error) (t : S) : Type 0 where
  pub count : ℕ
  pub last : S
  pub interrupted : InterruptedSteps step count s last
  pub most : count ≤ interrupt_limit
  pub often : IfErr answer (λ e. IsInterrupt e → count ≡ interrupt_limit)
  pub went : step last answer t

-- one that wasn't interrupted
pub Retried-once : {S A : Type 0} (step : Step S A) (s : S) (x : A) (t : S) → step s (Ok x) t → Retried step s (Ok x) t
Retried-once step s x t went =
    record { count = 0; last = s; interrupted = refl; most = omega arith; often = tt; went = went }
