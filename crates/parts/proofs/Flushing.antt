-- What a run sent is told only behind an Ok answer and an Ok flush.
use Rattle.std.proofs.Common.{◌≡◌, ◌≤◌, ◌+◌, Result, Ok, Err, OnOk, MatchResult, ap, arith, sym, subst}
use Rattle.std.specs.declared.io.Error.{Error}
use Rattle.buffer_redux.specs.BufWriter.{WasFlushed}
use Rattle.buffer_redux.specs.Buffered.{Buffered}
use Rattle.buffer_redux.specs.StreamLog.{StreamLog}
use Rattle.buffer_redux.specs.WritesAlongLaws.{Flushes-once}
use Rattle.buffer_redux.specs.declared.policy.StdPolicy.{StdPolicy}
use Rattle.parts.specs.Asked.{FlushedUnless}
use Rattle.parts.specs.declared.error.RunError.{RunError}
use Rattle.parts.specs.declared.error.RunError.TheVariants as Why

-- and it was flushed once at most
pub ended_once : {T : Type 0} (tells : T → StreamLog) (trace : T → T → Type 0) (v w : Buffered T StdPolicy)
    (answer last : Result (Unit {0}) RunError) → FlushedUnless tells trace answer v last w
    → w.log.writes.flushes ≤ v.log.writes.flushes + 1
ended_once tells trace v w (Ok x) last f = Flushes-once v w f.flush f.flushes.steps
ended_once tells trace v w (Err (Why.Write e)) last f = omega (arith, ap (λ x. x.log.writes.flushes) f.1)
ended_once tells trace v w (Err y) last f = Flushes-once v w f.flush f.flushes.steps

module _ {T : Type 0} (tells : T → StreamLog) (trace : T → T → Type 0) (v w : Buffered T StdPolicy) (Sent : Type 0) where
  at_flush : (answer last : Result (Unit {0}) RunError) (flush : Result (Unit {0}) Error) → WasFlushed tells trace v flush w
      → MatchResult flush (λ _. last ≡ answer) (λ e. last ≡ Err (Why.Write e))
      → (answer ≡ Ok tt → WasFlushed tells trace v (Ok tt) w → Sent) → OnOk last Sent
  at_flush answer (Err e) flush flushes same all = tt
  at_flush answer (Ok x) (Ok y) flushes same all = all (sym same) flushes
  at_flush answer (Ok x) (Err e) flushes odd all = absurd (cc)

  pub at_done : (answer last : Result (Unit {0}) RunError) → FlushedUnless tells trace answer v last w
      → (answer ≡ Ok tt → WasFlushed tells trace v (Ok tt) w → Sent) → OnOk last Sent
  at_done (Err (Why.Write e)) last f all = subst (λ l. OnOk l Sent) (sym f.0) tt
  at_done answer last f all = at_flush answer last f.flush f.flushes f.last_is all
