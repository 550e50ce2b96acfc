-- What the writes of some texts, one behind another, met of faults.
use Rattle.std.proofs.Common.{ℕ, List, Result, Ok, Err, IfErr, OnOk, ap, arith, length, length-append}
use Rattle.std.proofs.lemmas.Result.{IfErr-weaker}
use Rattle.std.specs.declared.io.Error.{Error}
use Rattle.redux_buffer.specs.Faults.{FaultsOften, IsInterrupt, MetInterrupts, MetInterrupts-joins}
use Rattle.buffer_redux.specs.Buffered.{Buffered}
use Rattle.buffer_redux.specs.Policy.{std_write_rules}
use Rattle.buffer_redux.specs.StreamLog.{StreamLog}
use Rattle.buffer_redux.specs.WriteAll.{WritesAll}
use Rattle.buffer_redux.specs.WriterLaws.{WritesAll-met}
use Rattle.buffer_redux.specs.declared.policy.StdPolicy.{StdPolicy}

module _ {S : Type 0} where
  abbrev Met : Buffered S StdPolicy → Buffered S StdPolicy → Type 0
  Met s t = MetInterrupts s.log.writes t.log.writes

  pub all_met : (tells : S → StreamLog) (trace : S → S → Type 0) (s : Buffered S StdPolicy) (bs : List ℕ)
      (answer : Result (Unit {0}) Error) (t : Buffered S StdPolicy)
      → WritesAll tells trace std_write_rules s bs answer t → OnOk answer (Met s t)
  all_met tells trace s bs (Ok x) t all =
      WritesAll-met std_write_rules (λ p b a p' after. after.1) tells trace s bs t all
  all_met tells trace s bs (Err e) t all = tt

  pub met_on : (u m v : Buffered S StdPolicy) (answer : Result (Unit {0}) Error) → Met u m → OnOk answer (Met m v)
      → OnOk answer (Met u v)
  met_on u m v (Ok x) p q = MetInterrupts-joins u.log.writes m.log.writes v.log.writes p q
  met_on u m v (Err e) p q = tt

  abbrev pub GaveUpOften : Buffered S StdPolicy → Result (Unit {0}) Error → Buffered S StdPolicy → Type 0
  GaveUpOften s answer t = IfErr answer (λ e. IsInterrupt e → FaultsOften s.log.writes t.log.writes)

  pub often_on : (u m v : Buffered S StdPolicy) (answer : Result (Unit {0}) Error) → Met u m → GaveUpOften m answer v
      → GaveUpOften u answer v
  often_on u m v answer met often = IfErr-weaker answer _ _ (λ e so is. omega (
    arith,
    so is,
    ap length met.only.faults,
    length-append u.log.writes.faults met.interrupts,
  )) often
