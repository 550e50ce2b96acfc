-- A write, and then a send of its lines.
use Rattle.std.proofs.Common.{◌≡◌, List, [], ◌++◌, Result, Ok, Err, Option, Some, IfErr, IfSome, OnOk, ℕ, ◌+◌, length, refl, sym, ap, subst, arith, inl, inr, append-nil, length-append, ◌∙◌}
use Rattle.std.specs.Io.KnownBytes.{Appends}
use Rattle.std.specs.declared.io.Error.{Error}
use Rattle.redux_buffer.specs.Faults.{FaultsOften, FewFaults, IsInterrupt, failure_count}
use Rattle.redux_buffer.specs.LogGrows.{WriteLogGrows}
use Rattle.redux_buffer.specs.StreamLog.{StreamLog}
use Rattle.redux_buffer.specs.TransferLaws.{SendFailed-often, Sends-few}
use Rattle.buffer_redux.specs.Buffered.{Buffered}
use Rattle.buffer_redux.specs.BufWriter.{writer_contents, WritesInOrder}
use Rattle.buffer_redux.specs.LineSenderLaws.{lacks_or}
use Rattle.buffer_redux.specs.LineWriter.{SendsLines, ThenSendsLines}
use Rattle.buffer_redux.specs.WriterLaws.{WritesInOrder-contents, WritesInOrder-none}

pub on_ok : {A E : Type 0} (r : Result A E) (X : Type 0) → X → OnOk r X
on_ok (Ok a) X x = x
on_ok (Err e) X x = tt

module _ {S P : Type 0} (tells : S → StreamLog) (trace : S → S → Type 0) where
  pub steps_failed : (Wrote : Result (Unit {0}) Error → Buffered S P → Type 0) (e : Error) (t : Buffered S P)
      → Wrote (Err e) t → ThenSendsLines tells trace Wrote (Err e) t
  steps_failed Wrote e t wrote = record { writing = Err e; written = t; wrote = wrote; ended = (refl, refl) }

  abbrev pub steps_sent : (Wrote : Result (Unit {0}) Error → Buffered S P → Type 0) (x : Unit {0}) (m : Buffered S P)
      (answer : Result (Unit {0}) Error) (t : Buffered S P) → Wrote (Ok x) m → SendsLines tells trace m answer t
      → ThenSendsLines tells trace Wrote answer t
  steps_sent Wrote x m answer t wrote sends =
      record { writing = Ok x; written = m; wrote = wrote; ended = sends }

  -- a send accepts nothing
  pub order_sent : (m : Buffered S P) (answer : Result (Unit {0}) Error) (t : Buffered S P)
      → SendsLines tells trace m answer t → WritesInOrder m [] t
  order_sent m answer t sends = elim (lacks_or m.block.bytes) [
    | inl none ↦ subst (WritesInOrder m []) (sym (sends.none none).1) (WritesInOrder-none m)
    | inr some ↦ (sends.some some).in_order
  ]

  -- and behind a write with few faults it fails once at most; it is interrupted only often
  pub few_sent : (n : ℕ) (s m : Buffered S P) (answer : Result (Unit {0}) Error) (t : Buffered S P)
      → SendsLines tells trace m answer t → FewFaults n s.log.writes m.log.writes → FewFaults (n + 1) s.log.writes t.log.writes
  few_sent n s m answer t sends few = elim (lacks_or m.block.bytes) [
    | inl none ↦ subst (λ x. FewFaults (n + 1) s.log.writes x.log.writes) (sym (sends.none none).1) (omega (arith, few))
    | inr some ↦ met_once answer (Sends-few (length m.block.bytes) m.block t.block m.log t.log answer (sends.some some).sends)
  ] where
    met_once : (answer : Result (Unit {0}) Error) → FewFaults (failure_count answer) m.log.writes t.log.writes
        → FewFaults (n + 1) s.log.writes t.log.writes
    met_once (Ok _) once = omega (arith, few, once)
    met_once (Err e) once = omega (arith, few, once)

  pub often_sent : (s m : Buffered S P) (answer : Result (Unit {0}) Error) (t : Buffered S P)
      → SendsLines tells trace m answer t → WriteLogGrows s.log.writes m.log.writes
      → IfErr answer (λ e. IsInterrupt e → FaultsOften s.log.writes t.log.writes)
  often_sent s m (Ok _) t sends grows = tt
  often_sent s m (Err e) t sends grows = λ is. elim (lacks_or m.block.bytes) [
    | inl none ↦ (let odd : Err e ≡ Ok tt = (sends.none none).0 in cc)
    | inr some ↦
        let failed = (sends.some some).sends in
        omega (
          arith,
          SendFailed-often failed.interrupts m.log.writes t.log.writes e failed.failed is,
          ap length grows.faults.equal,
          length-append s.log.writes.faults grows.faults.more,
        )
  ]

  -- what is received and buffered stays
  pub contents_sent : (m : Buffered S P) (answer : Result (Unit {0}) Error) (t : Buffered S P)
      → SendsLines tells trace m answer t → writer_contents t ≡ writer_contents m
  contents_sent m answer t sends = ap Some (WritesInOrder-contents m t [] (order_sent m answer t sends)
      ∙ append-nil (m.log.writes.received ++ m.block.bytes))

  pub appends_sent : (s m : Buffered S P) (answer : Result (Unit {0}) Error) (t : Buffered S P)
      → SendsLines tells trace m answer t → (bytes : List ℕ) → Appends (writer_contents s) (writer_contents m) bytes
      → OnOk answer (Appends (writer_contents s) (writer_contents t) bytes)
  appends_sent s m answer t sends bytes all = on_ok answer (Appends (writer_contents s) (writer_contents t) bytes)
      (subst (λ o. Appends (writer_contents s) o bytes) (sym (contents_sent m answer t sends)) all)

  pub text_sent : (s m : Buffered S P) (answer : Result (Unit {0}) Error) (t : Buffered S P)
      → SendsLines tells trace m answer t → (text : Option (List ℕ))
      → IfSome text (Appends (writer_contents s) (writer_contents m))
      → OnOk answer (IfSome text (Appends (writer_contents s) (writer_contents t)))
  text_sent s m answer t sends text all = on_ok answer (IfSome text (Appends (writer_contents s) (writer_contents t)))
      (rw (contents_sent m answer t sends) all)
