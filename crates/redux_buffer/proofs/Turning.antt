-- What the turns of a copy come to.
use Rattle.std.proofs.Common.{◌≡◌, ℕ, ◌+◌, ◌-◌, ◌≤◌, List, [], ◌∷◌, ◌++◌, length, Result, Ok, Err, IfErr, refl, sym, ap, subst, ◌∙◌, arith, inl, inr, le_refl, append-nil, length-append}
use Rattle.std.proofs.lemmas.Bool.{cases_lt}
use Rattle.std.proofs.lemmas.List.{nil_from_length}
use Rattle.std.proofs.lemmas.List.Elements.{All-nil, All-cons}
use Rattle.std.specs.IoError.{error_kind}
use Rattle.std.specs.List.{All}
use Rattle.std.specs.declared.io.Error.{Error}
use Rattle.std.specs.declared.io.ErrorKind.TheVariants.{Interrupted}
use Rattle.redux_buffer.specs.Copy.{MovedBy, EndsShown, FillsMade, TakesNothing, WritesEachFill, CopiesOn, CopyTurn, CopyRetried, faults_met}
use Rattle.redux_buffer.specs.CopyLaws.{TurnAnswers-after}
use Rattle.redux_buffer.specs.Faults.{IsInterrupt, MetInterrupts-none, OnlyInterrupts-none}
use Rattle.redux_buffer.specs.StreamLog.{StreamLog, FillLog, WriteLog, after_fill, after_write, end_of_some, with_end}

-- nothing was consumed, and nothing received
still : (a b : FillLog) (x y : WriteLog) → b.consumed ≡ a.consumed → b.consumes ≡ a.consumes → y.received ≡ x.received
    → y.flushed ≡ x.flushed → y.flushes ≡ x.flushes → MovedBy 0 a b x y
still a b x y consumed consumes received flushed flushes = record {
  bytes = [];
  count = refl;
  consumed = consumed ∙ sym (append-nil a.consumed);
  consumes = omega (arith, consumes);
  received = received ∙ sym (append-nil x.received);
  not_flushed = flushed;
  flushes = flushes;
}

one_interrupt : (e : Error) → error_kind e ≡ Interrupted → All IsInterrupt (e ∷ [])
one_interrupt e is = All-cons IsInterrupt e [] is (All-nil IsInterrupt)

end_counted : (before : ℕ) (shown : List ℕ) → (before ≤ with_end before shown) × (with_end before shown ≤ before + 1)
end_counted before shown = (grind arith, grind arith)

module _ {W : Type 0} (tells : W → StreamLog) (trace call : W → W → Type 0) (from : StreamLog) (w : W) where
  -- a turn whose fill failed
  pub not_filled : (shown : List ℕ) (e : Error)
      → CopyTurn tells trace call (Err e) from.fills (after_fill {A = Unit {0}} from (Err e) shown).fills w w
  not_filled shown e =
      let none = MetInterrupts-none (tells w).writes in
      let kept = still from.fills (after_fill {A = Unit {0}} from (Err e) shown).fills (tells w).writes (tells w).writes
      refl refl refl refl
      refl in
      let fills : FillsMade 0 from.fills (after_fill {A = Unit {0}} from (Err e) shown).fills (tells w).writes (tells w).writes =
      omega (arith, length-append from.fills.faults (e ∷ [])) in
      let writes : WritesEachFill from.fills (after_fill {A = Unit {0}} from (Err e) shown).fills (tells w).writes
      (tells w).writes =
      omega (arith, length-append from.fills.faults (e ∷ [])) in
      record {
        answers = record {
          copies = tt;
          ended = tt;
          failed = inl (record {
            fault = record {
              interrupts = [];
              interrupted = All-nil IsInterrupt;
              faults = ap (λ l. l ++ e ∷ []) (sym (append-nil from.fills.faults));
            };
            writer = none;
          });
          nothing = kept;
          fills = fills;
          writes = writes;
          ends_shown = omega arith;
          one_end = λ takes. refl;
          none_ended = λ takes. tt;
        };
        interrupted = λ is. record {
          moved = kept;
          ends = le_refl _;
          ends_shown = omega arith;
          fills = fills;
          writes = writes;
          reader = record { interrupts = e ∷ []; interrupted = one_interrupt e is; faults = refl };
          writer = none;
        };
        one_fill = refl;
        offered = tt;
        called = λ same. absurd (omega (arith, same, length-append from.fills.faults (e ∷ [])));
        no_write = λ more. refl;
        none_ended = tt;
        one_fault = omega (arith, length-append from.fills.faults (e ∷ []));
      }

  -- a turn whose write failed
  pub not_written : ((x : W) → trace x x) → (bytes : List ℕ) (e : Error) (w' : W)
      → tells w' ≡ after_write (tells w) bytes (Err e) → call w w'
      → CopyTurn tells trace call (Err e) from.fills (after_fill from (Ok bytes) bytes).fills w w'
  not_written none bytes e w' told called =
      let faults = ap (λ l. l.writes.faults) told in
      let kept = still from.fills (after_fill from (Ok bytes) bytes).fills (tells w).writes (tells w').writes refl refl
      (ap (λ l. l.writes.received) told ∙ append-nil (tells w).writes.received) (ap (λ l. l.writes.flushed) told)
      (ap (λ l. l.writes.flushes) told) in
      let ends = end_counted from.fills.zero_fills bytes in
      let fills : FillsMade 0 from.fills (after_fill from (Ok bytes) bytes).fills (tells w).writes (tells w').writes =
      omega (arith, ap length faults, length-append (tells w).writes.faults (e ∷ [])) in
      let shown : EndsShown 0 from.fills (after_fill from (Ok bytes) bytes).fills (tells w).writes (tells w').writes =
      omega (arith, ends.1, ap length faults, length-append (tells w).writes.faults (e ∷ [])) in
      let once = ap (λ l. l.writes.asks) told in
      record {
        answers = record {
          copies = tt;
          ended = tt;
          failed = inr (record {
            reader = OnlyInterrupts-none from.fills.faults;
            before = w;
            went = none w;
            met = MetInterrupts-none (tells w).writes;
            called = called;
            told = told;
          });
          nothing = kept;
          fills = fills;
          writes = omega (arith, once);
          ends_shown = shown;
          one_end = λ takes. elim (cases_lt 0 (length bytes)) [
            | inl some ↦ end_of_some from.fills.zero_fills bytes some
            | inr few ↦
                absurd (takes w w' e (none w) called
                (subst (λ l. tells w' ≡ after_write (tells w) l (Err e)) (nil_from_length bytes (omega (arith, few))) told))
          ];
          none_ended = λ takes. tt;
        };
        interrupted = λ is. record {
          moved = kept;
          ends = ends.0;
          ends_shown = shown;
          fills = fills;
          writes = omega (arith, once);
          reader = OnlyInterrupts-none from.fills.faults;
          writer = record {
            interrupts = e ∷ [];
            only = record {
              interrupted = one_interrupt e is;
              faults = faults;
              zero_writes = ap (λ l. l.writes.zero_writes) told;
            };
          };
        };
        one_fill = refl;
        offered = tt;
        called = λ same. called;
        no_write = λ more. absurd (omega (arith, more));
        none_ended = tt;
        one_fault = omega (arith, ap length faults, length-append (tells w).writes.faults (e ∷ []));
      }

-- behind as many turns that were interrupted as the limit
pub often_at_limit : (answer : Result ℕ Error) (count : ℕ) → count ≡ 64 → IfErr answer (λ e. IsInterrupt e → count ≡ 64)
often_at_limit (Ok n) count is = tt
often_at_limit (Err e) count is = λ interrupt. is

-- the last turn of those that are begun again
module _ {W : Type 0} (tells : W → StreamLog) (trace call : W → W → Type 0)
    (joins : (u v w : W) → trace u v → trace v w → trace u w) {a b : FillLog} {x y : W}
    (before : CopiesOn 0 a b (tells x).writes (tells y).writes) (went : trace x y)
    (still : TakesNothing tells trace call x → b.zero_fills ≡ a.zero_fills) where
  pub last_retried : {c : FillLog} {z : W} (answer : Result ℕ Error)
      → faults_met a (tells x).writes + 64 ≤ faults_met b (tells y).writes
      → faults_met b (tells y).writes ≤ faults_met a (tells x).writes + 64
      → CopyTurn tells trace call answer b c y z → CopyRetried tells trace call answer a c x z
  last_retried (Ok n) rise few turn = record {
    answers = TurnAnswers-after tells trace call joins before went still (Ok n) turn.answers;
    often = tt;
    few = omega (arith, few, turn.one_fault);
  }
  last_retried (Err e) rise few turn = record {
    answers = TurnAnswers-after tells trace call joins before went still (Err e) turn.answers;
    often = λ is. omega (arith, rise, turn.one_fault);
    few = omega (arith, few, turn.one_fault);
  }

-- how many bytes were consumed, and that faults only come
pub moved_count : {n : ℕ} {a b : FillLog} {x y : WriteLog} → MovedBy n a b x y
    → length b.consumed - length a.consumed ≡ n
moved_count {n} {a} p = omega (arith, p.count, ap length p.consumed, length-append a.consumed p.bytes)

pub faults_come : {n : ℕ} {a b : FillLog} {x y : WriteLog} → CopiesOn n a b x y
    → faults_met a x ≤ faults_met b y
faults_come {n} {a} {b} {x} {y} p = omega (
  arith,
  ap length p.reader.faults,
  length-append a.faults p.reader.interrupts,
  ap length p.writer.only.faults,
  length-append x.faults p.writer.interrupts,
)
