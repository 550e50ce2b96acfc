-- What spares a number: a call of a policy that claims to, and a read into the buffer.
use Rattle.std.proofs.Common.{◌≡◌, ℕ, length, Result, Option, None, Some, ap, arith, length-append}
use Rattle.std.specs.Bool.{⊤}
use Rattle.std.specs.declared.io.Error.{Error}
use Rattle.redux_buffer.specs.Potential.{of_plain, potential-append}
use Rattle.redux_buffer.specs.StreamLog.{portion}
use Rattle.redux_buffer.specs.Transfer.{ReadsOnce}
use Rattle.buffer_redux.specs.Policy.{ClaimsToSpare, Lawful, Spares}
use Rattle.buffer_redux.specs.Buffered.{Buffered}
use Rattle.buffer_redux.specs.Sparing.{Spared}
use Rattle.std.specs.Prelude.{IfSome}

module _ {S P Q : Type 0} (keep : ℕ) (s : Buffered S P) (t : Buffered S Q) where
  pub Spared-asked : (o : Option ℕ) → ClaimsToSpare o keep → Lawful s.block t.block
      → IfSome o (λ n. Spares n s.block t.block) → t.log ≡ s.log → Spared keep s t
  Spared-asked None claims law spares told = absurd claims
  Spared-asked (Some n) claims law spares told = record {
    kind = law.kind;
    capacity = law.capacity;
    plain = λ plain three.
        let p = of_plain s.block.kind _ ⊤ plain spares in
        record { moved = p.0; held = omega (arith, p.1 keep claims three, ap (λ l. length l.reads.given) told) };
  }

  pub Spared-read : (answer : Result ℕ Error) → ReadsOnce s.block s.log answer t.block t.log → Spared keep s t
  Spared-read answer read =
      let came = portion read.out answer in
      let more = ap (λ l. length l.reads.given) read.told in
      let sum = length-append s.log.reads.given came in
      record {
        kind = read.added.kind;
        capacity = omega (arith, read.added.capacity);
        plain = λ plain three.
            let h = potential-append came s.block t.block read.added plain in
            record { moved = h.0; held = omega (arith, h.1 keep, more, sum) };
      }
