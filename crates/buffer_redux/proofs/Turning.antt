-- Each way through one turn of filling.
use Rattle.std.proofs.Common.{◌≡◌, ℕ, ◌<◌, Bool, true, false, Result, Ok, sym, subst}
use Rattle.std.specs.declared.io.Error.{Error}
use Rattle.redux_buffer.specs.Block.{Block, usable}
use Rattle.redux_buffer.specs.Transfer.{ReadsFrom}
use Rattle.buffer_redux.specs.declared.policy.DoRead.{DoRead}
use Rattle.buffer_redux.specs.Policy.{ReadRules, BeforeRead, no_read, read_now}
use Rattle.buffer_redux.specs.Buffered.{Buffered}
use Rattle.buffer_redux.specs.Fill.{Answered, Ordered}

module _ {S P : Type 0} (rules : ReadRules P) (s : Buffered S P) where
  -- the answer as the rules name it
  asked_as : (d : DoRead) (v : Bool) (p : P) (b : Block) → BeforeRead rules s.policy s.block (Ok d) p b
      → d.0 ≡ v → BeforeRead rules s.policy s.block (Ok (record { 0 = v })) p b
  asked_as d v p b a e = subst (λ w. BeforeRead rules s.policy s.block (Ok (record { 0 = w })) p b) e a

  pub declined_made : (d : DoRead) (t : Buffered S P)
      → BeforeRead rules s.policy s.block (Ok d) t.policy t.block → d.0 ≡ false
      → t.log ≡ s.log → Answered rules no_read s t
  declined_made d t a e same = record { asked = asked_as d false t.policy t.block a e; told = same }

  pub full_made : (d : DoRead) (t : Buffered S P) → BeforeRead rules s.policy s.block (Ok d) t.policy t.block
      → d.0 ≡ true → usable t.block ≡ 0 → t.log ≡ s.log → (usable t.block ≡ 0) × Answered rules read_now s t
  full_made d t a e full same = (full, record { asked = asked_as d true t.policy t.block a e; told = same })

  -- the policy ordered a read, and this was its answer
  pub ordered_made : (t : Buffered S P) (d : DoRead) (p : P) (b : Block) → BeforeRead rules s.policy s.block (Ok d) p b
      → d.0 ≡ true → 0 < usable b → t.policy ≡ p → (answer : Result ℕ Error) → ReadsFrom b s.log answer t.block t.log
      → Ordered rules answer s t
  ordered_made t d p b asked says room same answer read = record {
    seen = b;
    asked = subst (λ x. BeforeRead rules s.policy s.block read_now x b) (sym same) (asked_as d true p b asked says);
    room = room;
    read = read.read room;
  }
