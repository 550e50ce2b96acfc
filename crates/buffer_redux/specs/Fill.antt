-- What filling a buffered reader does, turn by turn.
use Rattle.std.specs.Prelude.{◌≡◌, ℕ, ◌<◌, ◌⊎◌, Result, Ok, Err, zero, suc}
use Rattle.std.specs.declared.io.Error.{Error}
use Rattle.redux_buffer.specs.Block.{Block, usable}
use Rattle.redux_buffer.specs.Transfer.{ReadsOnce}
use Rattle.buffer_redux.specs.declared.policy.DoRead.{DoRead}
use Rattle.buffer_redux.specs.Policy.{ReadRules, BeforeRead, no_read, read_now}
use Rattle.buffer_redux.specs.Buffered.{Buffered}

-- the policy gave this answer, and nothing was read
pub record Answered {S P : Type 0} (rules : ReadRules P) (answer : Result DoRead Error) (s t : Buffered S P) : Type 0 where
  pub asked : BeforeRead rules s.policy s.block answer t.policy t.block
  pub told : t.log ≡ s.log

-- the policy ordered a read and left room, and the reader gave this answer
pub record Ordered {S P : Type 0} (rules : ReadRules P) (answer : Result ℕ Error) (s t : Buffered S P) : Type 0 where
  pub seen : Block
  pub asked : BeforeRead rules s.policy s.block read_now t.policy seen
  pub room : 0 < usable seen
  pub read : ReadsOnce seen s.log answer t.block t.log

-- in each of so many turns a read was ordered, and the reader gave some bytes
abbrev pub Turns : {S P : Type 0} → ReadRules P → ℕ → Buffered S P → Buffered S P → Type 0
Turns rules zero s t = s ≡ t
Turns {S} {P} rules (suc k) s t =
    (m : Buffered S P) × Turns rules k s m × (count : ℕ) × (0 < count) × Ordered rules (Ok count) m t

-- the policy said no, or left no room, or the reader gave nothing; or one of them returned this error
abbrev pub Ends : {S P A : Type 0} → ReadRules P → Buffered S P → Result A Error → Buffered S P → Type 0
Ends rules s (Ok a) t =
    Answered rules no_read s t ⊎ (((usable t.block ≡ 0) × Answered rules read_now s t) ⊎ Ordered rules (Ok 0) s t)
Ends rules s (Err e) t = Answered rules (Err e) s t ⊎ Ordered rules (Err e) s t

-- some turns, and then an end
pub record Filled {S P A : Type 0} (rules : ReadRules P) (s : Buffered S P) (answer : Result A Error) (t : Buffered S P)
    : Type 0 where
  pub count : ℕ
  pub last : Buffered S P
  pub turns : Turns rules count s last
  pub ends : Ends rules last answer t
