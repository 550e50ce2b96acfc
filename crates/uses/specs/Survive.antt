-- What goes from a buffered reader into a list, over faults that pass.
use Rattle.std.specs.Prelude.{◌≡◌, ℕ, ◌+◌, ◌<◌, ◌≤◌, ◌⊎◌, List, [], ◌∷◌, ◌++◌, length, All, Option, Result, MatchResult}
use Rattle.std.specs.IoError.{error_kind}
use Rattle.std.specs.declared.io.Error.{Error}
use Rattle.std.specs.declared.io.ErrorKind.TheVariants.{Interrupted, TimedOut, WouldBlock}
use Rattle.buffer_redux.specs.Policy.{ReadRules}
use Rattle.buffer_redux.specs.Buffered.{Buffered}
use Rattle.buffer_redux.specs.BufReader.{ReadsAlong}
use Rattle.buffer_redux.specs.Faults.{IsMemory}
use Rattle.uses.specs.LineCount.{CameTooMuch}

-- the list gained just the bytes that the reader handed out
pub record Gains {S P : Type 0} (remaining : S → Option (List ℕ)) (rules : ReadRules P)
    (s : Buffered S P) (old : List ℕ) (t : Buffered S P) (new : List ℕ) : Type 0 where
  pub handed : List ℕ
  pub along : ReadsAlong remaining rules s handed t
  pub gained : new ≡ old ++ handed

-- a fault after which reading may go on
abbrev pub MayGoOn : Error → Type 0
MayGoOn e = (error_kind e ≡ Interrupted) ⊎ ((error_kind e ≡ WouldBlock) ⊎ (error_kind e ≡ TimedOut))

-- memory was refused, and more is buffered than there was room for
pub record RoomRefused {S P : Type 0} (e : Error) (room : ℕ) (t : Buffered S P) : Type 0 where
  pub memory : IsMemory e
  pub more : room < length t.block.bytes

-- what a patient reader met, into a list that has so much room: at most so many faults, all of which pass. An error came behind
-- them, and doesn't pass, or comes once more; or room was refused, or too much came
abbrev pub Endures : {S P : Type 0} → ℕ → Result (Unit {0}) Error → ℕ → Buffered S P → Buffered S P → Type 0
Endures most answer room s t = (met : List Error) × (length met ≤ most) × All MayGoOn met × MatchResult answer
    (λ _. t.log.reads.faults ≡ s.log.reads.faults ++ met)
    (λ e. ((t.log.reads.faults ≡ (s.log.reads.faults ++ met) ++ e ∷ []) × (MayGoOn e → length met ≡ most))
    ⊎ ((t.log.reads.faults ≡ s.log.reads.faults ++ met) × (RoomRefused e room t ⊎ CameTooMuch e (length met + 1) s t)))

-- one turn met no fault, and handed out so many bytes
pub record TurnMoved {S P : Type 0} (n : ℕ) (s t : Buffered S P) : Type 0 where
  pub none : t.log.reads.faults ≡ s.log.reads.faults
  pub count : length s.block.bytes + length t.log.reads.given
      ≡ n + (length t.block.bytes + length s.log.reads.given)

-- one turn failed: the reader inside did, or room was refused
abbrev pub TurnFailed : {S P : Type 0} → Error → ℕ → Buffered S P → Buffered S P → Type 0
TurnFailed e room s t = (t.log.reads.faults ≡ s.log.reads.faults ++ e ∷ [])
    ⊎ (RoomRefused e room t × (t.log.reads.faults ≡ s.log.reads.faults))
