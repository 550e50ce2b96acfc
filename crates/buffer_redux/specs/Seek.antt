-- Which seeks a seek of a buffered reader makes, and what it does to the reader.
use Rattle.std.specs.Prelude.{◌≡◌, ℕ, pos, ◌-◌, ◌^◌, ◌-ℤ◌, neg_ℤ, nat_le, int_le, ◌⊎◌, length, Option, None, Some, Result, Ok, Err, MatchResult, OnOk, OnErr, if◌then◌else◌}
use Rattle.std.specs.declared.io.Error.{Error}
use Rattle.std.specs.declared.io.traits.SeekFrom.{SeekFrom}
use Rattle.std.specs.declared.io.traits.SeekFrom.TheVariants.{Start, End, Current}
use Rattle.std.specs.Option.{option_and_then}
use Rattle.redux_buffer.specs.Block.{Clears}
use Rattle.redux_buffer.specs.StreamLog.{Readies, SeekTells}
use Rattle.buffer_redux.specs.declared.buf_reader.seek.SeekPlan.{SeekPlan}
use Rattle.buffer_redux.specs.declared.buf_reader.seek.SeekPlan.TheVariants.{One, Two}
use Rattle.buffer_redux.specs.Buffered.{Buffered}

-- the plan of a seek with len bytes buffered, by which the stream inside is ahead of the reader: two seeks where no i64 is
-- so small
abbrev pub plan_for : SeekFrom → ℕ → SeekPlan
plan_for (Start n) len = One (Start n)
plan_for (End n) len = One (End n)
plan_for (Current n) len =
    if int_le (neg_ℤ (pos (2 ^ 63))) (n -ℤ pos len) then One (Current (n -ℤ pos len)) else Two (neg_ℤ (pos len)) n

-- one seek of the stream inside: an Ok empties the buffer, a fault leaves it
pub record SeeksOnce {S P : Type 0} (readies : Readies) (to : SeekFrom) (s : Buffered S P) (answer : Result ℕ Error)
    (t : Buffered S P) : Type 0 where
  pub told : SeekTells readies s.log to answer t.log
  pub noted : t.own_calls ≡ s.own_calls
  pub policy : t.policy ≡ s.policy
  pub block : MatchResult answer (λ _. Clears s.block t.block) (λ _. t.block ≡ s.block)

-- one seek, or two from where the stream inside is, the second where the first didn't fail
abbrev pub Seeks : {S P : Type 0} → Readies → SeekPlan → Buffered S P → Result ℕ Error → Buffered S P → Type 0
Seeks readies (One to) s answer t = SeeksOnce readies to s answer t
Seeks {S} {P} readies (Two first second) s answer t = (between : Buffered S P) × (answered : Result ℕ Error)
    × SeeksOnce readies (Current first) s answered between
    × MatchResult answered (λ _. SeeksOnce readies (Current second) between answer t)
    (λ e. (answer ≡ Err e) × (t ≡ between))

-- what a seek leaves of the reader: an Ok dropped what was buffered, an Err dropped all of it or nothing, and neither
-- policy nor reads were touched
pub record SeekLeaves {S P A : Type 0} (s : Buffered S P) (answer : Result A Error) (t : Buffered S P) : Type 0 where
  pub policy : t.policy ≡ s.policy
  pub reads : t.log.reads ≡ s.log.reads
  pub noted : t.own_calls ≡ s.own_calls
  pub ok : OnOk answer (Clears s.block t.block)
  pub err : OnErr answer ((t.block ≡ s.block) ⊎ Clears s.block t.block)

-- where a reader is known to stand: before the stream inside by the bytes that are buffered
abbrev pub reader_position : {S P : Type 0} → (S → Option ℕ) → Buffered S P → Option ℕ
reader_position position r = option_and_then
    (λ place. if nat_le (length r.block.bytes) place then Some (place - length r.block.bytes) else None) (position r.inner)

-- a seek's answer without the place
abbrev pub WithoutPlace : (Result ℕ Error → Type 0) → Result (Unit {0}) Error → Type 0
WithoutPlace sought answer =
    (place : Result ℕ Error) × sought place × MatchResult place (λ _. answer ≡ Ok tt) (λ e. answer ≡ Err e)

-- one seek, as it is planned from where the reader stands, and its answer without the place
abbrev pub SeeksTo : {S P : Type 0} → Readies → SeekFrom → Buffered S P → Result (Unit {0}) Error → Buffered S P → Type 0
SeeksTo readies to s answer t =
    WithoutPlace (λ place. Seeks readies (plan_for to (length s.block.bytes)) s place t × SeekLeaves s place t) answer
