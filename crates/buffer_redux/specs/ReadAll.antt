-- What a read of a whole slice promises: a read after another, into what is left of it, where one was short or interrupted.
use Rattle.std.specs.Prelude.{◌≡◌, ℕ, ◌+◌, ◌<◌, ◌≤◌, List, ◌++◌, length, take, drop, Result, Ok, Option, MatchResult, zero, suc}
use Rattle.std.specs.Io.{ReadsAtMost}
use Rattle.std.specs.declared.io.Error.{Error}
use Rattle.std.specs.declared.io.ErrorKind.TheVariants.{UnexpectedEof}
use Rattle.redux_buffer.specs.Block.{IsBlock}
use Rattle.redux_buffer.specs.Retried.{Retried, Step}
use Rattle.redux_buffer.specs.StreamLog.{portion}
use Rattle.buffer_redux.specs.Policy.{ReadRules}
use Rattle.buffer_redux.specs.AllBytes.{EndsBy}
use Rattle.buffer_redux.specs.Buffered.{Buffered}
use Rattle.buffer_redux.specs.BufReader.{Reads, ReadsInOrder, ReaderKeeps, ReadErrorCaused, EmptyReadCaused}

-- what each read tells of its slice
pub record SliceRead {T : Type 0} (handed : T → List ℕ → T → Type 0) (s : T) (was : List ℕ) (answer : Result ℕ Error)
    (slice : List ℕ) (t : T) : Type 0 where
  pub bound : ReadsAtMost answer slice
  pub size : length slice ≡ length was
  pub front : handed s (portion slice answer) t

-- one read of a reader into a slice, which both are what a row of such reads changes
abbrev pub SliceStep : {T : Type 0} → (T → List ℕ → Result ℕ Error → List ℕ → T → Type 0) → Step (T × List ℕ) ℕ
SliceStep reads s answer t = reads s.0 s.1 answer t.1 t.0

-- this many turns, one after another, filled the first `count` bytes of a slice that held `was`, and left it as `out`: each was
-- a read into what was left of it, made again where it was interrupted, that handed some out
abbrev pub ReadTurns : {T : Type 0} → (T → List ℕ → Result ℕ Error → List ℕ → T → Type 0) → List ℕ → ℕ → ℕ → List ℕ → T → T
    → Type 0
ReadTurns reads was zero count out s t = (count ≡ 0) × (out ≡ was) × (s ≡ t)
ReadTurns {T} reads was (suc k) count out s t =
    (before : ℕ) × (left : List ℕ) × (m : T) × ReadTurns reads was k before left s m × record {
      fewer : before < length left;
      further : ℕ;
      some : 0 < further;
      slice : List ℕ;
      row : Retried (SliceStep reads) (m, drop before left) (Ok further) (t, slice);
      adds : count ≡ before + further;
      stands : out ≡ take before left ++ slice;
    }

-- what `read_exact` does by such reads, whose slice held `was` and holds `out`: turns filled its first `count` bytes, and left it
-- as `left`. At `Ok` these are all; at `Err` one more ended it, which handed nothing out
pub record FillsSlice {T : Type 0} (reads : T → List ℕ → Result ℕ Error → List ℕ → T → Type 0) (handed : T → List ℕ → T → Type 0)
    (s : T) (was : List ℕ) (answer : Result (Unit {0}) Error) (out : List ℕ) (t : T) : Type 0 where
  pub turns : ℕ
  pub count : ℕ
  pub within : count ≤ length out
  pub left : List ℕ
  pub last : T
  pub run : ReadTurns reads was turns count left s last
  pub first : handed s (take count out) last
  pub front : handed s (take count out) t
  pub ended : MatchResult answer (λ _. (count ≡ length out) × (out ≡ left) × (t ≡ last)) (λ e. record {
    fewer : count < length out;
    answer : Result ℕ Error;
    ends : EndsBy UnexpectedEof answer e;
    slice : List ℕ;
    row : Retried (SliceStep reads) (last, drop count left) answer (t, slice);
    stands : out ≡ take count left ++ slice;
  })

-- just these bytes were handed out, and none was lost or changed place
pub record HandedFront {S P : Type 0} (remaining : S → Option (List ℕ)) (rules : ReadRules P)
    (s : Buffered S P) (handed : List ℕ) (t : Buffered S P) : Type 0 where
  pub in_order : ReadsInOrder s handed t
  pub keeps : ReaderKeeps remaining rules s t

-- one read into a slice that held `was`, which left it as `slice`, with what `read` promises, of which the rest follows
pub record OneRead {S P : Type 0} (remaining : S → Option (List ℕ)) (rules : ReadRules P)
    (s : Buffered S P) (was : List ℕ) (answer : Result ℕ Error) (slice : List ℕ) (t : Buffered S P) : Type 0 where
  pub whole : IsBlock s.block
  pub bound : ReadsAtMost answer slice
  pub steps : Reads rules s was answer slice t
  pub front : HandedFront remaining rules s (portion slice answer) t
  pub caused : ReadErrorCaused rules s answer t
  pub empty : answer ≡ Ok 0 → 0 < length slice → EmptyReadCaused rules s t

-- what `read_exact` of a buffered reader does
abbrev pub ReadsExactly : {S P : Type 0} → (S → Option (List ℕ)) → ReadRules P → Buffered S P → List ℕ
    → Result (Unit {0}) Error → List ℕ → Buffered S P → Type 0
ReadsExactly remaining rules = FillsSlice (OneRead remaining rules) (HandedFront remaining rules)
