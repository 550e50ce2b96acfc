-- The calls of a buffered writer as steps, and whole runs of them.
use Rattle.std.specs.Prelude.{◌≡◌, ℕ, ◌<◌, ◌≤◌, List, [], ◌∷◌, ◌++◌, length, take, Ok, Err, Bool, MatchBool}
use Rattle.redux_buffer.specs.Block.{MakesRoom, Reserves, usable}
use Rattle.redux_buffer.specs.GrowError.{GrowthRefused}
use Rattle.redux_buffer.specs.StreamLog.{StreamLog}
use Rattle.redux_play.specs.declared.play.WriterCall.{WriterCall}
use Rattle.redux_play.specs.declared.play.WriterCall.TheVariants.{Write, Flush, MakeRoom, Reserve}
use Rattle.redux_play.specs.declared.play.WriterAnswer.{WriterAnswer}
use Rattle.redux_play.specs.declared.play.WriterAnswer.TheVariants.{Count, Done, Fault, Refused}
use Rattle.buffer_redux.specs.Policy.{WriteRules}
use Rattle.buffer_redux.specs.Buffered.{Buffered, with_block}
use Rattle.buffer_redux.specs.BufWriter.{WriteErrorCaused, EmptyWriteCaused, WasFlushed, Writes, WritesAlong}
use Rattle.redux_play.specs.PlayRoom.{FaultOf, Runs}

-- the bytes that a call with this answer took in: the first k of a write that returned `Ok(k)`, and of all calls
abbrev pub bytes_accepted_by : WriterCall → WriterAnswer → List ℕ
bytes_accepted_by (Write bs) (Count k) = take k bs.now
bytes_accepted_by call answer = []

abbrev pub accepted_bytes : List WriterCall → List WriterAnswer → List ℕ
accepted_bytes [] answers = []
accepted_bytes (call ∷ calls) [] = []
accepted_bytes (call ∷ calls) (answer ∷ answers) = bytes_accepted_by call answer ++ accepted_bytes calls answers

-- what this answer to this call says of the writer before and after; other pairs are no steps
abbrev pub WriterAnswers : {S P : Type 0} → (S → StreamLog) → (S → S → Type 0) → WriteRules P → Buffered S P → WriterCall
    → WriterAnswer → Buffered S P → Type 0
WriterAnswers tells trace rules s (Write bs) (Count k) t = (k ≤ length bs.now)
    × (k ≡ 0 → 0 < length bs.now → EmptyWriteCaused rules s bs.now t) × Writes rules s bs.now (Ok k) t
WriterAnswers tells trace rules s (Write bs) (Fault kind) t =
    FaultOf kind (λ e. WriteErrorCaused rules s bs.now (Err e) t × Writes rules s bs.now (Err e) t)
WriterAnswers tells trace rules s Flush Done t = WasFlushed tells trace s (Ok tt) t
WriterAnswers tells trace rules s Flush (Fault kind) t = FaultOf kind (λ e. WasFlushed tells trace s (Err e) t)
WriterAnswers tells trace rules s MakeRoom Done t = MakesRoom s.block t.block × (t ≡ with_block s t.block)
WriterAnswers tells trace rules s (Reserve a) Done t =
    Reserves a s.block t.block × (a ≤ usable t.block) × (t ≡ with_block s t.block)
WriterAnswers tells trace rules s (Reserve a) (Refused e) t = GrowthRefused a s.block e × (t ≡ s)
WriterAnswers tells trace rules s call answer t = ⊥

-- one call with its answer
pub record WriterStep {S P : Type 0} (tells : S → StreamLog) (trace : S → S → Type 0) (rules : WriteRules P)
    (s : Buffered S P) (call : WriterCall) (answer : WriterAnswer) (t : Buffered S P) : Type 0 where
  pub accepts : WritesAlong tells trace rules s (bytes_accepted_by call answer) t
  pub answers : WriterAnswers tells trace rules s call answer t

-- what was played: the answers that were gained are a run of the first calls, as many as there are answers; at Ok these
-- are all calls, and else some are left, of which none was begun
pub record WriterPlays {S P : Type 0} (tells : S → StreamLog) (trace : S → S → Type 0) (rules : WriteRules P)
    (s : Buffered S P) (calls : List WriterCall) (old : List WriterAnswer) (ok : Bool) (new : List WriterAnswer)
    (t : Buffered S P) : Type 0 where
  pub answers : List WriterAnswer
  pub gained : new ≡ old ++ answers
  pub run : Runs (WriterStep tells trace rules) s (take (length answers) calls) answers t
  pub ended : MatchBool ok (length answers ≡ length calls) (length answers < length calls)
  pub accepts : WritesAlong tells trace rules s (accepted_bytes (take (length answers) calls) answers) t
