-- What a scripted stream answers, and what contracts see of one.
use Rattle.std.specs.Prelude.{◌≡◌, ℕ, zero, suc, List, [], ◌∷◌, ◌++◌, min, drop, Result, Ok, Err, IsErrAnd}
use Rattle.std.specs.IoError.{error_kind}
use Rattle.std.specs.declared.io.Error.{Error}
use Rattle.std.specs.declared.io.ErrorKind.{ErrorKind}
use Rattle.std.specs.declared.io.ErrorKind.TheVariants.{Interrupted, OutOfMemory}
use Rattle.std.specs.declared.io.traits.SeekFrom.{SeekFrom}
use Rattle.redux_script.specs.declared.Answer.{Answer}
use Rattle.redux_script.specs.declared.Answer.TheVariants.{Serve, Fail, Interrupt, ServeEach}
use Rattle.redux_script.specs.declared.Script.{Script}
use Rattle.redux_script.specs.declared.reader.ScriptReader.{ScriptReader}
use Rattle.redux_script.specs.declared.writer.ScriptWriter.{ScriptWriter}
use Rattle.redux_script.specs.declared.seeker.ScriptSeeker.{ScriptSeeker}

-- one answer of a scripted stream: at most so many bytes, or a fault
pub data Reply : Type 0 where
  Serves : ℕ → Reply
  Fails : ErrorKind → Reply

-- what is left of a script: how many `Interrupted` come first, what each call serves at most, and the answers after that
pub record Plan : Type 0 where
  pub interrupts : ℕ
  pub most : ℕ
  pub answers : List Answer

-- the next answer, and what is left after it
pub record NextReply : Type 0 where
  pub reply : Reply
  pub left : Plan

abbrev pub step_from : ℕ → ℕ → List Answer → NextReply
step_from (suc k) most answers = record
    { reply = Fails Interrupted; left = record { interrupts = k; most = most; answers = answers } }
step_from zero most [] = record { reply = Serves most; left = record { interrupts = 0; most = most; answers = [] } }
step_from zero most (Serve n ∷ answers) = record
    { reply = Serves (min n most); left = record { interrupts = 0; most = most; answers = answers } }
step_from zero most (Fail kind ∷ answers) = record
    { reply = Fails kind; left = record { interrupts = 0; most = most; answers = answers } }
step_from zero most (Interrupt n ∷ answers) = step_from n most answers
step_from zero most (ServeEach n ∷ answers) = step_from 0 n answers

-- what is left of a script, and the lengths of the slices that were offered so far
pub record Progress : Type 0 where
  pub plan : Plan
  pub offers : List ℕ

-- a call gives what the reply says, within the room
abbrev pub Replies : Reply → ℕ → Result ℕ Error → Type 0
Replies (Serves most) room (Ok n) = n ≡ min most room
Replies (Serves most) room (Err e) = ⊥
Replies (Fails kind) room (Ok n) = ⊥
Replies (Fails kind) room (Err e) = error_kind e ≡ kind

-- a call that was noted, which offered so many bytes, with room for so many, goes by the next answer
pub record Answers (old : Progress) (offered room : ℕ) (answer : Result ℕ Error) (new : Progress) : Type 0 where
  pub noted : new.offers ≡ old.offers ++ offered ∷ []
  pub plan : new.plan ≡ (step_from old.plan.interrupts old.plan.most old.plan.answers).left
  pub reply : Replies (step_from old.plan.interrupts old.plan.most old.plan.answers).reply room answer

-- a call that could not be noted, of a reader, a writer or a seeker, changes nothing
pub record RunsOut {P : Type 0} (old : P) (answer : Result ℕ Error) (new : P) : Type 0 where
  pub kind : IsErrAnd answer (λ e. error_kind e ≡ OutOfMemory)
  pub unchanged : new ≡ old

abbrev pub progress_of : Script → Progress
progress_of s = record
    { plan = record { interrupts = s.interrupts; most = s.most; answers = s.answers.items }; offers = s.offers.items }

-- what contracts see of a `ScriptReader`: its progress, how many bytes it has served, and those that are left
abbrev pub reader_progress : ScriptReader → Progress
reader_progress r = progress_of r.script

abbrev pub served_count : ScriptReader → ℕ
served_count r = r.served

abbrev pub unserved_bytes : ScriptReader → List ℕ
unserved_bytes r = drop r.served r.bytes.items

-- what contracts see of a `ScriptWriter`: its progress, the bytes that it took, and how often it was flushed
abbrev pub writer_progress : ScriptWriter → Progress
writer_progress w = progress_of w.script

abbrev pub taken_bytes : ScriptWriter → List ℕ
taken_bytes w = w.taken.items

abbrev pub flush_count : ScriptWriter → ℕ
flush_count w = w.flushes

-- what is left of the script of a `ScriptSeeker`, and where it was asked to go so far
pub record SeekProgress : Type 0 where
  pub answers : List (Result ℕ ErrorKind)
  pub targets : List SeekFrom

-- a seek returns the next answer of the script, and `Ok(0)` after the script
abbrev pub SeekReplies : List (Result ℕ ErrorKind) → Result ℕ Error → Type 0
SeekReplies [] answer = answer ≡ Ok 0
SeekReplies (Ok position ∷ answers) answer = answer ≡ Ok position
SeekReplies (Err kind ∷ answers) answer = IsErrAnd answer (λ e. error_kind e ≡ kind)

-- a seek that was noted goes by the next answer
pub record SeekAnswers (old : SeekProgress) (to : SeekFrom) (answer : Result ℕ Error) (new : SeekProgress)
    : Type 0 where
  pub noted : new.targets ≡ old.targets ++ to ∷ []
  pub left : new.answers ≡ drop 1 old.answers
  pub reply : SeekReplies old.answers answer

-- what contracts see of a `ScriptSeeker`: its progress, and the stream inside
abbrev pub seeker_progress : {S : Type 0} → ScriptSeeker S → SeekProgress
seeker_progress s = record { answers = s.answers.items; targets = s.targets.items }

abbrev pub seeker_stream : {S : Type 0} → ScriptSeeker S → S
seeker_stream s = s.stream
