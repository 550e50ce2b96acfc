-- What a run does that words ask for.
use Rattle.std.specs.Prelude.{◌≡◌, ◌≤◌, ◌+◌, ◌⊎◌, ℕ, List, [], ◌∷◌, ◌++◌, codes as text_codes, false, Option, None, Some, Result, Err, OnOk, MatchResult}
use Rattle.std.specs.declared.io.Error.{Error}
use Rattle.redux_buffer.specs.Faults.{MetInterrupts}
use Rattle.body_reader.specs.Coding.{IsBody}
use Rattle.body_reader.specs.declared.just_or_until.JustOrUntil.{JustOrUntil}
use Rattle.buffer_redux.specs.Block.{IsNew, Plain}
use Rattle.buffer_redux.specs.BufWriter.{WasFlushed}
use Rattle.buffer_redux.specs.Buffered.{Buffered}
use Rattle.buffer_redux.specs.StreamLog.{StreamLog}
use Rattle.buffer_redux.specs.declared.policy.StdPolicy.{StdPolicy}
use Rattle.multipart.specs.Multipart.{AreCodings, FormState, IsBegun, IsBoundary, codes, hyphens}
use Rattle.multipart.specs.declared.reader.Limits.{Limits}
use Rattle.programs.specs.Streams.{ReceivedFlushed}
use Rattle.parts.specs.Ending.{EndsAs}
use Rattle.parts.specs.Sections.{GetAnswers, SaysName, ListAnswers, NoneNamed, PartsBegin, Turn, list_lines}
use Rattle.parts.specs.declared.error.RunError.{RunError}
use Rattle.parts.specs.declared.error.RunError.TheVariants as Why
use Rattle.programs.specs.declared.ending.Ending.TheVariants.{Memory, Usage}
use Rattle.parts.specs.declared.ending.InputFault.{InputFault}
use Rattle.programs.specs.declared.outcome.Outcome.{Outcome}
use Rattle.programs.specs.declared.outcome.Outcome.TheVariants.{Usual}

-- the words that ask for the list of the parts, and for the part of a name
abbrev pub list_words : List ℕ → List (List ℕ)
list_words boundary = text_codes "list" ∷ boundary ∷ []

abbrev pub get_words : List ℕ → List ℕ → List (List ℕ)
get_words boundary name = text_codes "get" ∷ boundary ∷ name ∷ []

-- these words are neither
pub record NoneAsked (words : List (List ℕ)) : Type 0 where
  pub list : (boundary : List ℕ) → IsBoundary boundary → ¬ (words ≡ list_words boundary)
  pub get : (boundary name : List ℕ) → IsBoundary boundary → ¬ (words ≡ get_words boundary name)

-- these words ask for the list, or for the part of this name
abbrev pub Asks : List (List ℕ) → List ℕ → Option (List ℕ) → Type 0
Asks words boundary None = words ≡ list_words boundary
Asks words boundary (Some name) = words ≡ get_words boundary name

-- the limits of a run: heads of 16384 bytes, and so many parts
abbrev pub run_limits : Limits
run_limits = record { head = 16384; parts = 1000000 }

-- what was given is bytes in which some parts begin, the last of them the first of this name, then the whole text of that, and
-- then the rest
pub record GavePart (name : List ℕ) (texts heads : JustOrUntil) (payload : List ℕ) (read read' : StreamLog) : Type 0 where
  pub turn : Turn
  pub earlier : List Turn
  pub before : List ℕ
  pub text : List ℕ
  pub rest : List ℕ
  pub parts : PartsBegin texts heads (turn ∷ earlier) before
  pub named : SaysName name turn.head
  pub first : NoneNamed name earlier
  pub whole : IsBody (codes texts) text payload
  pub given : read'.reads.given ≡ read.reads.given ++ (before ++ (text ++ rest))

-- the payload of the first part of this name, which is what stands between the boundary in front and the one behind, was received
-- and flushed, and nothing else, and no write failed but that some were interrupted
pub record GotPart (name : List ℕ) (texts heads : JustOrUntil) (read read' written written' : StreamLog) : Type 0 where
  pub payload : List ℕ
  pub gave : GavePart name texts heads payload read read'
  pub received : written'.writes.received ≡ written.writes.received ++ payload
  pub flushed : ReceivedFlushed written'
  pub met : MetInterrupts written.writes written'.writes

-- the whole body was given, to its end: these parts begin, then come the whole text of the last of them, and two hyphens; and the
-- lines of all were received and flushed, and no write failed but that some were interrupted
pub record ListedAll (texts heads : JustOrUntil) (read read' written written' : StreamLog) : Type 0 where
  pub turns : List Turn
  pub before : List ℕ
  pub bytes : List ℕ
  pub text : List ℕ
  pub rest : List ℕ
  pub parts : PartsBegin texts heads turns before
  pub whole : IsBody (codes texts) bytes text
  pub given : read'.reads.given ≡ read.reads.given ++ ((before ++ (bytes ++ hyphens)) ++ rest)
  pub received : written'.writes.received ≡ written.writes.received ++ list_lines turns text
  pub flushed : ReceivedFlushed written'
  pub met : MetInterrupts written.writes written'.writes

module _ {T : Type 0} (tells : T → StreamLog) (trace : T → T → Type 0) where
  -- behind such an answer the writer was flushed, and a fault of that is the answer
  pub record FlushedBehind (answer : Result (Unit {0}) RunError) (u : Buffered T StdPolicy) (last : Result (Unit {0}) RunError)
      (v : Buffered T StdPolicy) : Type 0 where
    pub flush : Result (Unit {0}) Error
    pub flushes : WasFlushed tells trace u flush v
    pub last_is : MatchResult flush (λ _. last ≡ answer) (λ e. last ≡ Err (Why.Write e))

  -- the writer was flushed, unless a write failed
  abbrev pub FlushedUnless : Result (Unit {0}) RunError → Buffered T StdPolicy → Result (Unit {0}) RunError
      → Buffered T StdPolicy → Type 0
  FlushedUnless (Err (Why.Write e)) u last v = (last ≡ Err (Why.Write e)) × (v ≡ u)
  FlushedUnless answer u last v = FlushedBehind answer u last v

  -- how a run with this answer was ended: it said so, and the writer was left so
  pub record WasEnded (answer : Result (Unit {0}) RunError) (v : Buffered T StdPolicy) (ending : Outcome InputFault)
      (written' : StreamLog) : Type 0 where
    pub last : Result (Unit {0}) RunError
    pub w : Buffered T StdPolicy
    pub flushed : FlushedUnless answer v last w
    pub written_to : written' ≡ w.log
    pub ends : EndsAs last ending

-- what was sent of a body of which all was done: the lines of its parts, or the text of the first of this name
abbrev pub RunSent : Option (List ℕ) → JustOrUntil → JustOrUntil → StreamLog → StreamLog → StreamLog → StreamLog → Type 0
RunSent None = ListedAll
RunSent (Some name) = GotPart name

-- the buffers of a run were refused
pub record RanNot (ending : Outcome InputFault) (read read' written written' : StreamLog) : Type 0 where
  pub memory : ending ≡ Usual Memory
  pub read_same : read' ≡ read
  pub written_same : written' ≡ written

module _ {S T : Type 0} (remaining : S → Option (List ℕ)) (tells : T → StreamLog) (trace : T → T → Type 0) where
  -- what comes of listing the parts, or of writing the text of the first of this name
  abbrev pub RunAnswers : Option (List ℕ) → FormState S StdPolicy → Buffered T StdPolicy → Result (Unit {0}) RunError
      → FormState S StdPolicy → Buffered T StdPolicy → Type 0
  RunAnswers None = ListAnswers tells trace
  RunAnswers (Some name) = GetAnswers tells trace name

  -- what a run did of which that comes, and that ended so: at Done that was sent. The writer was flushed once at most
  pub record DidSo (name : Option (List ℕ)) (s : FormState S StdPolicy) (u : Buffered T StdPolicy) (ending : Outcome InputFault)
      (read' written' : StreamLog) : Type 0 where
    pub answer : Result (Unit {0}) RunError
    pub t : FormState S StdPolicy
    pub v : Buffered T StdPolicy
    pub did : RunAnswers name s u answer t v
    pub read_to : read' ≡ t.body.reader.log
    pub over : WasEnded tells trace answer v ending written'
    pub once : written'.writes.flushes ≤ u.log.writes.flushes + 1
    pub sent : OnOk over.last (RunSent name s.body.coding s.other s.body.reader.log read' u.log written')

  -- the same of a body with this boundary from the streams on, through plain buffers of 16384 bytes, which are empty at first
  pub record RanSo (name : Option (List ℕ)) (boundary : List ℕ) (ending : Outcome InputFault)
      (read read' written written' : StreamLog) : Type 0 where
    pub s : FormState S StdPolicy
    pub u : Buffered T StdPolicy
    pub begun : IsBegun s.body.reader boundary run_limits s
    pub codings : AreCodings false s.body.coding s.other
    pub source : IsNew Plain 16384 s.body.reader.block
    pub target : IsNew Plain 16384 u.block
    pub read_from : s.body.reader.log ≡ read
    pub written_from : u.log ≡ written
    pub did : DidSo name s u ending read' written'

  -- what a run did, and that it ended so: these words ask for nothing, and no stream was called; or they do, and the buffers were
  -- refused, or it did that
  abbrev pub RunDid : List (List ℕ) → Outcome InputFault → StreamLog → StreamLog → StreamLog → StreamLog → Type 0
  RunDid words ending read read' written written' =
      (NoneAsked words × (ending ≡ Usual Usage) × (read' ≡ read) × (written' ≡ written))
      ⊎ ((boundary : List ℕ) × (name : Option (List ℕ)) × IsBoundary boundary × Asks words boundary name
      × (RanNot ending read read' written written' ⊎ RanSo name boundary ending read read' written written'))
