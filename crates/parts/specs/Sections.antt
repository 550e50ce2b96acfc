-- What stands in a multipart body, and how a run goes along in one.
use Rattle.std.specs.IoError.{error_kind}
use Rattle.std.specs.declared.io.Error.{Error}
use Rattle.std.specs.declared.io.ErrorKind.TheVariants.{Other}
use Rattle.multipart.specs.declared.error.PartError.{PartError}
use Rattle.multipart.specs.declared.error.PartError.TheVariants as part
use Rattle.std.specs.Prelude.{◌≡◌, ◌≢◌, ℕ, ◌^◌, ◌+◌, ◌-◌, ◌<◌, ◌≤◌, ◌⊎◌, List, [], ◌∷◌, ◌++◌, length, min, take, All, codes as text_codes, decimal, if◌then◌else◌, map, unwrap_or, Bool, true, false, Option, Some, Result, Ok, Err, IfErr, IfOk, MatchResult, OnOk}
use Rattle.std.specs.Char.{is_ascii_control}
use Rattle.std.specs.Option.{option_and_then}
use Rattle.redux_buffer.specs.Faults.{FaultsOften, IsInterrupt, MetInterrupts}
use Rattle.body_reader.specs.Between.{EachGave, FaultedOnce, GaveNothingOnce}
use Rattle.body_reader.specs.BodyReader.{BodyWent, EndsEarly, IsBodyReader, NoPayload, TookWholeBody, handed_of}
use Rattle.body_reader.specs.Coding.{IsBody}
use Rattle.body_reader.specs.declared.just_or_until.JustOrUntil.{JustOrUntil}
use Rattle.buffer_redux.specs.BufReader.{ReadsInOrder}
use Rattle.buffer_redux.specs.BufWriter.{AllAlong}
use Rattle.buffer_redux.specs.Buffered.{Buffered}
use Rattle.buffer_redux.specs.Policy.{std_read_rules, std_write_rules}
use Rattle.buffer_redux.specs.StreamLog.{StreamLog}
use Rattle.buffer_redux.specs.declared.policy.StdPolicy.{StdPolicy}
use Rattle.multipart.specs.Head.{IsPartHead}
use Rattle.multipart.specs.Multipart.{FormState, TurnsLast, codes, hyphens, is_full}
use Rattle.multipart.specs.declared.reader.Limits.{Limits}
use Rattle.multipart.specs.declared.reader.Stand.TheVariants.{Preamble, Part}
use Rattle.part_fields.specs.Fields.{field_of, parameter_of}
use Rattle.parts.specs.declared.error.RunError.{RunError}
use Rattle.parts.specs.declared.error.RunError.TheVariants.{Body, Many, Missing, Parts, Write}

-- where a boundary stands: the text in front of it, and what the head behind it says
pub record Turn : Type 0 where
  pub text : List ℕ
  pub head : List ℕ

-- what a parameter of a head's `Content-Disposition` says
abbrev pub said_of : List ℕ → List ℕ → Option (List ℕ)
said_of name head = option_and_then (λ value. parameter_of value name) (field_of head (text_codes "Content-Disposition"))

-- whose head says this name
abbrev pub SaysName : List ℕ → List ℕ → Type 0
SaysName name head = said_of (text_codes "name") head ≡ Some name

abbrev pub NoneNamed : List ℕ → List Turn → Type 0
NoneNamed name turns = All (λ turn. ¬ SaysName name turn.head) turns

-- a byte as it is printed: a control byte, as a tab or a line feed, is a `?`
abbrev pub printed : ℕ → ℕ
printed byte = if is_ascii_control byte then 63 else byte

-- what is said, as it is printed, or `-`, and a tab
abbrev pub column : Option (List ℕ) → List ℕ
column said = map printed (unwrap_or said (text_codes "-")) ++ 9 ∷ []

-- a part's line: its name, its file's name and its type, as its head says them, and this length
abbrev pub list_line : List ℕ → ℕ → List ℕ
list_line head len = column (said_of (text_codes "name") head) ++ (column (said_of (text_codes "filename") head)
    ++ (column (field_of head (text_codes "Content-Type")) ++ (decimal len ++ 10 ∷ [])))

-- the lines of the parts, of which the last stands first, and has this text. A length is told as far as a `u64` counts
abbrev pub list_lines : List Turn → List ℕ → List ℕ
list_lines [] text = []
list_lines (turn ∷ earlier) text = list_lines earlier turn.text ++ list_line turn.head (min (length text) (2 ^ 64 - 1))

module _ (texts heads : JustOrUntil) where
  -- a head that says this, and leads into a part
  pub record LeadsIn (said bytes : List ℕ) : Type 0 where
    pub whole : IsBody (codes heads) bytes said
    pub is_head : IsPartHead texts.until.delimiter said
    pub no_end : bytes ≢ hyphens

  -- these turns stand in these bytes, the last one, which stands first, behind all: behind each text a head follows
  abbrev pub PartsBegin : List Turn → List ℕ → Type 0
  PartsBegin [] bytes = bytes ≡ []
  PartsBegin (turn ∷ earlier) bytes = (before : List ℕ) × (text : List ℕ) × (head : List ℕ)
      × (bytes ≡ before ++ (text ++ head)) × PartsBegin earlier before × IsBody (codes texts) text turn.text
      × LeadsIn turn.head head

  module _ {S Q : Type 0} (first : Buffered S Q) (turns : List Turn) where
    -- in the text of the last of these parts, or before the first boundary
    pub record InText (before : List ℕ) (t : FormState S Q) : Type 0 where
      pub stands : (t.stand ≡ Preamble) ⊎ (t.stand ≡ Part)
      pub coding : t.body.coding ≡ texts
      pub other : t.other ≡ heads
      pub counted : t.parts ≡ length turns
      pub parts : PartsBegin turns before
      pub order : ReadsInOrder first (before ++ t.body.taken) t.body.reader

    -- behind the last text, which is this, in front of a boundary, these bytes were taken last
    pub record BehindText (text wire : List ℕ) (t : Buffered S Q) : Type 0 where
      pub before : List ℕ
      pub bytes : List ℕ
      pub parts : PartsBegin turns before
      pub whole : IsBody (codes texts) bytes text
      pub order : ReadsInOrder first (before ++ (bytes ++ wire)) t

    module _ (text : List ℕ) where
      -- behind the last boundary, and its two hyphens
      abbrev pub PassedAll : Buffered S Q → Type 0
      PassedAll t = BehindText text hyphens t × EachGave first t

      -- in a text, of which this came, or in the head behind one
      abbrev pub InSection : FormState S Q → Type 0
      InSection t = ((before : List ℕ) × InText before t × (text ≡ handed_of t.body))
          ⊎ BehindText text t.body.taken t.body.reader

      -- in a head, of which some that is buffered is refused
      pub record InHead (t : FormState S Q) : Type 0 where
        pub behind : BehindText text t.body.taken t.body.reader
        pub coding : TurnsLast (is_full t) heads t.body.coding
        pub inside : IsBodyReader (codes t.body.coding) t.body
        pub some : 0 < t.body.known
        pub gave : EachGave first t.body.reader

      -- why no part comes next: the stream ended within a text or a head, or failed there, or the text is longer than a run
      -- counts; or what is buffered of a head is refused: there are as many parts as may be; or with it a head would be longer
      -- than may be, or memory for that was refused, or no head is so
      abbrev pub NextFails : Limits → PartError → FormState S Q → Type 0
      NextFails limits part.Truncated t =
          InSection t × EndsEarly (codes t.body.coding) t.body × GaveNothingOnce first t.body.reader
      NextFails limits (part.Io e) t = InSection t
          × ((EndsEarly (codes t.body.coding) t.body × FaultedOnce first e t.body.reader)
          ⊎ ((error_kind e ≡ Other) × (2 ^ 64 - 1 ≤ length (handed_of t.body)) × EachGave first t.body.reader))
      NextFails limits part.ManyParts t = InHead t × (limits.parts ≤ length turns)
      NextFails limits part.LongHead t =
          InHead t × (length turns < limits.parts) × (limits.head < length (handed_of t.body) + t.body.known)
      NextFails limits part.Memory t =
          InHead t × (length turns < limits.parts) × (length (handed_of t.body) + t.body.known ≤ limits.head)
      NextFails limits part.Boundary t = InHead t × (length turns < limits.parts)
          × (length (handed_of t.body) + t.body.known ≤ limits.head)
          × ¬ IsPartHead texts.until.delimiter (handed_of t.body ++ take t.body.known t.body.reader.block.bytes)

-- in the last of these parts, or before the first
abbrev pub InTurns : {S : Type 0} → FormState S StdPolicy → List Turn → FormState S StdPolicy → Type 0
InTurns s turns t = (before : List ℕ) × InText s.body.coding s.other s.body.reader turns before t

-- in the first part of this name
pub record InNamed {S : Type 0} (name : List ℕ) (s t : FormState S StdPolicy) : Type 0 where
  pub turn : Turn
  pub earlier : List Turn
  pub inside : InTurns s (turn ∷ earlier) t
  pub named : SaysName name turn.head
  pub first : NoneNamed name earlier

-- why no part was begun behind these, of which the last has this text: there is none, or that failed, or there are as many as a
-- run counts
abbrev pub NoneBegins : {S : Type 0} → FormState S StdPolicy → List Turn → List ℕ → RunError → FormState S StdPolicy → Type 0
NoneBegins s turns text Missing t = PassedAll s.body.coding s.other s.body.reader turns text t.body.reader
NoneBegins s turns text (Parts why) t = NextFails s.body.coding s.other s.body.reader turns text s.limits why t
NoneBegins s turns text Many t = InTurns s turns t × EachGave s.body.reader t.body.reader × (2 ^ 64 ≤ length turns + 1)
    × (text ≡ handed_of t.body)
NoneBegins s turns text why t = ⊥

module _ {T : Type 0} (tells : T → StreamLog) (trace : T → T → Type 0) where
  -- this was accepted, and no write failed but that some were interrupted; or a beginning of it before the writer failed, by an
  -- interrupted write only where it had faults that often. The writer wasn't flushed, and takes no more room
  pub record PutsBytes (u : Buffered T StdPolicy) (said : List ℕ) (answer : Result (Unit {0}) Error) (v : Buffered T StdPolicy)
      : Type 0 where
    pub all : AllAlong tells trace std_write_rules u said answer v
    pub met : OnOk answer (MetInterrupts u.log.writes v.log.writes)
    pub often : IfErr answer (λ e. IsInterrupt e → FaultsOften u.log.writes v.log.writes)
    pub unflushed : v.log.writes.flushes ≡ u.log.writes.flushes
    pub room : v.block.capacity ≡ u.block.capacity

  -- that, if it is wanted; else the writer wasn't called
  abbrev pub PutsWanted : Bool → Buffered T StdPolicy → List ℕ → Result (Unit {0}) Error → Buffered T StdPolicy → Type 0
  PutsWanted true u said answer v = PutsBytes u said answer v
  PutsWanted false u said answer v = (answer ≡ Ok tt) × (v ≡ u)

-- how the writes went before a run failed so, and before this answer
abbrev pub written_at : RunError → Result (Unit {0}) Error
written_at (Write e) = Err e
written_at why = Ok tt

abbrev pub written : {A : Type 0} → Result A RunError → Result (Unit {0}) Error
written (Ok x) = Ok tt
written (Err why) = written_at why

-- why the text of a part, of which so much came, wasn't taken whole
abbrev pub TextFails : {S : Type 0} → FormState S StdPolicy → List ℕ → RunError → FormState S StdPolicy → Type 0
TextFails s payload (Body why) t = NoPayload (codes s.body.coding) s.body why t.body
TextFails s payload (Write e) t = EachGave s.body.reader t.body.reader
TextFails s payload Many t = EachGave s.body.reader t.body.reader × (2 ^ 64 ≤ length payload + 1)
TextFails s payload why t = ⊥

-- all of it was taken
abbrev pub TextWhole : {S : Type 0} → FormState S StdPolicy → FormState S StdPolicy → Type 0
TextWhole s t = TookWholeBody (codes s.body.coding) t.body × EachGave s.body.reader t.body.reader

-- at Ok it was
abbrev pub TextEnds : {S A : Type 0} → FormState S StdPolicy → List ℕ → Result A RunError → FormState S StdPolicy → Type 0
TextEnds s payload answer t = MatchResult answer (λ _. TextWhole s t) (λ why. TextFails s payload why t)

module _ {S : Type 0} (remaining : S → Option (List ℕ)) where
  -- so much of the text of the part was taken
  pub record TookText (s : FormState S StdPolicy) (payload : List ℕ) (t : FormState S StdPolicy) : Type 0 where
    pub within : t ≡ record s { body = t.body }
    pub went : BodyWent remaining std_read_rules (codes s.body.coding) s.body payload t.body

  module _ {T : Type 0} (tells : T → StreamLog) (trace : T → T → Type 0) (wanted : Bool) where
    -- the text of the part was taken, and its length is this, as far as a `u64` counts; if it is wanted, all that came of it was
    -- accepted, unless a write failed
    pub record TakesText (s : FormState S StdPolicy) (u : Buffered T StdPolicy) (answer : Result ℕ RunError)
        (t : FormState S StdPolicy) (v : Buffered T StdPolicy) : Type 0 where
      pub payload : List ℕ
      pub took : TookText s payload t
      pub ends : TextEnds s payload answer t
      pub len : IfOk answer (λ len. len ≡ min (length payload) (2 ^ 64 - 1))
      pub puts : PutsWanted tells trace wanted u payload (written answer) v

-- no part of this name was begun, for this reason
pub record FoundNone {S : Type 0} (name : List ℕ) (s : FormState S StdPolicy) (why : RunError) (t : FormState S StdPolicy)
    : Type 0 where
  pub turns : List Turn
  pub text : List ℕ
  pub none : NoneNamed name turns
  pub stops : NoneBegins s turns text why t

-- the text of the part behind these, of which the last has this text, wasn't taken whole
abbrev pub LeavesNext : {S : Type 0} → FormState S StdPolicy → List Turn → List ℕ → RunError → FormState S StdPolicy → Type 0
LeavesNext s turns text why t = (head : List ℕ) × InTurns s (record { text = text; head = head } ∷ turns) t
    × TextFails s (handed_of t.body) why t

-- these parts, if any, were passed, and the last has this text, whole
abbrev pub LastWhole : {S : Type 0} → FormState S StdPolicy → List Turn → List ℕ → FormState S StdPolicy → Type 0
LastWhole s turns text t = (turns ≡ [])
    ⊎ ((wire : List ℕ) × BehindText s.body.coding s.other s.body.reader turns text wire t.body.reader)

-- how a list of these parts ended, of which the last has this text: all were passed; or their lines weren't all written; or there
-- is a cause why no part was begun behind them, or the text of one was left
abbrev pub ListEnds : {S : Type 0} → FormState S StdPolicy → List Turn → List ℕ → Result (Unit {0}) RunError
    → FormState S StdPolicy → Type 0
ListEnds s turns text (Ok x) t = PassedAll s.body.coding s.other s.body.reader turns text t.body.reader
ListEnds s turns text (Err (Write e)) t =
    InTurns s turns t × (0 < length turns) × TextWhole s t × (text ≡ handed_of t.body)
ListEnds s turns text (Err Missing) t = ⊥
ListEnds s turns text (Err why) t =
    (NoneBegins s turns text why t × LastWhole s turns text t) ⊎ LeavesNext s turns text why t

module _ {S T : Type 0} (tells : T → StreamLog) (trace : T → T → Type 0) where
  -- the text of the first part of this name was written
  pub record WroteNamed {A : Type 0} (name : List ℕ) (s : FormState S StdPolicy) (u : Buffered T StdPolicy)
      (answer : Result A RunError) (t : FormState S StdPolicy) (v : Buffered T StdPolicy) : Type 0 where
    pub named : InNamed name s t
    pub ends : TextEnds s (handed_of t.body) answer t
    pub puts : PutsBytes tells trace u (handed_of t.body) (written answer) v

  -- what comes of writing the text of the first part of this name, from before the first boundary on
  abbrev pub GetAnswers : List ℕ → FormState S StdPolicy → Buffered T StdPolicy → Result (Unit {0}) RunError
      → FormState S StdPolicy → Buffered T StdPolicy → Type 0
  GetAnswers name s u answer t v = ((why : RunError) × (answer ≡ Err why) × FoundNone name s why t × (v ≡ u))
      ⊎ WroteNamed name s u answer t v

  -- what comes of listing the parts, from before the first boundary on: the lines of these
  pub record ListAnswers (s : FormState S StdPolicy) (u : Buffered T StdPolicy) (answer : Result (Unit {0}) RunError)
      (t : FormState S StdPolicy) (v : Buffered T StdPolicy) : Type 0 where
    pub turns : List Turn
    pub text : List ℕ
    pub ends : ListEnds s turns text answer t
    pub puts : PutsBytes tells trace u (list_lines turns text) (written answer) v
