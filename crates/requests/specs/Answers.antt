-- What is answered to requests.
use Rattle.std.specs.Prelude.{◌≡◌, ℕ, ◌+◌, ◌*◌, ◌^◌, ◌<◌, ◌≤◌, ◌⊎◌, ◌==◌, Bool, true, false, List, [], ◌∷◌, ◌++◌, All, length, Option, None, Some, Result, Ok, Err, MatchResult, IfErr, IfSome, IsErr, IsSome, IsTrue}
use Rattle.std.specs.List.{prefix_len}
use Rattle.std.specs.IoError.{error_kind}
use Rattle.std.specs.declared.io.Error.{Error}
use Rattle.std.specs.declared.io.ErrorKind.TheVariants.{Other}
use Rattle.redux_buffer.specs.Faults.{FaultAfterInterrupts, interrupt_limit, IsInterrupt, OnlyInterrupts}
use Rattle.buffer_redux.specs.Buffered.{Buffered}
use Rattle.buffer_redux.specs.StreamLog.{StreamLog}
use Rattle.buffer_redux.specs.Unbuffer.{StreamWent, Unbuffered, unbuffered}
use Rattle.buffer_redux.specs.WriteParts.{WritesParts}
use Rattle.buffer_redux.specs.declared.policy.StdPolicy.{StdPolicy}
use Rattle.body_reader.specs.BodyReader.{Breaks, EndsEarly, IsBodyReader, TookWholeBody, handed_of}
use Rattle.body_reader.specs.Coding.{IsBody}
use Rattle.body_reader.specs.declared.either.Side.{Side}
use Rattle.chunked.specs.declared.error.Malformed.{Malformed}
use Rattle.codec.specs.Grammar.{IsOpen}
use Rattle.codec.specs.PieceReader.{ReaderState, left_of, rest}
use Rattle.messages.specs.declared.error.BodyError.TheVariants.{Io}
use Rattle.messages.specs.declared.bad_head.BadHead.{BadHead}
use Rattle.messages.specs.declared.head.ParsedHead.{ParsedHead}
use Rattle.messages.specs.Heads.{IsHead, heads}
use Rattle.messages.specs.declared.head.Heads.{Heads}
use Rattle.messages.specs.Limits.{usual}
use Rattle.messages.specs.Messages.{Begun, BodyCoding, Enters, InBody, IsMessage, Message, Reader, Room, body_rules, coding_of, room_of}
use Rattle.messages.specs.Versions.{is_end}
use Rattle.programs.specs.Streams.{EndsOnce}
use Rattle.requests.specs.declared.writing.Refusal.{Refusal}
use Rattle.requests.specs.declared.writing.Refusal.TheVariants.{BadRequest, LargeBody}
use Rattle.requests.specs.declared.Place.{Place}
use Rattle.requests.specs.declared.Place.TheVariants.{Before, Inside}
use Rattle.requests.specs.declared.Ending.{Ending}
use Rattle.requests.specs.declared.Ending.TheVariants as stop
use Rattle.requests.specs.declared.Ending.TheVariants.{Over, Unread}
use Rattle.requests.specs.declared.taking.Untaken.{Untaken}
use Rattle.requests.specs.declared.taking.Untaken.TheVariants.{Body, Large, Unsent}
use Rattle.requests.specs.Large.{IsAwaited, TurnsLarge, is_large, too_large, usual_rules}
use Rattle.requests.specs.Sending.{Both, SendsForRoom, SendsHeld, Prompt}
use Rattle.requests.specs.Texts.{answered, called, early_refusal, is_called, is_known, refusal, refusal_of}

-- a message is these bytes, and its body isn't too large
abbrev pub IsTaken : Message → List ℕ → Type 0
IsTaken m first = (is : IsMessage usual first m.0 m.1)
    × (is_large is.text.said.extent (length is.wire) (length m.1) ≡ false)

-- what the stream has left, where this stands in a body
abbrev pub stream_in : {S : Type 0} → InBody S → Unbuffered S
stream_in b = unbuffered b.body.reader

-- the whole body was taken, which isn't too large, with so much payload
abbrev pub TakesWhole : {S : Type 0} → (S → Option (List ℕ)) → InBody S → Unbuffered S → ℕ → Type 0
TakesWhole remaining b t len = (wire : List ℕ) × (payload : List ℕ) × StreamWent remaining (stream_in b) wire t
    × IsBody (usual_rules b.said.extent) wire payload × (len ≡ length payload)
    × (is_large b.said.extent (length wire) (length payload) ≡ false)

-- how often the stream gave nothing, though it was asked for something; and what it failed with
abbrev pub ends_of : {S : Type 0} → Unbuffered S → ℕ
ends_of s = s.log.reads.zero_reads

abbrev pub faults_of : {S : Type 0} → Unbuffered S → List Error
faults_of s = s.log.reads.faults

-- for each byte that came reads failed as often as the limit at most, and so many times more
abbrev pub FewFailed : {S : Type 0} → ℕ → Unbuffered S → Unbuffered S → Type 0
FewFailed more s t = length (faults_of t) + interrupt_limit * length s.log.reads.given
    ≤ length (faults_of s) + interrupt_limit * length t.log.reads.given + more

-- the end was met once at most, and each ask gave bytes, or failed, or met that; and they failed that often
pub record AsksFew {S : Type 0} (more : ℕ) (s t : Unbuffered S) : Type 0 where
  pub once : EndsOnce s.log.reads t.log.reads
  pub told : t.log.reads.asks + (length s.log.reads.given + (length (faults_of s) + ends_of s))
      ≤ s.log.reads.asks + (length t.log.reads.given + (length (faults_of t) + ends_of t))
  pub few : FewFailed more s t

-- reads were at most interrupted, and each other gave some bytes, but for so many that no byte came behind
pub record ReadsSteadily {S : Type 0} (row : ℕ) (s t : Unbuffered S) : Type 0 where
  pub faults : OnlyInterrupts (faults_of s) (faults_of t)
  pub ends : ends_of t ≡ ends_of s
  pub asks : AsksFew row s t

-- so many reads failed in a row: behind the first of them, which left the stream so, no byte came
pub record FailsInRow {S : Type 0} (tells : S → StreamLog) (row : ℕ) (s t : Unbuffered S) : Type 0 where
  pub begun : Unbuffered S
  pub told : begun.log ≡ tells begun.inner
  pub first : length (faults_of s) < length (faults_of begun)
  pub none : t.log.reads.given ≡ begun.log.reads.given
  pub others : length (faults_of begun) + row ≤ length (faults_of t) + 1

-- what it has left
abbrev pub stream_at : {S : Type 0} → Place S → Unbuffered S
stream_at (Before requests) = left_of requests
stream_at (Inside body) = stream_in body

-- and how much its buffer takes
abbrev pub room_at : {S : Type 0} → Place S → Room
room_at (Before requests) = room_of requests.reader.block
room_at (Inside body) = room_of body.body.reader.block

-- so much still, behind a turn or at the end
abbrev pub KeepsRoom : {S : Type 0} → Room → Result (ReaderState S Heads) (Place S × Ending) → Type 0
KeepsRoom room result = MatchResult result (λ next. room_of next.reader.block ≡ room) (λ e. room_at e.0 ≡ room)

-- these are ends of lines alone, and so empty lines, which say nothing (RFC 9112, section 2.2)
abbrev pub only_line_ends : List ℕ → Bool
only_line_ends bytes = prefix_len is_end bytes == length bytes

-- the next byte of the body is wrong, or the stream ended before it was complete, where so many ends were met before
abbrev pub IsTorn : {S : Type 0} → ℕ → InBody S → Type 0
IsTorn ends b = ((name : Side (Unit {0}) Malformed) × Breaks (body_rules b.body.coding) name b.body)
    ⊎ ((ends < ends_of (stream_in b)) × EndsEarly (body_rules b.body.coding) b.body)

-- what comes is to be refused so, where so many ends were met before: no head begins what is left, for that reason, or the stream
-- ended in one; or the head settles that, and nothing was taken behind it; or else what was taken of the body is too large, or
-- is not, and the body is torn
abbrev pub IsToBeRefused : {S : Type 0} → ℕ → Place S → Refusal → Type 0
IsToBeRefused ends (Before requests) why = ((e : BadHead) × (heads usual).wrong (rest requests) e × (why ≡ refusal_of e))
    ⊎ ((why ≡ BadRequest) × (ends < ends_of (left_of requests)) × (only_line_ends (rest requests) ≡ false)
    × IsOpen (heads usual) (rest requests))
IsToBeRefused ends (Inside body) why =
    ((early_refusal (is_known body.head) body.said ≡ Some why) × (body.body.taken ≡ []))
    ⊎ ((early_refusal (is_known body.head) body.said ≡ None) × (((why ≡ LargeBody) × TurnsLarge body)
    ⊎ ((why ≡ BadRequest) × (too_large body ≡ false) × IsTorn ends body)))

-- the stream ended, and nothing is left but empty lines, where a head would begin
abbrev pub EndedBeforeHead : {S : Type 0} → ℕ → Place S → Type 0
EndedBeforeHead ends (Before requests) = (ends < ends_of (left_of requests)) × IsTrue (only_line_ends (rest requests))
EndedBeforeHead ends (Inside body) = ⊥

-- whether another message may follow this one, as its head says
abbrev pub MayFollow : Bool → Message → Type 0
MayFollow keeps m = (said : ParsedHead) × IsHead usual m.0 said × (said.keeps ≡ keeps)

-- none may follow the last of these, and one each other
pub record Closes (messages : List Message) : Type 0 where
  pub before : List Message
  pub last : Message
  pub all : messages ≡ before ++ last ∷ []
  pub keep : All (MayFollow true) before
  pub close : MayFollow false last

-- none may follow the last message: nothing was taken behind it and nothing is refused, and no end was met, as who asks there may
-- meet one
abbrev pub IsClosed : {S : Type 0} → List Message → List ℕ → Option Refusal → ℕ → Place S → Type 0
IsClosed messages taken refuses ends place =
    Closes messages × (taken ≡ []) × (refuses ≡ None) × (ends_of (stream_at place) ≡ ends)

-- why no more is answered: none may follow; or what comes was refused, or the stream ended
abbrev pub NoMoreAnswered : {S : Type 0} → List Message → List ℕ → Option Refusal → ℕ → Place S → Type 0
NoMoreAnswered messages taken refuses ends place = IsClosed messages taken refuses ends place
    ⊎ (All (MayFollow true) messages × (IsSome refuses ⊎ EndedBeforeHead ends place))

-- these bytes behind whole messages are none, or a head, and of the body that it says some with this payload
abbrev pub IsPartTaken : {S : Type 0} → Place S → List ℕ → List ℕ → Type 0
IsPartTaken (Before requests) taken handed = (taken ≡ []) × (handed ≡ [])
IsPartTaken (Inside body) taken handed = (taken ≡ body.head ++ body.body.taken) × (handed ≡ handed_of body.body)
    × IsHead usual body.head body.said × (body.body.coding ≡ coding_of usual body.said.extent)
    × IsBodyReader (body_rules body.body.coding) body.body

-- behind interruptions a read failed so: it is one only behind as many in a row as the limit
abbrev pub FailsInRead : {S : Type 0} → (S → StreamLog) → Unbuffered S → Error → Unbuffered S → Type 0
FailsInRead tells s e t =
    FaultAfterInterrupts (faults_of s) (faults_of t) e × (IsInterrupt e → FailsInRow tells (interrupt_limit + 1) s t)

-- these messages are more than are counted
abbrev pub IsMany : List Message → Type 0
IsMany messages = 2 ^ 64 ≤ length messages + 1

-- so much payload was read, without a fault: some, or the body ended
pub record ReadsSome {S : Type 0} (s : Unbuffered S) (n : ℕ) (b : InBody S) : Type 0 where
  pub steady : ReadsSteadily 0 s (stream_in b)
  pub same : faults_of (stream_in b) ≡ faults_of s
  pub more : TookWholeBody (body_rules b.body.coding) b.body ⊎ (0 < n)

-- no more is buffered that can be handed out
abbrev pub NoneLeft : {S : Type 0} → BodyCoding → Reader S → ℕ → ℕ → Type 0
NoneLeft c d count asked = (count ≡ asked) ⊎ (TookWholeBody (body_rules c) d ⊎ (EndsEarly (body_rules c) d
    ⊎ ((why : Side (Unit {0}) Malformed) × Breaks (body_rules c) why d)))

-- the last read failed so, in a body that goes on behind all that is buffered
pub record FailsOnce {S : Type 0} (s : Unbuffered S) (e : Error) (b : InBody S) : Type 0 where
  pub fault : faults_of (stream_in b) ≡ faults_of s ++ e ∷ []
  pub ends : ends_of (stream_in b) ≡ ends_of s
  pub none : (stream_in b).left ≡ []
  pub goes_on : ¬ (TookWholeBody (body_rules b.body.coding) b.body)

-- why a body isn't taken whole: a read failed, as this says; or it is torn, and this is so; or too large, or what is held wasn't
-- sent
abbrev pub WhyUntaken : {S : Type 0} → (Error → Type 0) → Type 0 → Unbuffered S → Untaken → InBody S → Type 0
WhyUntaken Fails Torn s (Body (Io e)) b = Fails e
WhyUntaken Fails Torn s (Body wrong) b =
    OnlyInterrupts (faults_of s) (faults_of (stream_in b)) × IsTorn (ends_of s) b × Torn
WhyUntaken Fails Torn s Large b = OnlyInterrupts (faults_of s) (faults_of (stream_in b)) × TurnsLarge b
WhyUntaken Fails Torn s (Unsent e) b = OnlyInterrupts (faults_of s) (faults_of (stream_in b))

-- what is too large is called that, and not torn
abbrev pub unless_large : Untaken → Bool → Untaken
unless_large (Body (Io e)) large = Body (Io e)
unless_large (Body torn) true = Large
unless_large why large = why

-- so by one read
abbrev pub OneReadFails : {S : Type 0} → Unbuffered S → Untaken → InBody S → Type 0
OneReadFails s why b = AsksFew 1 s (stream_in b) × WhyUntaken (λ e. FailsOnce s e b) (Unit {0}) s why b

-- and by reads that are made again, where what is too large isn't called torn
abbrev pub TakeFails : {S : Type 0} → (S → StreamLog) → Unbuffered S → Untaken → InBody S → Type 0
TakeFails tells s why b = AsksFew (interrupt_limit + 1) s (stream_in b)
    × WhyUntaken (λ e. FailsInRead tells s e (stream_in b)) (too_large b ≡ false) s why b

-- how sending went, where reading ended so
abbrev pub sent_till : Untaken → Result (Unit {0}) Error
sent_till (Body e) = Ok tt
sent_till (Unsent e) = Err e
sent_till e = Ok tt

abbrev pub sent_with : {A : Type 0} → Result A Untaken → Result (Unit {0}) Error
sent_with (Ok a) = Ok tt
sent_with (Err e) = sent_till e

-- what is sent behind a refusal, or a fault, ends so
abbrev pub ending_of : Result (Unit {0}) Error → Ending
ending_of (Ok x) = Over
ending_of (Err e) = stop.Unsent e

-- and how sending went, where a run ends so
abbrev pub sending_of : Ending → Result (Unit {0}) Error
sending_of (stop.Unsent e) = Err e
sending_of ending = Ok tt

-- how that ends a run: what is wrong, or too large, is refused
abbrev pub EndsUntaken : {W : Type 0} → (W → StreamLog) → (W → W → Type 0) → Buffered W StdPolicy → Untaken → Ending
    → Buffered W StdPolicy → Type 0
EndsUntaken tells trace w (Body (Io e)) ending w' = (ending ≡ Unread e) × (w' ≡ w)
EndsUntaken tells trace w (Body wrong) ending w' = (answer : Result (Unit {0}) Error) × (ending ≡ ending_of answer)
    × WritesParts tells trace w (refusal BadRequest false) answer w'
EndsUntaken tells trace w Large ending w' = (answer : Result (Unit {0}) Error) × (ending ≡ ending_of answer)
    × WritesParts tells trace w (refusal LargeBody false) answer w'
EndsUntaken tells trace w (Unsent e) ending w' = (ending ≡ stop.Unsent e) × (w' ≡ w)

-- what is done at the end, and what is answered: what is held is sent, unless sending or reading failed
abbrev pub EndsSent : {W : Type 0} → (W → StreamLog) → (W → W → Type 0) → Ending → Buffered W StdPolicy
    → Result (Unit {0}) Error → Buffered W StdPolicy → Type 0
EndsSent tells trace Over w answer w' = SendsHeld tells trace w answer w'
EndsSent tells trace stop.Many w answer w' = (sending : Result (Unit {0}) Error) × SendsHeld tells trace w sending w'
    × MatchResult sending (λ x. IfErr answer (λ e. error_kind e ≡ Other) × IsErr answer) (λ e. answer ≡ Err e)
EndsSent tells trace (Unread e) w answer w' = (answer ≡ Err e) × (w' ≡ w)
EndsSent tells trace (stop.Unsent e) w answer w' = (answer ≡ Err e) × (w' ≡ w)

-- more of a head is to be asked for: these bytes settle none
abbrev pub AwaitsHead : List ℕ → List ℕ → Type 0
AwaitsHead front behind = IsOpen (heads usual) (front ++ behind)

-- more of the body behind this head is: neither the head nor these bytes of the body settle an answer
abbrev pub AwaitsBody : List ℕ → ParsedHead → List ℕ → List ℕ → Type 0
AwaitsBody head said front behind = (early_refusal (is_known head) said ≡ None) × IsAwaited said.extent front behind

module _ {R W : Type 0} (remaining : R → Option (List ℕ)) (tells : W → StreamLog) (trace : W → W → Type 0) where
  -- a head went, and nothing was asked for once it was whole; and then its body was called for, where the client waits, or that
  -- failed
  pub record CallsFor (head : List ℕ) (said : ParsedHead) (a : Both R W) (putting : Result (Unit {0}) Error) (b : Both R W)
      : Type 0 where
    pub went : StreamWent remaining a.0 head b.0
    pub before : Buffered W StdPolicy
    pub comes : Prompt tells trace AwaitsHead a (Ok tt) (b.0, before)
    pub call : SendsForRoom tells trace before (called (is_called (is_known head) said)) putting b.1

  -- a head went, and nothing was asked for once it was whole
  pub record CameToBody (s : Unbuffered R) (w : Buffered W StdPolicy) (b : InBody R) (v : Buffered W StdPolicy) : Type 0 where
    pub last : ReaderState R Heads
    pub begun : Begun remaining last b
    pub enters : Enters usual b
    pub went : StreamWent remaining s b.head (stream_in b)
    pub reads : ReadsSteadily 0 s (stream_in b)
    pub comes : Prompt tells trace AwaitsHead (s, w) (Ok tt) (stream_in b, v)

  -- this message went, whose head settles no refusal of it; its body was called for, and then asked for till it was whole; and
  -- then it was answered, or that failed
  pub record AnswersWhole (m : Message) (a : Both R W) (sending : Result (Unit {0}) Error) (b : Both R W) : Type 0 where
    pub bytes : List ℕ
    pub is : IsTaken m bytes
    pub went : StreamWent remaining a.0 bytes b.0
    pub said : ParsedHead
    pub head : IsHead usual m.0 said
    pub open' : early_refusal (is_known m.0) said ≡ None
    pub begun : Both R W
    pub calls : CallsFor m.0 said a (Ok tt) begun
    pub before : Buffered W StdPolicy
    pub reads : Prompt tells trace (AwaitsBody m.0 said) begun (Ok tt) (b.0, before)
    pub answers : WritesParts tells trace before (answered (is_known m.0) said (length m.1)) sending b.1

  -- each of these went and was answered so, before a byte of the next was taken, and nothing else was done
  abbrev pub AnswersEach : List Message → Both R W → Both R W → Type 0
  AnswersEach [] a b = a ≡ b
  AnswersEach (m ∷ later) a b = (c : Both R W) × AnswersWhole m a (Ok tt) c × AnswersEach later c b

  -- so much was asked for, or sending what is held failed; or then this was refused, or that failed
  abbrev pub Refuses : (List ℕ → List ℕ → Type 0) → Option Refusal → Both R W → Result (Unit {0}) Error → Both R W → Type 0
  Refuses Open None a sending b = Prompt tells trace Open a sending b
  Refuses Open (Some why) a sending b = (before : Buffered W StdPolicy)
      × Prompt tells trace Open a (Ok tt) (b.0, before) × WritesParts tells trace before (refusal why false) sending b.1

  -- no message went whole, where the reader stands there: a head is asked for, and it is refused at once; or it came, and its
  -- body is called for, and then asked for, and that is refused at once; or the call failed
  abbrev pub AnswersPart : Place R → Option Refusal → Both R W → Result (Unit {0}) Error → Both R W → Type 0
  AnswersPart (Before requests) refuses a sending b = Refuses AwaitsHead refuses a sending b
  AnswersPart (Inside body) refuses a sending b = ((refuses ≡ None) × CallsFor body.head body.said a sending b)
      ⊎ ((begun : Both R W) × CallsFor body.head body.said a (Ok tt) begun
      × Refuses (AwaitsBody body.head body.said) refuses begun sending b)

  -- the last turn: none went whole, but these bytes; or one did, and was answered, or that failed, and nothing else
  abbrev pub IsLastTurn : List Message → List ℕ → Place R → Option Refusal → Both R W → Result (Unit {0}) Error → Both R W
      → Type 0
  IsLastTurn [] taken place refuses a sending b = StreamWent remaining a.0 taken b.0 × AnswersPart place refuses a sending b
  IsLastTurn (m ∷ []) taken place refuses a sending b = AnswersWhole m a sending b × (taken ≡ []) × (refuses ≡ None)
  IsLastTurn (m ∷ n ∷ later) taken place refuses a sending b = ⊥

  -- in turns: each of these messages was answered before more was taken, and then came the last turn
  pub record AnswersInTurns (messages : List Message) (a : Both R W) (taken : List ℕ) (place : Place R)
      (refuses : Option Refusal) (sending : Result (Unit {0}) Error) (b : Both R W) : Type 0 where
    pub front : List Message
    pub last : List Message
    pub all : messages ≡ front ++ last
    pub between : Both R W
    pub each : AnswersEach front a between
    pub turn : IsLastTurn last taken place refuses between sending b

  -- messages went, each was answered in its turn, and another may follow
  pub record Continues (s : Unbuffered R) (w : Buffered W StdPolicy) (t : Unbuffered R) (w' : Buffered W StdPolicy) : Type 0 where
    pub messages : List Message
    pub each : AnswersEach messages (s, w) (t, w')
    pub keep : All (MayFollow true) messages
    pub reads : ReadsSteadily 0 s t

  module _ (told : R → StreamLog) where
    -- why a run ends: a read failed; or reads were at most interrupted, and it is over, or these are more than are counted, or
    -- sending failed; and nothing was answered behind a message behind which none may follow
    abbrev pub RunEndsBy : Unbuffered R → List Message → List ℕ → Option Refusal → Place R → Ending → Type 0
    RunEndsBy s messages taken refuses place Over =
        OnlyInterrupts (faults_of s) (faults_of (stream_at place)) × NoMoreAnswered messages taken refuses (ends_of s) place
    RunEndsBy s messages taken refuses place stop.Many = OnlyInterrupts (faults_of s) (faults_of (stream_at place))
        × All (MayFollow true) messages × (refuses ≡ None) × IsMany messages
    RunEndsBy s messages taken refuses place (Unread e) =
        FailsInRead told s e (stream_at place) × All (MayFollow true) messages × (refuses ≡ None)
    RunEndsBy s messages taken refuses place (stop.Unsent e) = OnlyInterrupts (faults_of s) (faults_of (stream_at place))
        × (All (MayFollow true) messages ⊎ IsClosed messages taken refuses (ends_of s) place)

    -- a run, but for what is sent last: behind the answers were written the call for a body that the client waits for, and a
    -- refusal of what is wrong, by its status; so there is no 200 but for a whole message. The end is asked for once
    pub record RunsToLast (s : Unbuffered R) (w : Buffered W StdPolicy) (place : Place R) (ending : Ending)
        (w' : Buffered W StdPolicy) : Type 0 where
      pub messages : List Message
      pub taken : List ℕ
      pub handed : List ℕ
      pub part : IsPartTaken place taken handed
      pub refuses : Option Refusal
      pub turns : AnswersInTurns messages (s, w) taken place refuses (sending_of ending) (stream_at place, w')
      pub asks : AsksFew (interrupt_limit + 1) s (stream_at place)
      pub wrong : IfSome refuses (IsToBeRefused (ends_of s) place)
      pub ends : RunEndsBy s messages taken refuses place ending

    -- a run: where sending failed, it returns why, and behind the call that failed nothing was taken or asked for; or all was
    -- sent
    pub record ServesRequests (s : Unbuffered R) (w : Buffered W StdPolicy) (place : Place R) (answer : Result (Unit {0}) Error)
        (w' : Buffered W StdPolicy) : Type 0 where
      pub ending : Ending
      pub held : Buffered W StdPolicy
      pub runs : RunsToLast s w place ending held
      pub last : EndsSent tells trace ending held answer w'

    -- one turn: a message went; or the run ended
    abbrev pub AnswersTurn : Unbuffered R → Buffered W StdPolicy → Result (ReaderState R Heads) (Place R × Ending)
        → Buffered W StdPolicy → Type 0
    AnswersTurn s w result w' = MatchResult result
        (λ next. (goes : Continues s w (left_of next) w') × (0 < length goes.messages))
        (λ e. RunsToLast s w e.0 e.1 w')
