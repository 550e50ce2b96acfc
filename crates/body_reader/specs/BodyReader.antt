-- What contracts see of a reader of a body, and what its calls promise.
use Rattle.std.specs.Prelude.{◌≡◌, ℕ, zero, suc, ◌+◌, ◌-◌, ◌^◌, ◌<◌, ◌≤◌, ◌⊎◌, List, [], ◌++◌, length, min, take, Bool, MatchBool, Option, Result, Ok, Err, IfOk, MatchResult, ⊤}
use Rattle.std.specs.Borrow.{Bor}
use Rattle.std.specs.IoError.{error_kind}
use Rattle.std.specs.declared.io.Error.{Error}
use Rattle.std.specs.declared.io.ErrorKind.TheVariants.{Other}
use Rattle.buffer_redux.specs.Buffered.{Buffered}
use Rattle.buffer_redux.specs.BufReader.{OfferedAll, ReaderConsumes, ReadsAlong}
use Rattle.buffer_redux.specs.Policy.{ReadRules}
use Rattle.buffer_redux.specs.StreamLog.{StreamLog, after_read, no_calls}
use Rattle.buffer_redux.specs.Unbuffer.{unbuffered}
use Rattle.body_reader.specs.declared.error.BodyError.{BodyError}
use Rattle.body_reader.specs.declared.error.BodyError.TheVariants.{Io}
use Rattle.body_reader.specs.declared.error.CollectError.{CollectError}
use Rattle.body_reader.specs.declared.error.CollectError.TheVariants as collect
use Rattle.body_reader.specs.declared.progress.Progress.{Progress}
use Rattle.buffer_redux.specs.Asking.{AskedWhere}
use Rattle.body_reader.specs.Between.{AllShown, AsksOpen, AsksWithRoom, BecomesIo, EachGave, FaultedOnce, GaveNothingOnce, HandsPiecewise, KeepsBuffer, KnowsAll, PassesTo, StopsFor, TakenThrough, TellsOnce, handed_out}
use Rattle.body_reader.specs.Coding.{Grammar, IsBody, IsKnown, IsOpen, Leads, LeadsOpen, heeded}

-- the buffered reader; the coding; where in the body the reader stands; the bytes of it that were taken so far; what it handed
-- out, as a stream tells it; and how many of the bytes that are buffered are payload, as the last fill said
pub record BodyState (S Q C P : Type 0) : Type 0 where
  pub reader : Buffered S Q
  pub coding : C
  pub place : P
  pub taken : List ℕ
  pub calls : StreamLog
  pub known : ℕ

-- by its parts
abbrev pub seen : {S Q C P : Type 0} → Buffered S Q → C → Progress P → StreamLog → ℕ → BodyState S Q C P
seen r c p calls known =
    record { reader = r; coding = c; place = p.place; taken = p.taken.log.fills.consumed; calls = calls; known = known }

-- the payload that was handed out so far
abbrev pub handed_of : {S Q C P : Type 0} → BodyState S Q C P → List ℕ
handed_of d = d.calls.reads.given

-- how many bytes were taken, as far as a `u64` counts
abbrev pub taken_count : {S Q C P : Type 0} → BodyState S Q C P → ℕ
taken_count d = min (length d.taken) (2 ^ 64 - 1)

-- an Ok read is noted, and no other
abbrev pub NotedIfOk : {E : Type 0} → StreamLog → List ℕ → Result ℕ E → StreamLog → Type 0
NotedIfOk calls out answer later = MatchResult answer (λ n. later ≡ after_read calls out (Ok n)) (λ _. later ≡ calls)

-- where payload was handed out that is noted as a read, and where none was, no call is
abbrev pub NotedIfSome : StreamLog → List ℕ → ℕ → StreamLog → Type 0
NotedIfSome calls out handed later =
    (0 < handed → later ≡ after_read calls out (Ok handed)) × (handed ≡ 0 → later ≡ calls)

module _ {S Q C P W : Type 0} (g : Grammar P W) where
  -- what is true of every reader of a body: the bytes that were taken lead to where it stands, and what was handed out is the
  -- payload in them; and the buffer holds what a look needs
  pub record IsBodyReader (d : BodyState S Q C P) : Type 0 where
    pub leads : Leads g g.first d.taken (handed_of d) d.place (heeded g d.reader.block.bytes)
    pub place : g.is_place d.place
    pub room : g.ahead ≤ d.reader.block.capacity
    pub known : IsKnown g d.place d.known d.reader.block.bytes

  -- no byte was taken yet
  abbrev pub begun : Buffered S Q → C → BodyState S Q C P
  begun reader coding = record { reader = reader; coding = coding; place = g.first; taken = []; calls = no_calls; known = 0 }

  -- what was taken is a body, and what was handed out its payload
  abbrev pub TookWholeBody : BodyState S Q C P → Type 0
  TookWholeBody d = IsBody g d.taken (handed_of d)

  -- what is buffered is wrong, and bytes that begin with what was taken and then that begin with no body
  pub record Breaks (why : W) (t : BodyState S Q C P) : Type 0 where
    pub name : g.wrong t.place t.reader.block.bytes why
    pub none : (body payload xs rest : List ℕ) → IsBody g body payload
        → ¬ (body ++ xs ≡ t.taken ++ (t.reader.block.bytes ++ rest))

  -- what is buffered settles nothing, and what was taken, and then that, begins with no body
  pub record EndsEarly (t : BodyState S Q C P) : Type 0 where
    pub settles_nothing : IsOpen g t.place t.reader.block.bytes
    pub none : (body payload xs : List ℕ) → IsBody g body payload → ¬ (body ++ xs ≡ t.taken ++ t.reader.block.bytes)

  -- why there is no further payload
  abbrev pub NoPayload : BodyState S Q C P → BodyError W → BodyState S Q C P → Type 0
  NoPayload s e t = StopsFor (taken_count t) (λ why. Breaks why t) (EndsEarly t) s.reader e t.reader

module _ {S Q C P W : Type 0} (remaining : S → Option (List ℕ)) (rules : ReadRules Q) (g : Grammar P W) where
  -- what any calls do, one after another, that handed out this payload: some bytes were taken out of the buffered reader, in
  -- order, and none is lost
  pub record BodyWent (s : BodyState S Q C P) (payload : List ℕ) (t : BodyState S Q C P) : Type 0 where
    pub wire : List ℕ
    pub along : ReadsAlong remaining rules s.reader wire t.reader
    pub taken : t.taken ≡ s.taken ++ wire
    pub handed : handed_of t ≡ handed_of s ++ payload
    pub coding : t.coding ≡ s.coding
    pub keeps : KeepsBuffer rules g.ahead s.reader t.reader

  -- what one call of `read_payload` does, which left the slice as out. The stream is asked only where nothing was settled, and
  -- no payload left, and for as much as surely is payload and fits the slice; past the buffer for no less than that holds. No
  -- less is handed out than can be, nor than is known: what was known, or a look told, and isn't handed out stays known. The
  -- policy is told once of what is handed out through the buffer, and of what a look passed, and of nothing else; where some was
  -- known that is all. An Ok read is noted, and no other. Once the body ended, or where the slice is empty, nothing else is done
  pub record ReadsPayload (s : BodyState S Q C P) (out : List ℕ) (answer : Result ℕ (BodyError W)) (t : BodyState S Q C P)
      : Type 0 where
    pub went : BodyWent s (handed_out out answer) t
    pub answers : MatchResult answer
        (λ n. (n ≤ length out) × EachGave s.reader t.reader × (n ≡ 0 → 0 < length out → TookWholeBody g t))
        (λ e. NoPayload g s e t)
    pub asked : AsksWithRoom remaining rules g (length out) s.reader s.place t.reader
    pub through : TakenThrough s.reader went.wire t.reader ⊎ (s.reader.block.capacity ≤ t.reader.log.reads.offer)
    pub full : IfOk answer (λ n. (n ≡ length out) ⊎ (t.known ≡ 0))
    pub left : 0 < s.known → IfOk answer (λ n. (n ≡ min s.known (length out)) × (t.known ≡ s.known - n))
    pub knows : s.known ≡ 0 → IfOk answer
        (λ n. 0 < n → KnowsAll g s.place s.taken t.taken (take n out) t.known t.reader.block.bytes)
    pub consumed : 0 < s.known → IfOk answer (λ n. 0 < n → ReaderConsumes rules n s.reader t.reader)
    pub tells : TellsOnce remaining rules g s.reader s.place (length (handed_out out answer)) t.reader t.place
    pub idle : (TookWholeBody g s ⊎ (length out ≡ 0)) → t ≡ record s { calls = t.calls }
    pub empty : length out ≡ 0 → answer ≡ Ok 0
    pub noted : NotedIfOk s.calls out answer t.calls
    pub whole : IsBodyReader g t

  -- payload is buffered, how much the answer says: none only where the body ended, and else all that a look says is. The stream
  -- is asked only where nothing was settled, and no payload left; where some was known, or the body ended, nothing is done. The
  -- policy is told of what a look passed, and of nothing else. No call is noted
  pub record FillsPayload (s : BodyState S Q C P) (answer : Result ℕ (BodyError W)) (t : BodyState S Q C P) : Type 0 where
    pub went : BodyWent s [] t
    pub answers : MatchResult answer (λ n. (n ≡ t.known) × EachGave s.reader t.reader × (n ≡ 0 → TookWholeBody g t))
        (λ e. NoPayload g s e t)
    pub all : IfOk answer (λ n. 0 < n → s.known ≡ 0 → AllShown g t.place n t.reader.block.bytes)
    pub asked : AsksOpen remaining rules g s.reader s.place t.reader
    pub passes : PassesTo remaining rules g s.reader s.place t.reader t.place
    pub still : (0 < s.known ⊎ TookWholeBody g s) → t ≡ s
    pub noted : t.calls ≡ s.calls
    pub whole : IsBodyReader g t

  -- so many bytes of payload were taken, or all that are known: the policy is told of them once, and they are noted as a read.
  -- Where there are none nothing is done
  pub record ConsumesPayload (count : ℕ) (s t : BodyState S Q C P) : Type 0 where
    pub went : BodyWent s (take (min count s.known) s.reader.block.bytes) t
    pub consumed : 0 < min count s.known → ReaderConsumes rules (min count s.known) s.reader t.reader
    pub left : t.known ≡ s.known - count
    pub idle : min count s.known ≡ 0 → t ≡ s
    pub told : t.reader.log ≡ s.reader.log
    pub noted : NotedIfSome s.calls (take (min count s.known) s.reader.block.bytes) (min count s.known) t.calls
    pub whole : IsBodyReader g t

  -- a piece of payload was taken: all that a fill showed, and it is noted as one read
  pub record TakesPiece (s t : BodyState S Q C P) : Type 0 where
    pub shown : ℕ
    pub filled : BodyState S Q C P
    pub some : 0 < shown
    pub fills : FillsPayload s (Ok shown) filled
    pub consumes : ConsumesPayload shown filled t

  -- so many pieces, one after another
  abbrev pub TakesManyPieces : ℕ → BodyState S Q C P → BodyState S Q C P → Type 0
  TakesManyPieces zero s t = s ≡ t
  TakesManyPieces (suc count) s t = (m : BodyState S Q C P) × TakesManyPieces count s m × TakesPiece m t

  -- pieces, and then at most a fill
  pub record InPieces (s t : BodyState S Q C P) : Type 0 where
    pub count : ℕ
    pub last : BodyState S Q C P
    pub pieces : TakesManyPieces count s last
    pub end : (last ≡ t) ⊎ ((answer : Result ℕ (BodyError W)) × FillsPayload last answer t)

  -- this payload was taken so. The stream is asked only where nothing was settled, and the payload that came lets it, and no
  -- piece is cut. Once the body ended nothing is done
  pub record TakesTo (Lets : List ℕ → Type 0) (s : BodyState S Q C P) (payload : List ℕ) (t : BodyState S Q C P) : Type 0 where
    pub went : BodyWent s payload t
    pub pieces : InPieces s t
    pub asked : AskedWhere (λ bytes. (came : List ℕ) × LeadsOpen g s.place came bytes × Lets came) (unbuffered s.reader)
        (unbuffered t.reader)
    pub ended : TookWholeBody g s → t ≡ s
    pub whole : IsBodyReader g t

  -- the rest of the body was taken, and its payload dropped, or why not: as a read of payload answers, or by `Other` where more
  -- pieces were dropped than are counted
  pub record Drains (s : BodyState S Q C P) (answer : Result (Unit {0}) (BodyError W)) (t : BodyState S Q C P) : Type 0 where
    pub payload : List ℕ
    pub takes : TakesTo (λ _. ⊤) s payload t
    pub answers : MatchResult answer (λ _. EachGave s.reader t.reader × TookWholeBody g t)
        (λ why. NoPayload g s why t
        ⊎ ((e : Error) × (why ≡ Io e) × (error_kind e ≡ Other) × (2 ^ 64 - 1 ≤ length payload)
        × EachGave s.reader t.reader))

  -- how it ends that payload is collected, of which so much is there: the body ended; or none comes; or some is buffered, with
  -- which it would be more than so many bytes, or it would fit and memory for it was refused, or it mayn't be
  abbrev pub CollectEnds : (List ℕ → Type 0) → ℕ → BodyState S Q C P → List ℕ → Result (Unit {0}) (CollectError W)
      → BodyState S Q C P → Type 0
  CollectEnds Allowed most s all (Ok _) t = EachGave s.reader t.reader × TookWholeBody g t
  CollectEnds Allowed most s all (Err (collect.Body why)) t = NoPayload g s why t
  CollectEnds Allowed most s all (Err collect.TooLong) t =
      EachGave s.reader t.reader × (0 < t.known) × (most < length all + t.known)
  CollectEnds Allowed most s all (Err collect.Memory) t =
      EachGave s.reader t.reader × (0 < t.known) × (length all + t.known ≤ most)
  CollectEnds Allowed most s all (Err collect.Refused) t = EachGave s.reader t.reader × (0 < t.known)
      × (length all + t.known ≤ most) × ¬ Allowed (all ++ take t.known t.reader.block.bytes)

  -- the rest of the body was taken, and its payload appended, or why not: of what may be, no more bytes than fit so many
  pub record Collects (Allowed : List ℕ → Type 0) (most : ℕ) (s : BodyState S Q C P) (before : List ℕ)
      (answer : Result (Unit {0}) (CollectError W)) (t : BodyState S Q C P) (after : List ℕ) : Type 0 where
    pub payload : List ℕ
    pub takes : TakesTo (λ came. Allowed (before ++ came)) s payload t
    pub collected : after ≡ before ++ payload
    pub few : 0 < length payload → length after ≤ most
    pub allowed : Allowed after
    pub ends : CollectEnds Allowed most s after answer t

  -- what `read_buffered` does, which left the slice as out: payload that is buffered is handed out, as much as the slice takes.
  -- Less comes only where the body ended, or what is buffered settles nothing, or is wrong. The stream isn't asked. Where so much
  -- was known the policy is told of it once; else once of what was known, and of each piece that a look told, and of what one
  -- passed. Of what was known just what wasn't handed out stays known, or, where more was handed out, of what the last look told.
  -- Once the body ended, or into an empty slice, nothing is done, and where nothing is handed out no read is noted
  pub record HandsBuffered (s : BodyState S Q C P) (out : List ℕ) (handed : ℕ) (t : BodyState S Q C P) : Type 0 where
    pub went : BodyWent s (take handed out) t
    pub told : t.reader.log ≡ s.reader.log
    pub bound : handed ≤ length out
    pub full : (handed ≡ length out) ⊎ (t.known ≡ 0)
    pub all : (handed ≡ length out) ⊎ (TookWholeBody g t ⊎ (EndsEarly g t ⊎ ((why : W) × Breaks g why t)))
    pub left : handed ≤ s.known → t.known ≡ s.known - handed
    pub consumed : 0 < length out → length out ≤ s.known → ReaderConsumes rules (length out) s.reader t.reader
    pub pieces : HandsPiecewise remaining rules g (length out) s.reader s.place s.known handed t.reader t.place t.known
    pub idle : (TookWholeBody g s ⊎ (length out ≡ 0)) → t ≡ s
    pub noted : NotedIfSome s.calls out handed t.calls
    pub whole : IsBodyReader g t

  -- whether nothing follows what was taken: the stream was asked where nothing was buffered, for as much as there is room for,
  -- and nothing else is done
  pub record LooksBehind (s : BodyState S Q C P) (answer : Result Bool Error) (t : BodyState S Q C P) : Type 0 where
    pub went : BodyWent s [] t
    pub answers : MatchResult answer
        (λ none. MatchBool none ((t.reader.block.bytes ≡ []) × GaveNothingOnce s.reader t.reader)
        ((0 < length t.reader.block.bytes) × EachGave s.reader t.reader))
        (λ e. (t.reader.block.bytes ≡ []) × FaultedOnce s.reader e t.reader)
    pub asked : AskedWhere (λ bytes. bytes ≡ []) (unbuffered s.reader) (unbuffered t.reader)
    pub offer : (t.reader.log ≡ s.reader.log) ⊎ OfferedAll t.reader
    pub policy : t.reader.policy ≡ s.reader.policy
    pub still : t ≡ record s { reader = t.reader }
    pub whole : IsBodyReader g t

  -- what a read as one of std's does: it hands payload out, and an error is the stream's own, or its kind tells which it was
  abbrev pub ReadsAsIo : BodyState S Q C P → List ℕ → Result ℕ Error → BodyState S Q C P → Type 0
  ReadsAsIo s out (Ok n) t = ReadsPayload s out (Ok n) t
  ReadsAsIo s out (Err e) t = (why : BodyError W) × ReadsPayload s out (Err why) t × BecomesIo why e

  -- what a fill as one of std's does: it lends payload that is buffered, none only where the body ended
  abbrev pub FillsAsIo : BodyState S Q C P → Result (Bor (List ℕ)) Error → BodyState S Q C P → Type 0
  FillsAsIo s (Ok shown) t = FillsPayload s (Ok t.known) t × (shown.now ≡ take t.known t.reader.block.bytes)
  FillsAsIo s (Err e) t = (why : BodyError W) × FillsPayload s (Err why) t × BecomesIo why e
