-- What a reader of a body does with its buffered reader.
use Rattle.std.specs.Prelude.{◌≡◌, ◌≢◌, ℕ, zero, suc, ◌+◌, ◌-◌, ◌*◌, ◌<◌, ◌≤◌, ◌⊎◌, List, [], ◌∷◌, ◌++◌, drop, length, take, Option, MatchOption, Result, Ok, Err, MatchResult}
use Rattle.std.specs.IoError.{error_kind}
use Rattle.std.specs.declared.io.Error.{Error}
use Rattle.std.specs.declared.io.ErrorKind.TheVariants.{InvalidData, UnexpectedEof}
use Rattle.buffer_redux.specs.Block.{Block, OnlyRingMoves, Plain}
use Rattle.buffer_redux.specs.Buffered.{Buffered}
use Rattle.buffer_redux.specs.BufReader.{ReaderConsumes, ReadsAlong}
use Rattle.buffer_redux.specs.Policy.{ClaimsToSpare, ReadRules}
use Rattle.buffer_redux.specs.Sparing.{Spared}
use Rattle.buffer_redux.specs.Unbuffer.{unbuffered}
use Rattle.body_reader.specs.declared.coding.Look.{Look}
use Rattle.body_reader.specs.declared.coding.Look.TheVariants.{Payload, Passed}
use Rattle.body_reader.specs.declared.error.BodyError.{BodyError}
use Rattle.body_reader.specs.declared.error.BodyError.TheVariants.{Wrong, Truncated, Io}
use Rattle.body_reader.specs.declared.progress.Progress.{Progress}
use Rattle.buffer_redux.specs.Asking.{AskedWhere}
use Rattle.body_reader.specs.Coding.{AskedFor, Grammar, IsDone, IsKnown, IsNextPayload, IsOpen, Leads, LeadsOpen, Looks, heeded}

-- each read that was made gave bytes
pub record EachGave {S Q : Type 0} (s t : Buffered S Q) : Type 0 where
  pub faults : t.log.reads.faults ≡ s.log.reads.faults
  pub zero_reads : t.log.reads.zero_reads ≡ s.log.reads.zero_reads
  pub asks : t.log.reads.asks + length s.log.reads.given ≤ s.log.reads.asks + length t.log.reads.given

-- no read failed, and one gave nothing though it was asked for something
abbrev pub GaveNothingOnce : {S Q : Type 0} → Buffered S Q → Buffered S Q → Type 0
GaveNothingOnce s t = (t.log.reads.faults ≡ s.log.reads.faults) × (t.log.reads.zero_reads ≡ s.log.reads.zero_reads + 1)

-- this error is the one fault that the stream met, and no read gave nothing
abbrev pub FaultedOnce : {S Q : Type 0} → Buffered S Q → Error → Buffered S Q → Type 0
FaultedOnce s e t =
    (t.log.reads.faults ≡ s.log.reads.faults ++ e ∷ []) × (t.log.reads.zero_reads ≡ s.log.reads.zero_reads)

-- why there is no further payload: the next bytes are wrong; or the stream gave nothing, or failed, where it was asked. Told is
-- how many bytes were taken, and what is bad, or else that the bytes settle nothing, is so
abbrev pub StopsFor : {S Q W : Type 0} → ℕ → (W → Type 0) → Type 0 → Buffered S Q → BodyError W → Buffered S Q → Type 0
StopsFor count Bad SettlesNothing s (Wrong why right) t = (right ≡ count) × EachGave s t × Bad why
StopsFor count Bad SettlesNothing s (Truncated right) t = (right ≡ count) × GaveNothingOnce s t × SettlesNothing
StopsFor count Bad SettlesNothing s (Io e) t = FaultedOnce s e t × SettlesNothing

-- such a policy leaves capacity and limit as they are, where it is told of a drop
abbrev pub LeavesRoom : {Q : Type 0} → ReadRules Q → Type 0
LeavesRoom {Q} rules = (p : Q) (b : Block) (n : ℕ) (p' : Q) (b' : Block) → rules.after_consume p b n p' b'
    → (b'.capacity ≡ b.capacity) × (b'.limit ≡ b.limit)

-- such a one moves nothing then
abbrev pub LeavesPlaces : {Q : Type 0} → ReadRules Q → Type 0
LeavesPlaces {Q} rules = (p : Q) (b : Block) (n : ℕ) (p' : Q) (b' : Block) → rules.after_consume p b n p' b' → b'.moved ≡ b.moved

-- the buffer keeps its kind; its capacity and limit, unless the policy changes them; a plain one its bytes where they stand,
-- unless the policy moves them, where the stream wasn't asked, or this number, which a look needs, is 1 at most; each number is
-- spared that the policy claims to spare, and is at least this one; and the buffered reader notes no call as its own
pub record KeepsBuffer {S Q : Type 0} (rules : ReadRules Q) (least : ℕ) (s t : Buffered S Q) : Type 0 where
  pub kind : t.block.kind ≡ s.block.kind
  pub room : LeavesRoom rules → (t.block.capacity ≡ s.block.capacity) × (t.block.limit ≡ s.block.limit)
  pub still : LeavesPlaces rules → t.log.reads.asks ≡ s.log.reads.asks → OnlyRingMoves s.block t.block
  pub unmoved : LeavesPlaces rules → least ≤ 1 → s.block.kind ≡ Plain → t.block.moved ≤ s.block.moved
  pub spared : (keep : ℕ) → least ≤ keep → ClaimsToSpare (rules.claims s.policy).spares keep → Spared keep s t
  pub noted : t.own_calls ≡ s.own_calls

-- these bytes were taken through the buffer
abbrev pub TakenThrough : {S Q : Type 0} → Buffered S Q → List ℕ → Buffered S Q → Type 0
TakenThrough s wire t = t.block.consumed ≡ s.block.consumed + length wire

-- the payload that an answer hands out of a slice: its first bytes, or none
abbrev pub handed_out : {E : Type 0} → List ℕ → Result ℕ E → List ℕ
handed_out out (Ok n) = take n out
handed_out out (Err e) = []

-- nothing is read past a buffer of such a capacity into a smaller slice: behind what is handed out that stays as it was, and all
-- of it where the call fails
abbrev pub LeavesRest : {E : Type 0} → ℕ → List ℕ → Result ℕ E → List ℕ → Type 0
LeavesRest capacity out answer out' =
    length out < capacity → MatchResult answer (λ n. drop n out' ≡ drop n out) (λ _. out' ≡ out)

-- each byte that is passed spends two of these, and each that is read ahead one
abbrev pub spend : {P W : Type 0} → Grammar P W → P → List ℕ → ℕ
spend g p bytes = 2 * g.between p + (g.ahead - length bytes)

-- a read that has to look: no payload is known, the slice isn't empty, and the buffer holds what a look needs
pub record BeginsRead {S Q P W : Type 0} (g : Grammar P W) (s : Buffered S Q) (p : Progress P) (known : ℕ) (out : List ℕ)
    : Type 0 where
  pub place : g.is_place p.place
  pub room : g.ahead ≤ s.block.capacity
  pub none : known ≡ 0
  pub some : 0 < length out

module _ {P W : Type 0} (g : Grammar P W) where
  -- a look says so, and nothing that is no payload comes next
  abbrev pub LooksNext : P → List ℕ → Look P W → Type 0
  LooksNext p shown look = Looks g p shown look × ((n : ℕ) (r : P) → look ≢ Passed n r)

  -- so many bytes are all that are buffered, or as many as a look says are payload
  abbrev pub AllShown : P → ℕ → List ℕ → Type 0
  AllShown p n bytes = (n ≡ length bytes) ⊎ IsNextPayload g p n bytes

  -- of the bytes that were taken the last are payload, behind some in which there is none, and so many of what is left are known
  -- to be: together all that there is, or that a look says
  pub record KnowsAll (p : P) (taken taken' last : List ℕ) (known : ℕ) (left : List ℕ) : Type 0 where
    pub wire : List ℕ
    pub equal : taken' ≡ taken ++ (wire ++ last)
    pub place : P
    pub is_place : g.is_place place
    pub leads : Leads g p wire [] place (heeded g (last ++ left))
    pub all : AllShown place (length last + known) (last ++ left)

module _ {S Q P W : Type 0} (remaining : S → Option (List ℕ)) (rules : ReadRules Q) (g : Grammar P W) where
  -- what any calls do that take these bytes of a body, in which there is this payload
  pub record TakesBytes (s : Buffered S Q) (p : Progress P) (wire handed : List ℕ) (t : Buffered S Q) (q : Progress P)
      : Type 0 where
    pub along : ReadsAlong remaining rules s wire t
    pub leads : Leads g p.place wire handed q.place (heeded g t.block.bytes)
    pub taken : q.taken.log.fills.consumed ≡ p.taken.log.fills.consumed ++ wire
    pub place : g.is_place q.place
    pub keeps : KeepsBuffer rules g.ahead s t

  -- the stream is asked only where nothing was settled, and no payload was left
  abbrev pub AsksOpen : Buffered S Q → P → Buffered S Q → Type 0
  AsksOpen s p t = AskedWhere (LeadsOpen g p []) (unbuffered s) (unbuffered t)

  -- and where nothing was buffered it was offered as much of a slice that takes so many as surely is payload
  abbrev pub AsksWithRoom : ℕ → Buffered S Q → P → Buffered S Q → Type 0
  AsksWithRoom room s p t = AskedWhere (AskedFor g p room t.log.reads.offer) (unbuffered s) (unbuffered t)

  -- a pass: all that a look said is no payload was dropped, and the policy told so once; or bytes were read ahead, and it was
  -- told nothing
  abbrev pub PassesOnce : Buffered S Q → P → Buffered S Q → P → Type 0
  PassesOnce s p t q = ((n : ℕ) × Looks g p s.block.bytes (Passed n q) × ReaderConsumes rules n s t)
      ⊎ (ReadsAlong remaining rules s [] t × (t.policy ≡ s.policy) × (q ≡ p))

  -- so many, one after another
  abbrev pub PassesMany : ℕ → Buffered S Q → P → Buffered S Q → P → Type 0
  PassesMany zero s p t q = (t ≡ s) × (q ≡ p)
  PassesMany (suc count) s p t q = (m : Buffered S Q) × (r : P) × PassesOnce s p m r × PassesMany count m r t q

  abbrev pub PassesTo : Buffered S Q → P → Buffered S Q → P → Type 0
  PassesTo s p t q = (count : ℕ) × PassesMany count s p t q

  -- what is no payload was passed, and then the policy was told once of so many bytes of payload, unless they were read past the
  -- buffer
  pub record TellsOnce (s : Buffered S Q) (p : P) (n : ℕ) (t : Buffered S Q) (q : P) : Type 0 where
    pub front : Buffered S Q
    pub place : P
    pub passes : PassesTo s p front place
    pub once : ((n ≡ 0) × (t ≡ front) × (q ≡ place))
        ⊎ ((0 < n) × (ReaderConsumes rules n front t ⊎ ((t.block ≡ front.block) × (t.policy ≡ front.policy))))

  -- a piece of payload was handed out: what is no payload was passed, unless some was known, and then the policy was told of the
  -- piece once. With what stays known it is what was known, or all that there is, or that a look says
  pub record HandsPiece (s : Buffered S Q) (p : P) (before n : ℕ) (t : Buffered S Q) (q : P) (after : ℕ) : Type 0 where
    pub some : 0 < n
    pub front : Buffered S Q
    pub place : P
    pub passes : PassesTo s p front place
    pub consumed : ReaderConsumes rules n front t
    pub leads : Leads g place (take n front.block.bytes) (take n front.block.bytes) q (heeded g t.block.bytes)
    pub known : 0 < before → (front ≡ s) × (n + after ≡ before)
    pub shown : before ≡ 0 → AllShown g place (n + after) front.block.bytes

  -- so many pieces, one after another, and a further one only where none stayed known
  abbrev pub HandsManyPieces : ℕ → Buffered S Q → P → ℕ → ℕ → Buffered S Q → P → ℕ → Type 0
  HandsManyPieces zero s p before handed t q after = (handed ≡ 0) × (t ≡ s) × (q ≡ p) × (after ≡ before)
  HandsManyPieces (suc count) s p before handed t q after = (fewer n known : ℕ) × (m : Buffered S Q) × (r : P)
      × HandsManyPieces count s p before fewer m r known × HandsPiece m r known n t q after
      × (0 < fewer → known ≡ 0) × (handed ≡ fewer + n)

  -- pieces, and then what is no payload was passed, unless as much was handed out as there is room for
  pub record HandsPiecewise (room : ℕ) (s : Buffered S Q) (p : P) (before handed : ℕ) (t : Buffered S Q) (q : P) (after : ℕ)
      : Type 0 where
    pub count : ℕ
    pub last : Buffered S Q
    pub place : P
    pub pieces : HandsManyPieces count s p before handed last place after
    pub passes : PassesTo last place t q
    pub still : handed ≡ room → (t ≡ last) × (q ≡ place)

  -- bytes that are buffered and no payload were taken; nobody is asked. What is spent by that can't be spent again, and once the
  -- body ended nothing is done
  pub record PassesOn (s : Buffered S Q) (p : Progress P) (t : Buffered S Q) (q : Progress P) : Type 0 where
    pub wire : List ℕ
    pub takes : TakesBytes s p wire [] t q
    pub told : t.log ≡ s.log
    pub through : TakenThrough s wire t
    pub passes : PassesTo s p.place t q.place
    pub spends : spend g q.place t.block.bytes ≤ spend g p.place s.block.bytes
    pub idle : IsDone g p.place → (t ≡ s) × (q ≡ p)

  -- why there is no further payload
  abbrev pub PayloadFails : Buffered S Q → BodyError W → Buffered S Q → Progress P → Type 0
  PayloadFails s e t q = StopsFor q.count (g.wrong q.place t.block.bytes) (IsOpen g q.place t.block.bytes) s e t

  -- payload comes next, surely so many bytes, or none since the body ended
  abbrev pub Settles : P → List ℕ → ℕ → Type 0
  Settles p shown sure = ((sure ≡ 0) × IsDone g p) ⊎ Looks g p shown (Payload sure)

  -- a way on that hands out this payload, for a slice that takes so many. It takes all through the buffer, or asks for no less
  -- payload than that holds; once the body ended nothing is done
  pub record Way (room : ℕ) (s : Buffered S Q) (p : Progress P) (handed : List ℕ) (t : Buffered S Q) (q : Progress P) : Type 0
    where
      pub wire : List ℕ
      pub takes : TakesBytes s p wire handed t q
      pub asked : AsksWithRoom room s p.place t
      pub through : TakenThrough s wire t ⊎ ((0 < length handed) × (s.block.capacity ≤ t.log.reads.offer))
      pub tells : TellsOnce s p.place (length handed) t q.place
      pub idle : IsDone g p.place → (t ≡ s) × (q ≡ p)

  -- what a call does that goes such a way, and what its answer means
  abbrev pub Proceeds : {A : Type 0} → ℕ → Buffered S Q → Progress P → List ℕ → Result A (BodyError W) → (A → Type 0)
      → Buffered S Q → Progress P → Type 0
  Proceeds room s p handed answer Means t q =
      Way room s p handed t q × MatchResult answer (λ a. EachGave s t × Means a) (λ e. PayloadFails s e t q)

  -- taking all that is no payload: how many bytes of payload surely come next
  abbrev pub SkipsOn : ℕ → Buffered S Q → Progress P → Result ℕ (BodyError W) → Buffered S Q → Progress P → Type 0
  SkipsOn room s p answer t q = Proceeds room s p [] answer (Settles q.place t.block.bytes) t q

  -- and having some buffered: how many bytes of it are
  abbrev pub ShowsOn : ℕ → Buffered S Q → Progress P → Result ℕ (BodyError W) → Buffered S Q → Progress P → Type 0
  ShowsOn room s p answer t q = Proceeds room s p [] answer
      (λ n. IsKnown g q.place n t.block.bytes × (n ≡ 0 → IsDone g q.place) × (0 < n → AllShown g q.place n t.block.bytes)) t q

  -- taking the first bytes, of those that are known to be payload
  pub record TakesFront (n : ℕ) (s : Buffered S Q) (p : Progress P) (before : ℕ) (t : Buffered S Q) (q : Progress P) (after : ℕ)
      : Type 0 where
    pub takes : TakesBytes s p (take n s.block.bytes) (take n s.block.bytes) t q
    pub consumed : ReaderConsumes rules n s t
    pub left : after ≡ before - n
    pub known : IsKnown g q.place after t.block.bytes

  -- no payload can be handed out of these bytes: the body ended, or they settle nothing, or they are wrong
  abbrev pub NoneShown : P → List ℕ → Type 0
  NoneShown p bytes = IsDone g p ⊎ (IsOpen g p bytes ⊎ ((why : W) × g.wrong p bytes why))

  -- taking what is buffered and no payload, up to payload that is known; or none is, and what comes next is answered
  pub record FindsKnown (s : Buffered S Q) (p : Progress P) (before : ℕ) (next : Option (Look P W)) (t : Buffered S Q)
      (q : Progress P) (after : ℕ) : Type 0 where
    pub passes : PassesOn s p t q
    pub known : IsKnown g q.place after t.block.bytes
    pub kept : 0 < before → (t ≡ s) × (after ≡ before)
    pub all : before ≡ 0 → 0 < after → AllShown g q.place after t.block.bytes
    pub none : MatchOption next (0 < after)
        (λ look. (before ≡ 0) × (after ≡ 0) × LooksNext g q.place t.block.bytes look × NoneShown q.place t.block.bytes)

  -- handing out of what is buffered into a slice, which is left so, as much as it takes; nobody is asked. Where so much was known
  -- the policy is told of it once. Once the body ended, or where the slice is empty, nothing is done
  pub record HandsShown (s : Buffered S Q) (p : Progress P) (before : ℕ) (out : List ℕ) (handed : ℕ) (t : Buffered S Q)
      (q : Progress P) (after : ℕ) : Type 0 where
    pub wire : List ℕ
    pub takes : TakesBytes s p wire (take handed out) t q
    pub told : t.log ≡ s.log
    pub pieces : HandsPiecewise (length out) s p.place before handed t q.place after
    pub within : handed ≤ length out
    pub known : IsKnown g q.place after t.block.bytes
    pub left : handed ≤ before → after ≡ before - handed
    pub consumed : 0 < length out → length out ≤ before → ReaderConsumes rules (length out) s t
    pub idle : (IsDone g p.place ⊎ (length out ≡ 0)) → (handed ≡ 0) × (t ≡ s) × (q ≡ p) × (after ≡ before)
    pub full : (handed ≡ length out) ⊎ (after ≡ 0)
    pub all : (handed ≡ length out) ⊎ NoneShown q.place t.block.bytes

  -- so many bytes of payload were handed out into a slice, which is left so: no less than can be, and what a look told stays
  -- known. None comes into one that isn't empty only where the body ended
  abbrev pub HandsSome : ℕ → Progress P → List ℕ → Buffered S Q → Progress P → ℕ → ℕ → Type 0
  HandsSome before p out t q after n = (n ≤ length out) × (n ≡ 0 → 0 < length out → IsDone g q.place)
      × ((n ≡ length out) ⊎ (after ≡ 0))
      × (before ≡ 0 → 0 < n → KnowsAll g p.place p.taken.log.fills.consumed q.taken.log.fills.consumed (take n out) after
      t.block.bytes)

  -- handing payload out so; where the slice is empty nothing is done
  abbrev pub HandsOn : ℕ → Buffered S Q → Progress P → List ℕ → Result ℕ (BodyError W) → Buffered S Q → Progress P → ℕ → Type 0
  HandsOn before s p out answer t q after =
      Proceeds (length out) s p (handed_out out answer) answer (HandsSome before p out t q after) t q
      × (length out ≡ 0 → (answer ≡ Ok 0) × (t ≡ s) × (q ≡ p) × (after ≡ before))

-- an error as one of std's streams
abbrev pub BecomesIo : {W : Type 0} → BodyError W → Error → Type 0
BecomesIo (Wrong why count) e = error_kind e ≡ InvalidData
BecomesIo (Truncated count) e = error_kind e ≡ UnexpectedEof
BecomesIo (Io same) e = e ≡ same
