-- What a server does, whatever its pieces are.
use Rattle.std.specs.Prelude.{◌≡◌, ℕ, ◌+◌, ◌^◌, ◌≤◌, ◌⊎◌, List, [], ◌∷◌, ◌++◌, length, Bool, true, false, not, MatchBool, Option, None, Some, Result, Ok, Err}
use Rattle.std.specs.List.{All}
use Rattle.std.specs.declared.io.Error.{Error}
use Rattle.buffer_redux.specs.Buffered.{Buffered}
use Rattle.buffer_redux.specs.BufWriter.{FlushedAlong, WasFlushed, WritesAlong}
use Rattle.buffer_redux.specs.Policy.{std_write_rules}
use Rattle.buffer_redux.specs.StreamLog.{StreamLog}
use Rattle.buffer_redux.specs.WriteParts.{WritesParts}
use Rattle.piece_reader.specs.declared.error.NextError.TheVariants as next
use Rattle.codec.specs.declared.serving.ServeError.{ServeError}
use Rattle.codec.specs.declared.serving.ServeError.TheVariants.{Failed, Flush, Read, Write, Wrong}
use Rattle.codec.specs.declared.serving.Served.{Served}
use Rattle.codec.specs.declared.serving.Served.TheVariants as served
use Rattle.codec.specs.declared.serving.Step.{Step}
use Rattle.codec.specs.declared.serving.Step.TheVariants as step
use Rattle.codec.specs.Answering.{WritesOnce}
use Rattle.codec.specs.AskedAgain.{StepRetried}
use Rattle.codec.specs.Fetching.{FlushedFirst}
use Rattle.piece_reader.specs.Grammar.{Grammar}
use Rattle.piece_reader.specs.NextPiece.{NextAnswer, PiecesWent}
use Rattle.piece_reader.specs.PieceReader.{ReaderState}

-- the reader of pieces, what answers them, and the writer of answers
pub record Server (S D A T P : Type 0) : Type 0 where
  pub pieces : ReaderState S D
  pub service : A
  pub answers : Buffered T P

abbrev pub server : {S D A T P : Type 0} → ReaderState S D → A → Buffered T P → Server S D A T P
server pieces service answers = record { pieces = pieces; service = service; answers = answers }

-- a piece: all bytes that it takes, its payload, and what was written for it
pub record Exchange : Type 0 where
  pub bytes : List ℕ
  pub payload : List ℕ
  pub reply : List ℕ

-- a part of each exchange, joined; the latest is first
abbrev pub joined_parts : (Exchange → List ℕ) → List Exchange → List ℕ
joined_parts part [] = []
joined_parts part (x ∷ earlier) = joined_parts part earlier ++ part x

-- each piece was answered, one after another: by its item, its payload, what is written for it, and whether a further one is
-- taken behind it
abbrev pub Converses : {A I : Type 0} → (List ℕ → I) → (A → I → List ℕ → List ℕ → Bool → A → Type 0) → A → List Exchange → Bool
    → A → Type 0
Converses item_of Answers a [] more b = (a ≡ b) × (more ≡ true)
Converses {A} item_of Answers a (x ∷ earlier) more b =
    (between : A) × Converses item_of Answers a earlier true between
    × Answers between (item_of x.bytes) x.payload x.reply more b

-- its bytes are a piece with its payload, or a last one
abbrev pub IsWholeExchange : {W : Type 0} → Grammar W → Exchange → Type 0
IsWholeExchange g x = g.piece x.bytes x.payload ⊎ g.last x.bytes x.payload

-- whether all was flushed as serving ended so: before the stream was asked for its end, which wasn't told already
abbrev pub is_flushed : Served → Bool → Bool
is_flushed served.End told = not told
is_flushed ended told = false

-- the writer was flushed, unless all was
abbrev pub FlushesLast : {T P : Type 0} → (T → StreamLog) → (T → T → Type 0) → Bool → Buffered T P → Result (Unit {0}) Error
    → Buffered T P → Type 0
FlushesLast tells trace flushed w answer v =
    MatchBool flushed ((answer ≡ Ok tt) × (v ≡ w)) (WasFlushed tells trace w answer v)

module _ {S D W I A T P : Type 0} (remaining : S → Option (List ℕ)) (tells : T → StreamLog) (trace : T → T → Type 0)
    (g : Grammar W) (item_of : List ℕ → I) (Answers : A → I → List ℕ → List ℕ → Bool → A → Type 0) where
  -- just these pieces were taken, each was answered, and just the answers were written; the latest is first
  pub record Exchanged (s : Server S D A T P) (exchanges : List Exchange) (more : Bool) (t : Server S D A T P) : Type 0 where
    pub pieces : All (IsWholeExchange g) exchanges
    pub taken : PiecesWent remaining g.most s.pieces (joined_parts (λ x. x.bytes) exchanges) t.pieces
    pub service : Converses item_of Answers s.service exchanges more t.service
    pub along : WritesAlong tells trace std_write_rules s.answers (joined_parts (λ x. x.reply) exchanges) t.answers

module _ {S D W I A T P : Type 0} (limit : ℕ) (remaining : S → Option (List ℕ)) (tells : T → StreamLog)
    (trace : T → T → Type 0) (g : Grammar W) (item_of : List ℕ → I) (Answers : A → I → List ℕ → List ℕ → Bool → A → Type 0) where
  -- answers were flushed if the stream had to be asked, and then this came of a step, made again where it was interrupted
  pub record Fetched (s : Server S D A T P) (answer : NextAnswer W) (ready : Buffered T P) (t : ReaderState S D) : Type 0 where
    pub steps : StepRetried limit remaining g s.pieces answer t
    pub first : FlushedFirst tells trace g s.pieces s.answers {A = Unit {0}} (Ok tt) t ready

  -- just this piece was taken, and its answer was written, by one write of parts
  pub record TookPiece (s : Server S D A T P) (x : Exchange) (more : Bool) (t : Server S D A T P) : Type 0 where
    pub ready : Buffered T P
    pub fetched : Fetched s (Ok (Some x.payload)) ready t.pieces
    pub all : fetched.steps.next.bytes ≡ x.bytes
    pub answers : Answers s.service (item_of x.bytes) x.payload x.reply more t.service
    pub written : WritesOnce tells trace ready x.reply t.answers

  -- there was no piece, and nothing was answered
  pub record TookNone (s : Server S D A T P) (answer : NextAnswer W) (t : Server S D A T P) : Type 0 where
    pub fetched : Fetched s answer t.answers t.pieces
    pub service : t.service ≡ s.service

  -- answers couldn't be flushed, and nothing was asked or taken
  pub record FlushFailed (s : Server S D A T P) (e : Error) (t : Server S D A T P) : Type 0 where
    pub first : FlushedFirst tells trace g s.pieces s.answers {A = Unit {0}} (Err e) t.pieces t.answers
    pub service : t.service ≡ s.service

  -- a piece was taken, and what it asks for was done, but the one write of its answer was refused
  pub record AnswerFailed (s : Server S D A T P) (x : Exchange) (e : Error) (t : Server S D A T P) : Type 0 where
    pub ready : Buffered T P
    pub fetched : Fetched s (Ok (Some x.payload)) ready t.pieces
    pub all : fetched.steps.next.bytes ≡ x.bytes
    pub answers : (more : Bool) × Answers s.service (item_of x.bytes) x.payload x.reply more t.service
    pub written : WritesParts tells trace ready x.reply (Err e) t.answers

  -- these exchanges, the latest first, one behind another; behind the last a further piece is taken, or none
  abbrev pub Talked : Server S D A T P → List Exchange → Bool → Server S D A T P → Type 0
  Talked s [] more t = (s ≡ t) × (more ≡ true)
  Talked s (x ∷ earlier) more t = (m : Server S D A T P) × Talked s earlier true m × TookPiece m x more t

  -- how they ended
  abbrev pub EndedBy : Served → List Exchange → Bool → Server S D A T P → Server S D A T P → Type 0
  EndedBy served.Closed exchanges more s t = (more ≡ false) × (s ≡ t)
  EndedBy served.End exchanges more s t = (more ≡ true) × TookNone s (Ok None) t
  EndedBy served.Many exchanges more s t = (more ≡ true) × (2 ^ 64 ≤ length exchanges + 1) × (s ≡ t)

  pub record ServingEnds (s : Server S D A T P) (ended : Served) (t : Server S D A T P) : Type 0 where
    pub exchanges : List Exchange
    pub more : Bool
    pub last : Server S D A T P
    pub talked : Talked s exchanges more last
    pub ends : EndedBy ended exchanges more last t

  -- what serving did: exchanges up to an end, behind which it flushed, unless all was. What was taken is their pieces, and no
  -- byte of another; and all answers were received and flushed
  pub record Serves (s : Server S D A T P) (ended : Served) (t : Server S D A T P) : Type 0 where
    pub answers : Buffered T P
    pub ends : ServingEnds s ended (server t.pieces t.service answers)
    pub last : FlushesLast tells trace (is_flushed ended ends.last.pieces.ended) answers (Ok tt) t.answers
    pub taken : PiecesWent remaining g.most s.pieces (joined_parts (λ x. x.bytes) ends.exchanges) t.pieces
    pub service : Converses item_of Answers s.service ends.exchanges ends.more t.service
    pub all : FlushedAlong tells trace std_write_rules s.answers (joined_parts (λ x. x.reply) ends.exchanges) t.answers

  module _ {F : Type 0} (Fails : A → I → List ℕ → F → A → Type 0) where
    -- a piece was taken, and the service failed at it; nothing was written for it
    pub record ServiceFailed (s : Server S D A T P) (why : F) (t : Server S D A T P) : Type 0 where
      pub payload : List ℕ
      pub fetched : Fetched s (Ok (Some payload)) t.answers t.pieces
      pub fails : Fails s.service (item_of fetched.steps.next.bytes) payload why t.service

    -- what one turn does
    abbrev pub ServesTurn : Server S D A T P → Result Step (ServeError W F) → Server S D A T P → Type 0
    ServesTurn s (Ok step.Went) t = (x : Exchange) × TookPiece s x true t
    ServesTurn s (Ok step.Closed) t = (x : Exchange) × TookPiece s x false t
    ServesTurn s (Ok step.End) t = TookNone s (Ok None) t
    ServesTurn s (Err (Read e)) t = TookNone s (Err (next.Io e)) t
    ServesTurn s (Err (Wrong e)) t = TookNone s (Err (next.Wrong e)) t
    ServesTurn s (Err (Write e)) t = FlushFailed s e t ⊎ ((x : Exchange) × AnswerFailed s x e t)
    ServesTurn s (Err (Failed why)) t = ServiceFailed s why t
    ServesTurn s (Err (Flush ended e)) t = ⊥

    -- how they failed: the flush behind an end did, or a turn
    abbrev pub FailedBy : ServeError W F → List Exchange → Bool → Server S D A T P → Server S D A T P → Type 0
    FailedBy (Flush ended e) exchanges more s t = (m : Server S D A T P) × EndedBy ended exchanges more s m
        × (t.pieces ≡ m.pieces) × (t.service ≡ m.service)
        × FlushesLast tells trace (is_flushed ended s.pieces.ended) m.answers (Err e) t.answers
    FailedBy e exchanges more s t = (more ≡ true) × ServesTurn s (Err e) t

    -- serving failed: exchanges, and then that
    pub record ServingFails (s : Server S D A T P) (e : ServeError W F) (t : Server S D A T P) : Type 0 where
      pub exchanges : List Exchange
      pub more : Bool
      pub last : Server S D A T P
      pub talked : Talked s exchanges more last
      pub fails : FailedBy e exchanges more last t
      pub exchanged : Exchanged remaining tells trace g item_of Answers s exchanges more last
