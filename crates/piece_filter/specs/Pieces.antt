-- A filter that hands out the payloads of pieces, one by one.
use Rattle.std.specs.Prelude.{◌≡◌, ℕ, ◌-◌, ◌≤◌, ◌⊎◌, List, [], ◌∷◌, ◌++◌, length, Bool, true, false, Option, None, Some, Result, Ok, Err}
use Rattle.std.specs.declared.io.Error.{Error}
use Rattle.buffer_redux.specs.Block.{by_kind}
use Rattle.buffer_redux.specs.BufReader.{RanDry}
use Rattle.buffer_redux.specs.BufWriter.{Flushes, WritesInOrder}
use Rattle.buffer_redux.specs.Buffered.{Buffered}
use Rattle.buffer_redux.specs.LogGrows.{ReadLogGrows}
use Rattle.buffer_redux.specs.Transfer.{DoesNothing}
use Rattle.buffer_redux.specs.declared.policy.StdPolicy.{StdPolicy}
use Rattle.piece_reader.specs.Decoding.{IsLent, bytes_at}
use Rattle.piece_reader.specs.Grammar.{Begins, Grammar, IsOpen}
use Rattle.piece_reader.specs.NextPiece.{AskedUnlessEnded, PiecesWent, empty_reads}
use Rattle.piece_reader.specs.PieceReader.{IsPieceReader, ReaderState, rest}
use Rattle.piece_reader.specs.Texts.{HasPieces, IsPieces}
use Rattle.piece_reader.specs.declared.decoder.Span.{Span}
use Rattle.forward.specs.Filter.{FilterRules}
use Rattle.programs.specs.Streams.{AllSent}
use Rattle.programs.specs.TakenIn.{target_of}

-- the parts of such a filter: a reader, the place of a payload that is held until it is passed, and a writer; what answers
-- payloads; which bytes are pieces, and what becomes of their payloads
pub record Piecewise (T R D X A W E : Type 0) : Type 1 where
  pub source : T → ReaderState R D
  pub held : T → Option Span
  pub target : T → Buffered W StdPolicy
  pub service : T → A
  -- what each call wants, and leaves, beside what all such filters do
  pub also : T → Type 0
  pub grammar : D → Grammar X
  -- what is written for a payload, and what it makes of what answers; and what is due of bytes
  pub answers : A → List ℕ → List ℕ → A → Type 0
  pub due : D → A → List ℕ → List ℕ → Type 0
  -- what comes next is no piece
  pub wrong : T → E → T → Type 0
  -- nothing may be written for a payload; or more than the writer's buffer takes, which grows then; all that was is known to be
  -- sent; why else a payload was refused; and how many may be lost where one wasn't written
  pub drops : Type 0
  pub grows : Type 0
  pub sent : T → Type 0
  pub refused : Error → T → Type 0
  pub loses : ℕ

-- these payloads were answered, one after another
abbrev pub AnswersAll : {A : Type 0} → (A → List ℕ → List ℕ → A → Type 0) → A → List (List ℕ) → List ℕ → A → Type 0
AnswersAll Answers a [] reply b = (reply ≡ []) × (b ≡ a)
AnswersAll {A} Answers a (payload ∷ payloads) reply b =
    (between : A) × (first : List ℕ) × (more : List ℕ) × Answers a payload first between
    × AnswersAll Answers between payloads more b × (reply ≡ first ++ more)

-- the payload that is held, where one is
abbrev pub held_at : {R D : Type 0} → ReaderState R D → Option Span → List (List ℕ)
held_at m (Some span) = bytes_at span m.reader.block.bytes ∷ []
held_at m None = []

-- the reader lends it
abbrev pub CanShow : {R D X : Type 0} → Grammar X → ReaderState R D → Option Span → Type 0
CanShow g m (Some span) = IsLent g m.handed m.reader.block.bytes span
CanShow g m None = Unit {0}

-- all that is left was looked at, where it settled nothing; and what was looked at stays so
pub record StaysSeen {R D X : Type 0} (g : Grammar X) (s t : ReaderState R D) : Type 0 where
  pub stays : s.seen ≤ t.seen
  pub all : IsOpen g (rest s) → length (rest s) ≤ t.seen

-- the last ask was for the whole buffer
abbrev pub OfferedWhole : {R D : Type 0} → ReaderState R D → Type 0
OfferedWhole m = m.reader.log.reads.offer ≡ m.reader.block.capacity

-- the bytes are pieces with these payloads, the last of which may be one only since the stream ended
abbrev pub IsText : {X : Type 0} → Grammar X → List ℕ → List (List ℕ) → Bool → Type 0
IsText g bytes payloads ended = IsPieces g bytes payloads [] ⊎ (HasPieces g bytes payloads × (ended ≡ true))

module _ {T R D X A W E : Type 0} (f : Piecewise T R D X A W E) where
  abbrev pub grammar_of : T → Grammar X
  grammar_of s = f.grammar (f.source s).decoder

  abbrev pub held_of : T → List (List ℕ)
  held_of s = held_at (f.source s) (f.held s)

  -- what each call of the filter wants
  pub record IsReady (s : T) : Type 0 where
    pub whole : IsPieceReader (grammar_of s) (f.source s)
    pub shows : CanShow (grammar_of s) (f.source s) (f.held s)
    pub also : f.also s

  -- the stream ended behind a last piece, which no call has told yet
  abbrev pub HasEnded : T → Type 0
  HasEnded s = (f.source s).ended ≡ true

  -- how payloads end: nothing is left, and the reader gave no more, asked for the whole buffer unless a last piece was there; or
  -- what comes next is wrong
  abbrev pub PiecesEnd : T → Result (Unit {0}) E → T → Type 0
  PiecesEnd s (Ok _) t =
      (rest (f.source t) ≡ []) × (HasEnded s ⊎ RanDry (f.source s).reader (f.source t).reader)
      × (empty_reads (f.source s).reader ≤ empty_reads (f.source t).reader) × (HasEnded t ⊎ OfferedWhole (f.source t))
  PiecesEnd s (Err why) t = f.wrong s why t

  -- what is wrong stays so; what is due of whole pieces is what becomes of them; and what is known to be sent was
  pub record IsCoherent : Type 0 where
    pub wrong_after : (a b c : T) (why : E) → empty_reads (f.source a).reader ≤ empty_reads (f.source b).reader → f.wrong b why c
        → f.wrong a why c
    pub is_due : (d : D) (a b : A) (bytes left reply : List ℕ) (p : List (List ℕ)) → IsPieces (f.grammar d) bytes p []
        → IsOpen (f.grammar d) left → AnswersAll f.answers a p reply b → f.due d a (bytes ++ left) reply
    pub all_sent : (s : T) → f.sent s → AllSent (f.target s)

  -- what becomes of these payloads was taken in, by the buffer as it was unless it may grow
  pub record TakesReplies (s : T) (payloads : List (List ℕ)) (t : T) : Type 0 where
    pub reply : List ℕ
    pub answers : AnswersAll f.answers (f.service s) payloads reply (f.service t)
    pub in_order : WritesInOrder (f.target s) reply (f.target t)
    pub room : ¬ f.grows → (f.target t).block.capacity ≡ (f.target s).block.capacity

  -- what writes, and what answers, were let be
  pub record Keeps (s t : T) : Type 0 where
    pub target : f.target t ≡ f.target s
    pub service : f.service t ≡ f.service s
    pub sent : f.sent s → f.sent t

  -- the writer was let be, or flushed by one call, whose answer this is
  abbrev pub FlushesOrNot : T → Result (Unit {0}) Error → T → Type 0
  FlushesOrNot s answer t =
      DoesNothing tt (f.target s).block (f.target s).log answer (f.target t).block (f.target t).log
      ⊎ Flushes (f.target s) answer (f.target t)

module _ {T R D X A W E : Type 0} (remaining : R → Option (List ℕ)) (f : Piecewise T R D X A W E) where
  -- these payloads are what was held, then what the reader handed out, but for what is held still. Where that was nothing, what
  -- was looked at stays so
  pub record HandsPieces (s : T) (payloads : List (List ℕ)) (t : T) : Type 0 where
    pub bytes : List ℕ
    pub got : List (List ℕ)
    pub went : PiecesWent remaining (grammar_of f s).most (f.source s) bytes (f.source t)
    pub text : IsText (grammar_of f s) bytes got (f.source t).ended
    pub order : held_of f s ++ got ≡ payloads ++ held_of f t
    pub dry : HasEnded f t → HasEnded f s ⊎ RanDry (f.source s).reader (f.source t).reader
    pub behind : HasEnded f s → (bytes ≡ []) × (got ≡ []) × HasEnded f t
    pub seen : got ≡ [] → (f.source s).seen ≤ (f.source t).seen

  abbrev pub piece_rules : FilterRules T E
  piece_rules = record {
    read = λ s. (f.source s).reader.log;
    target = λ s. target_of (f.target s);
    ready = λ s. IsReady f s;
    hands = HandsPieces;
    takes = TakesReplies f;
    has = λ s. ¬ (f.held s ≡ None);
    lacks = λ s. (f.held s ≡ None) × ¬ (Begins (grammar_of f s) (rest (f.source s)));
    waits = λ s.
        (f.held s ≡ None) × IsOpen (grammar_of f s) (rest (f.source s)) × ((f.source s).ended ≡ false)
        × (rest (f.source s) ≡ [] → OfferedWhole (f.source s));
    sent = f.sent;
    spare = 0;
    rounds = λ s. by_kind (f.target s).block.kind 0 4095;
    flushes = FlushesOrNot f;
    asks = λ s t. AskedUnlessEnded (IsOpen (grammar_of f s)) (f.source s) (f.source t)
        × ReadLogGrows (f.source s).reader.log.reads (f.source t).reader.log.reads;
    looks = λ s t. StaysSeen (grammar_of f s) (f.source s) (f.source t);
    wants = λ s. (grammar_of f s).most - length (rest (f.source s));
    ends = λ s how t. (f.held t ≡ None) × PiecesEnd f s how t;
    closed = λ s. HasEnded f s;
    fresh = λ s. ((f.target s).block.bytes ≡ []) × (f.held s ≡ None);
    due = λ s bytes. f.due (f.source s).decoder (f.service s) (rest (f.source s) ++ bytes);
    drops = f.drops;
    refused = f.refused;
    loses = f.loses;
  }
